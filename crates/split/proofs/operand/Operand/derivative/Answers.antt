use Rattle.std.proofs.Common.{◌≡◌, length, ap, arith}
use Rattle.field.specs.Polynomial.{derivative}
use Rattle.poly.specs.Faults.{operand_refusal}
use Rattle.poly.proofs.Operands.{canonical_is_taken}
use Rattle.split.proofs.Unrefused.{written_ok, derivative_short}
use Rattle.split.proofs.operand.Operand.derivative.Goals as goal

pub unwrap-n-requires : goal.unwrap-n-requires
unwrap-n-requires g c =
    let m = g.F.Ring.meaning c.args.self.now.field.now in
    let f = c.args.self.now.f.now in
    let t = c.args.self.now.taken in
    written_ok (operand_refusal m f) (canonical_is_taken m f t.canonical t.short) (λ r. r ≡ derivative m f) _ c.derivative.new.out c.derivative.result
    (λ r e. omega (arith, ap length e, derivative_short m f, t.short, t.positive)) c.derivative.ensures
