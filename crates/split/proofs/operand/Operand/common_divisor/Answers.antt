use Rattle.std.proofs.Common.{arith}
use Rattle.field.specs.Polynomial.{IsCommonDivisor}
use Rattle.split.proofs.Unrefused.{written_ok, read_back, operands_taken}
use Rattle.split.proofs.ExactDivision.{divisor_short}
use Rattle.split.proofs.operand.Operand.common_divisor.Goals as goal

pub unwrap-n-requires : goal.unwrap-n-requires
unwrap-n-requires g c =
    let m = g.F.Ring.meaning c.args.self.now.field.now in
    let f = c.args.self.now.f.now in
    let t = c.args.self.now.taken in
    written_ok _ (operands_taken m f c.args.g.now t c.requires.other c.requires.short) (IsCommonDivisor m f c.args.g.now) _ c.gcd.new.out c.gcd.result
    (λ r w. omega (arith, divisor_short _ c.args.self.now.laws f r t w.canonical w.divides_left, t.short)) c.gcd.ensures.result

pub returns : goal.returns
returns g c =
    let m = g.F.Ring.meaning c.args.self.now.field.now in
    let f = c.args.self.now.f.now in
    read_back _ (operands_taken m f c.args.g.now c.args.self.now.taken c.requires.other c.requires.short) (IsCommonDivisor m f c.args.g.now) _ c.gcd.new.out c.gcd.result c.unwrap-n.result c.unwrap-n.ensures
    c.gcd.ensures.result c.new.result c.new.ensures
