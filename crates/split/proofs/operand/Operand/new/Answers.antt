use Rattle.std.proofs.Common.{arith}
use Rattle.split.proofs.Taking.{refused, passed}
use Rattle.split.proofs.operand.Operand.new.Goals as goal

pub returns-in_err-ok : goal.returns-in_err-ok
returns-in_err-ok g c =
    rw c.from_residual.ensures (λ taken room. refused (g.F.Ring.meaning c.args.field.now) c.args.f.now c.check.result c.check.ensures c.in_err-ok.ensures.value taken)

pub invariant_of-result-clause-taken : goal.invariant_of-result-clause-taken
invariant_of-result-clause-taken g c =
    let w = passed (g.F.Ring.meaning c.args.field.now) c.args.f.now c.check.result _ c.check.ensures c.in_ok-ok.ensures.value in
    record { canonical = w.0; short = w.1; monic = c.if-f-d-ne-ONE.false; positive = omega (arith, c.if-d-eq0.false) }
