use Rattle.std.proofs.Common.{arith, rules}
use Rattle.field.specs.Ring.{RingMeaning}
use Rattle.poly.proofs.Operands.{canonical_is_taken, refused_code, refused_last}
use Rattle.poly.proofs.checks.check.Goals as goal
use Rattle.poly.proofs.checks.check.Goals.{else-f-gt1-via-then-f-gt1+else-eq, else-f-gt1-via-else-f-gt1}

pub returns-then-from-order : goal.returns-then-from-order
returns-then-from-order g c =
    refused_code (g.R.Ring.meaning c.args.ring.now) c.args.f.now (omega arith) (omega arith) c.loop-i.i (omega arith)
    (λ k h. omega (arith, c.loop-i.invariant k h)) (omega arith)

pub returns-then-eq : goal.returns-then-eq
returns-then-eq g c =
    refused_last (g.R.Ring.meaning c.args.ring.now) c.args.f.now (omega arith) (omega arith)
    (λ k h. omega (arith, c.loop-i.invariant k (omega arith))) (omega arith) (search rules)

pub returns : goal.returns
returns g c =
    let m : RingMeaning = g.R.Ring.meaning c.args.ring.now in
    canonical_is_taken m c.args.f.now (record {
      some_code = search rules;
      codes = λ k h. omega (arith, c.loop-i.invariant k (omega arith));
      leads = λ h. search rules;
    }) (omega arith)
