use Rattle.field.specs.Polynomials.{code_at}
use Rattle.poly.proofs.Operands.{taken_is_canonical}
use Rattle.poly.proofs.calls.value.Goals as goal

pub evaluate-requires-clause-codes : goal.evaluate-requires-clause-codes
evaluate-requires-clause-codes g c = code_at (g.R.Ring.meaning c.args.ring.now) (g.met.R.Ring.ring c.args.ring.now c.requires) c.args.f.now
    (taken_is_canonical (g.R.Ring.meaning c.args.ring.now) c.args.f.now c.in_ok-check.ensures).0
