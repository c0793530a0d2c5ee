use Rattle.std.proofs.Common.{◌≡◌, ◌<◌}
use Rattle.field.specs.Ring.{power}
use Rattle.field.proofs.powers.power_code.Given as goal

abbrev pub invariant-loop-rest : goal.invariant-loop-rest
invariant-loop-rest g l =
    (l.result < (g.R.Ring.meaning l.ring).order)
    × ((g.R.Ring.meaning l.ring).product l.result (power (g.R.Ring.meaning l.ring) l.base l.rest) ≡ power (g.R.Ring.meaning l.ring) l.a l.n)

abbrev pub decreases-loop-rest : goal.decreases-loop-rest
decreases-loop-rest g l = l.rest
