use Rattle.std.proofs.Common.{◌*◌}
use Rattle.field.specs.Ring.{power}
use Rattle.field.specs.Polynomial.{coefficient}
use Rattle.field.specs.Rows.{Written}
use Rattle.split.proofs.roots.root_codes.Given as goal

abbrev pub invariant-loop-i : goal.invariant-loop-i
invariant-loop-i g l = Written l.initial.c-items l.c-items 0 l.i (λ i. power (g.R.Ring.meaning l.ring) (coefficient l.f (l.p * i)) l.n)
