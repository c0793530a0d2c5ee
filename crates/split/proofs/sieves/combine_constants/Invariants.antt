use Rattle.std.proofs.Common.{◌≡◌, length}
use Rattle.field.specs.Polynomial.{coefficient}
use Rattle.split.specs.Matrix.{combined}
use Rattle.split.proofs.sieves.combine_constants.Given as goal

abbrev pub invariant-loop-c : goal.invariant-loop-c
invariant-loop-c g l = l.sum ≡ combined (g.R.Ring.meaning l.ring) (length l.yielded) (coefficient l.combination) (coefficient l.constants)
