use Rattle.std.proofs.Common.{◌≡◌, ◌∷◌}
use Rattle.field.specs.Polynomial.{coefficient}
use Rattle.field.specs.Rows.{stepped}
use Rattle.field.proofs.RowSteps.{Upward}
use Rattle.field.proofs.row_products.step_row.Given as goal

abbrev pub invariant-loop-i : goal.invariant-loop-i
invariant-loop-i g l =
    Upward l.initial.row l.row l.i (stepped (g.R.Ring.meaning l.ring) l.lower l.a l.right l.initial.row)
    × (l.below ≡ coefficient (0 ∷ l.initial.row) l.i)
