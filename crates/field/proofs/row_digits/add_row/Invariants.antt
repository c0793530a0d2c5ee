use Rattle.std.proofs.Common.{get_or}
use Rattle.field.proofs.RowSteps.{Upward}
use Rattle.field.proofs.row_digits.add_row.Given as goal

abbrev pub invariant-loop-i : goal.invariant-loop-i
invariant-loop-i g l = Upward l.initial.row l.row l.i (λ i. (g.R.Ring.meaning l.ring).sum (get_or l.initial.row i 0) (get_or l.right i 0))
