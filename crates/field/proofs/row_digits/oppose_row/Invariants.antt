use Rattle.std.proofs.Common.{get_or}
use Rattle.field.proofs.RowSteps.{Upward}
use Rattle.field.proofs.row_digits.oppose_row.Given as goal

abbrev pub invariant-loop-c : goal.invariant-loop-c
invariant-loop-c g l = Upward l.initial.row l.row l.c-index (λ i. (g.R.Ring.meaning l.ring).opposite (get_or l.initial.row i 0))
