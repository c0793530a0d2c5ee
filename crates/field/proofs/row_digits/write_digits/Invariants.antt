use Rattle.std.proofs.Common.{length}
use Rattle.field.proofs.RowDigits.{Taken}
use Rattle.field.proofs.row_digits.write_digits.Given as goal

abbrev pub invariant-loop-d : goal.invariant-loop-d
invariant-loop-d l = Taken l.b l.x (length l.initial.row) l.row l.d-index l.rest
