use Rattle.std.proofs.Common.{arith}
use Rattle.field.proofs.RowDigits.{taken_more, taken_all}
use Rattle.field.proofs.row_digits.write_digits.Goals as goal

pub loop-d-preserved : goal.loop-d-preserved
loop-d-preserved c = taken_more _ _ _ _ _ _ c.loop-d.auto.row (omega arith) c.loop-d.invariant

pub returns : goal.returns
returns c = taken_all _ _ _ _ _ _ c.loop-d.auto.row (omega arith) c.loop-d.invariant
