use Rattle.field.specs.Rows.{Written}
use Rattle.std.proofs.Common.{◌+◌, get_or}
use Rattle.poly.proofs.rows.add_multiple.Given as goal

abbrev pub invariant-loop-i : goal.invariant-loop-i
invariant-loop-i g l = Written l.initial.row l.row l.place l.i (λ i. (g.R.Ring.meaning l.ring).sum (get_or l.initial.row (l.place + i) 0) ((g.R.Ring.meaning l.ring).product l.t (get_or l.g i 0)))
