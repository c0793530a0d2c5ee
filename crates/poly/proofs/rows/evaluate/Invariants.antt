use Rattle.std.proofs.Common.{◌≡◌, length}
use Rattle.poly.proofs.Values.{value_from}
use Rattle.poly.proofs.rows.evaluate.Given as goal

abbrev pub invariant-loop-c : goal.invariant-loop-c
invariant-loop-c g l = l.sum ≡ value_from (g.R.Ring.meaning l.ring) l.f l.x (length l.yielded)
