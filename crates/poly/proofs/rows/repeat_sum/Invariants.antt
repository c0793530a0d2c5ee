use Rattle.std.proofs.Common.{◌≡◌}
use Rattle.field.specs.Ring.{multiple}
use Rattle.poly.proofs.rows.repeat_sum.Given as goal

abbrev pub invariant-loop : goal.invariant-loop
invariant-loop g l = l.sum ≡ multiple (g.R.Ring.meaning l.ring) l.counter l.a
