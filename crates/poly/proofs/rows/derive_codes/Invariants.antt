use Rattle.std.proofs.Common.{◌≡◌, ℕ, ◌+◌, ◌<◌, get_or}
use Rattle.field.specs.Ring.{multiple}
use Rattle.poly.proofs.rows.derive_codes.Given as goal

abbrev pub invariant-loop-i : goal.invariant-loop-i
invariant-loop-i g l = (k : ℕ) → k < l.i → get_or l.row k 0 ≡ multiple (g.R.Ring.meaning l.ring) (k + 1) (get_or l.f (k + 1) 0)
