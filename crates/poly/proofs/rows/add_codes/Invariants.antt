use Rattle.std.proofs.Common.{◌≡◌, ℕ, ◌<◌, get_or}
use Rattle.poly.proofs.rows.add_codes.Given as goal

abbrev pub invariant-loop-i : goal.invariant-loop-i
invariant-loop-i g l = (k : ℕ) → k < l.i → get_or l.row k 0 ≡ (g.R.Ring.meaning l.ring).sum (get_or l.f k 0) (get_or l.g k 0)
