use Rattle.std.proofs.Common.{ℕ, ◌<◌, get_or}
use Rattle.poly.proofs.checks.check.Given as goal

abbrev pub invariant-loop-i : goal.invariant-loop-i
invariant-loop-i g l = (k : ℕ) → k < l.i → get_or l.f k 0 < l.order
