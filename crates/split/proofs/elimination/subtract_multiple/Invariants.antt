use Rattle.std.proofs.Common.{◌≡◌, ℕ, ◌<◌, ◌≤◌, get_or}
use Rattle.split.specs.Echelon.{less}
use Rattle.split.proofs.elimination.subtract_multiple.Given as goal

abbrev pub invariant-loop-i : goal.invariant-loop-i
invariant-loop-i g l =
    ((k : ℕ) → k < l.i → get_or l.into k 0 ≡ less (g.R.Ring.meaning l.ring) l.t (get_or l.initial.into k 0) (get_or l.from k 0))
    × ((k : ℕ) → l.i ≤ k → get_or l.into k 0 ≡ get_or l.initial.into k 0)
