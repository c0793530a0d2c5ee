use Rattle.std.proofs.Common.{◌≡◌, ℕ, ◌<◌, ◌≤◌, ◌∷◌, get_or}
use Rattle.split.proofs.Residues.{raised}
use Rattle.split.proofs.remainders.Modulo.times_x.Given as goal

-- the codes before the place are written, and `below` is the old code before it
abbrev pub invariant-loop-i : goal.invariant-loop-i
invariant-loop-i g l =
    (l.below ≡ get_or (0 ∷ l.initial.row) l.i 0)
    × ((k : ℕ) → k < l.i → get_or l.row k 0 ≡ raised (g.R.Ring.meaning l.self.ring.now) l.self.f.now l.initial.row k)
    × ((k : ℕ) → l.i ≤ k → get_or l.row k 0 ≡ get_or l.initial.row k 0)
