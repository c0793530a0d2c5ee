use Rattle.std.proofs.Common.{◌≡◌, ℕ, ◌-◌, ◌*◌, ◌<◌, ◌≤◌, get_or}
use Rattle.split.specs.Matrix.{cell}
use Rattle.split.specs.Kept.{Kept}
use Rattle.split.specs.Echelon.{Echelon}
use Rattle.split.proofs.elimination.Matrix.search.Given as goal

-- rows 1 to e - 1 are in echelon form, and the rows from e on are as they were
abbrev pub invariant-rows : goal.invariant-rows
invariant-rows g l =
    Kept l.initial.self l.self
    × Echelon (g.F.Ring.meaning l.initial.self.field.now) l.d l.initial.self.codes.now l.self.codes.now (l.e - 1)
    × ((j i : ℕ) → l.e ≤ j → j < l.d → i < l.d → cell l.self.codes.now l.d j i ≡ cell l.initial.self.codes.now l.d j i)
    × ((k : ℕ) → 2 * (l.d * l.d) ≤ k → get_or l.self.codes.now k 0 ≡ get_or l.initial.self.codes.now k 0)

-- nothing is written, and row e is zero so far
abbrev pub invariant-loop-column : goal.invariant-loop-column
invariant-loop-column g l = (l.self ≡ l.initial.self) × ((k : ℕ) → k < l.column → cell l.self.codes.now l.d l.e k ≡ 0)
