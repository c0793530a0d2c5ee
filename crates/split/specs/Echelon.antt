-- What the elimination keeps true. Row j of the scratch is row j of the matrix, and row d + j holds the coefficients of the combination
-- of the rows as they were at the start that row j has become.
use Rattle.std.specs.Prelude.{◌≡◌, ℕ, zero, suc, ◌+◌, ◌-◌, ◌*◌, ◌<◌, ◌≤◌, cond, ◌⊎◌, List, length, ◌==◌, ◌≢◌, slice_index}
use Rattle.field.specs.Ring.{RingMeaning, one}
use Rattle.split.specs.Matrix.{cell, combined, Codes}

-- the first i below n at which f is not zero, or n
unfoldable pub lead : (ℕ → ℕ) → ℕ → ℕ
lead f zero = 0
lead f (suc n) = cond (f 0 == 0) (suc (lead (λ i. f (suc i)) n)) 0

-- the column of the first code of row r that is not zero, or d
abbrev pub pivot_of : List ℕ → ℕ → ℕ → ℕ
pivot_of codes d r = lead (cell codes d r) d

-- r is the place of the first code that is not zero, or the length
pub record First (row : List ℕ) (r : ℕ) : Type 0 where
  pub within : r ≤ length row
  pub before : (k : ℕ) → k < r → slice_index row k ≡ 0
  pub here : r < length row → slice_index row r ≢ 0

-- the code at column i of the unit vector whose one stands at column e: in every ring 1 is the code of one
abbrev pub unit_at : ℕ → ℕ → ℕ
unit_at e i = cond (i == e) 1 0

-- only rows e and d + e differ
pub record Frame (d e : ℕ) (old new : List ℕ) : Type 0 where
  pub same : (k : ℕ) → (k < e * d) ⊎ (e * d + d ≤ k) → (k < (d + e) * d) ⊎ ((d + e) * d + d ≤ k) → slice_index new k ≡ slice_index old k

-- Rows 1 to n are in echelon form. Each is one at its pivot, where the later ones are zero, and the combination of the old rows that it says.
pub record Echelon (m : RingMeaning) (d : ℕ) (old codes : List ℕ) (n : ℕ) : Type 0 where
  pub pivot_in : (r : ℕ) → 1 ≤ r → r ≤ n → pivot_of codes d r < d
  pub pivot_one : (r : ℕ) → 1 ≤ r → r ≤ n → cell codes d r (pivot_of codes d r) ≡ one m
  pub clear : (r s : ℕ) → 1 ≤ r → r < s → s ≤ n → cell codes d s (pivot_of codes d r) ≡ 0
  pub made : (r i : ℕ) → 1 ≤ r → r ≤ n → i < d → cell codes d r i ≡ combined m (d - 1) (cell codes d (d + r)) (λ j. cell old d j i)
  pub none_first : (r : ℕ) → 1 ≤ r → r ≤ n → cell codes d (d + r) 0 ≡ 0
  pub none_beyond : (r j : ℕ) → 1 ≤ r → r ≤ n → r < j → j < d → cell codes d (d + r) j ≡ 0

-- Row e is zero at the pivots of rows 1 to k, and is old row e and a combination of old rows before it.
pub record Partly (m : RingMeaning) (d : ℕ) (old codes : List ℕ) (e k : ℕ) : Type 0 where
  pub clear : (r : ℕ) → 1 ≤ r → r ≤ k → cell codes d e (pivot_of codes d r) ≡ 0
  pub made : (i : ℕ) → i < d → cell codes d e i ≡ combined m (d - 1) (cell codes d (d + e)) (λ j. cell old d j i)
  pub unit : cell codes d (d + e) e ≡ one m
  pub none_first : cell codes d (d + e) 0 ≡ 0
  pub none_beyond : (j : ℕ) → e < j → j < d → cell codes d (d + e) j ≡ 0

-- x - t y
abbrev pub less : RingMeaning → ℕ → ℕ → ℕ → ℕ
less m t x y = m.sum x (m.opposite (m.product t y))

-- t times row r is taken from row e, and so with their combinations
pub record Subtracted (m : RingMeaning) (d r e t : ℕ) (old new : List ℕ) : Type 0 where
  pub frame : Frame d e old new
  pub row : (i : ℕ) → i < d → cell new d e i ≡ less m t (cell old d e i) (cell old d r i)
  pub combination : (i : ℕ) → i < d → cell new d (d + e) i ≡ less m t (cell old d (d + e) i) (cell old d (d + r) i)

-- row e and its combination are multiplied by u, which makes the row one at its pivot
pub record Scaled (m : RingMeaning) (d e u : ℕ) (old new : List ℕ) : Type 0 where
  pub code : u < m.order
  pub frame : Frame d e old new
  pub row : (i : ℕ) → i < d → cell new d e i ≡ m.product u (cell old d e i)
  pub combination : (i : ℕ) → i < d → cell new d (d + e) i ≡ m.product u (cell old d (d + e) i)
  pub pivot_in : pivot_of new d e < d
  pub pivot_one : cell new d e (pivot_of new d e) ≡ one m

-- Row e is cleared at the pivots of rows 1 to k: whatever the old rows were that the rows before it were made from.
abbrev pub Reduces : RingMeaning → ℕ → ℕ → List ℕ → List ℕ → ℕ → Type 0
Reduces m d e from codes k =
    (old : List ℕ) → Codes m (d * d) old → Echelon m d old from (e - 1) → Partly m d old from e 0 → Partly m d old codes e k

-- Row e, so far an old row, is cleared at the pivots of all rows before it, which stay.
abbrev pub Clears : RingMeaning → ℕ → ℕ → List ℕ → List ℕ → Type 0
Clears m d e from codes =
    (old : List ℕ) → Codes m (d * d) old → Echelon m d old from (e - 1) → ((i : ℕ) → i < d → cell from d e i ≡ cell old d e i) →
    Echelon m d old codes (e - 1) × Partly m d old codes e (e - 1)
