-- A matrix of codes in a slice, row by row, and combinations of its rows. Row 0 takes no part.
use Rattle.std.specs.Prelude.{◌≡◌, ℕ, suc, ◌+◌, ◌-◌, ◌*◌, ◌<◌, ◌≤◌, List, Some, None, Option, slice_index}
use Rattle.field.specs.Ring.{RingMeaning, one, total}

-- what stands in row j at column i, where a row has d codes
abbrev pub cell : List ℕ → ℕ → ℕ → ℕ → ℕ
cell codes d j i = slice_index codes (j * d + i)

-- the first n codes are elements of the ring
abbrev pub Codes : RingMeaning → ℕ → List ℕ → Type 0
Codes m n codes = (k : ℕ) → k < n → slice_index codes k < m.order

-- the combination of v 1 to v n with the coefficients c: c 1 times v 1 and so on to c n times v n, summed
abbrev pub combined : RingMeaning → ℕ → (ℕ → ℕ) → (ℕ → ℕ) → ℕ
combined m n c v = total m n (λ j. m.product (c (suc j)) (v (suc j)))

-- no combination of rows 1 to n is zero but the trivial one
abbrev pub Independent : RingMeaning → ℕ → ℕ → List ℕ → Type 0
Independent m d n rows =
    (c : ℕ → ℕ) → ((j : ℕ) → c j < m.order) → ((i : ℕ) → i < d → combined m n c (λ j. cell rows d j i) ≡ 0) →
    (j : ℕ) → 1 ≤ j → j ≤ n → c j ≡ 0

-- Row e is the first that depends on the rows before it: rows 1 to e - 1 are independent, and some combination of rows 1 to e with a
-- one at e is zero. There is only one such combination, and it stands in row d + e of the new codes, coefficient j at column j.
pub record Dependent (m : RingMeaning) (d e : ℕ) (old new : List ℕ) : Type 0 where
  pub low : 1 ≤ e
  pub high : e < d
  pub unit : cell new d (d + e) e ≡ one m
  pub none_first : cell new d (d + e) 0 ≡ 0
  pub none_beyond : (j : ℕ) → e < j → j < d → cell new d (d + e) j ≡ 0
  pub vanishes : (i : ℕ) → i < d → combined m (d - 1) (cell new d (d + e)) (λ j. cell old d j i) ≡ 0
  pub least : Independent m d (e - 1) old
  pub only : (c : ℕ → ℕ) → ((j : ℕ) → c j < m.order) → c e ≡ one m → ((j : ℕ) → e < j → j < d → c j ≡ 0)
      → ((i : ℕ) → i < d → combined m (d - 1) c (λ j. cell old d j i) ≡ 0) → (j : ℕ) → 1 ≤ j → j < d → c j ≡ cell new d (d + e) j

-- what the search for a dependent row answers
abbrev pub Answer : RingMeaning → ℕ → List ℕ → List ℕ → Option ℕ → Type 0
Answer m d old new None = Independent m d (d - 1) old
Answer m d old new (Some e) = Dependent m d e old new
