-- Rows of codes in memory.
use Rattle.std.specs.Prelude.{◌≡◌, ℕ, ◌+◌, ◌-◌, ◌<◌, ◌≤◌, Bool, true, ◌&&◌, List, [], ◌∷◌, length, MatchBool, Result, IsOk, IsErr, ◌==◌, nat_lt, slice_index}
use Rattle.field.specs.declared.row_products.RowFault.{RowFault}
use Rattle.field.specs.Ring.{RingMeaning}
use Rattle.field.specs.Polynomial.{coefficient, product}
use Rattle.field.specs.Quotient.{reduced_by}

-- the row of c 0 to c (n - 1)
pub record IsRow (row : List ℕ) (n : ℕ) (c : ℕ → ℕ) : Type 0 where
  pub sized : length row ≡ n
  pub at : (i : ℕ) → i < n → slice_index row i ≡ c i

-- the n codes from place p on are now c 0 to c (n - 1), and all others are as they were
pub record Written (old new : List ℕ) (p n : ℕ) (c : ℕ → ℕ) : Type 0 where
  pub inside : (i : ℕ) → i < n → slice_index new (p + i) ≡ c i
  pub before : (k : ℕ) → k < p → slice_index new k ≡ slice_index old k
  pub after : (k : ℕ) → p + n ≤ k → slice_index new k ≡ slice_index old k

-- whether each code of a row is below b
unfoldable pub each_below : ℕ → List ℕ → Bool
each_below b [] = true
each_below b (x ∷ xs) = nat_lt x b && each_below b xs

-- whether four rows have the same positive length, and the first three have codes of the ring only
abbrev pub rows_suit : RingMeaning → List ℕ → List ℕ → List ℕ → List ℕ → Bool
rows_suit m lower left right row =
    (nat_lt 0 (length row) && length lower == length row && length left == length row && length right == length row)
    && (each_below m.order lower && each_below m.order left && each_below m.order right)

-- The product of two rows modulo the monic polynomial with the lower codes `lower`: the answer r is Ok where the rows suit, and
-- else it is Err and the row is left as it was.
abbrev pub MultipliesModulo : RingMeaning → List ℕ → List ℕ → List ℕ → List ℕ → Result Unit RowFault → List ℕ → Type 0
MultipliesModulo m lower left right before r after =
    MatchBool (rows_suit m lower left right before) (IsOk r × (after ≡ reduced_by m lower (product m left right))) (IsErr r × (after ≡ before))

-- one step of that product: the code at place i of X old + a right, less the multiple of the monic polynomial that takes its
-- highest power away
abbrev pub stepped : RingMeaning → List ℕ → ℕ → List ℕ → List ℕ → ℕ → ℕ
stepped m lower a right old i =
    m.sum (m.sum (coefficient (0 ∷ old) i) (m.opposite (m.product (coefficient old (length old - 1)) (coefficient lower i)))) (m.product a (coefficient right i))
