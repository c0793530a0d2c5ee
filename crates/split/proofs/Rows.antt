-- Where the rows of the scratch lie: row j takes the d places from j * d on.
-- Main statements: row_end, row_inside, row_facts, rows_apart, row_code, scratch_code, combination_code.
use Rattle.std.proofs.Common.{◌≡◌, ℕ, ◌+◌, ◌*◌, ◌<◌, ◌≤◌, ◌⊎◌, List, inl, inr, ⊎_elim, add-mul, arith}
use Rattle.std.proofs.lemmas.Nat.{mul-le}
use Rattle.std.proofs.lemmas.Bool.{cases_order}
use Rattle.field.specs.Ring.{RingMeaning}
use Rattle.split.specs.Matrix.{cell, Codes}

-- row j ends where row j + 1 begins, and row n not before it if j is below n
pub row_end : (d j n : ℕ) → j < n → j * d + d ≤ n * d
row_end d j n h = omega (arith, mul-le (j + 1) d n d (omega arith) (omega arith), add-mul j 1 d)

-- each row lies within the scratch
pub row_inside : (d e : ℕ) → e < 2 * d → e * d + d ≤ 2 * (d * d)
row_inside d e h = omega (arith, row_end d e (2 * d) h)

-- what the bounds of the code need, as sums
pub record RowFacts (d e : ℕ) : Type 0 where
  pub row_within : e * d + d ≤ d * d
  pub combination_at : (d + e) * d ≡ d * d + e * d
  pub next : (e + 1) * d ≡ e * d + d
  pub side : d ≤ d * d

pub row_facts : (d e : ℕ) → e < d → RowFacts d e
row_facts d e h = record {
  row_within = row_end d e d h;
  combination_at = add-mul d e d;
  next = omega (arith, add-mul e 1 d);
  side = omega (arith, mul-le 1 d d d (omega arith) (omega arith));
}

-- a place of one row is before or after another row
pub rows_apart : (d j e i : ℕ) → (j ≡ e → ⊥) → i < d → (j * d + i < e * d) ⊎ (e * d + d ≤ j * d + i)
rows_apart d j e i ne h =
    ⊎_elim (λ (q : j ≡ e). absurd (ne q))
    (⊎_elim (λ (q : j < e). inl (omega (arith, row_end d j e q))) (λ (q : e < j). inr (omega (arith, row_end d e j q))))
    (cases_order j e)

-- codes of the matrix as it was, of the rows now, and of the combinations

pub row_code : (m : RingMeaning) (d j i : ℕ) (old : List ℕ) → Codes m (d * d) old → j < d → i < d → cell old d j i < m.order
row_code m d j i old b h k = b (j * d + i) (omega (arith, row_end d j d h))

pub scratch_code : (m : RingMeaning) (d j i : ℕ) (codes : List ℕ) → Codes m (2 * (d * d)) codes → j < d → i < d → cell codes d j i < m.order
scratch_code m d j i codes b h k = b (j * d + i) (omega (arith, row_end d j d h))

pub combination_code : (m : RingMeaning) (d j i : ℕ) (codes : List ℕ) → Codes m (2 * (d * d)) codes → j < d → i < d → cell codes d (d + j) i < m.order
combination_code m d j i codes b h k = let f = row_facts d j h in b ((d + j) * d + i) (omega arith)
