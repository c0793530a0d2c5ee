-- A row without the zeros at its end, taken off one by one.
-- Main statements: trimmed_front, trimmed_short, trimmed_whole.
use Rattle.std.proofs.Common.{◌≡◌, ℕ, zero, suc, ◌-◌, ◌<◌, ◌≤◌, ◌≢◌, List, [], ◌∷◌, length, get_or, take, sym, refl, ap, ◌∙◌, ap₂, arith}
use native.Mathlib.Decide.{dec_lt}
use Rattle.std.proofs.lemmas.List.{get_or_past}
use Rattle.field.specs.Polynomial.{before_trimmed, trimmed, or_zero}
use Rattle.field.proofs.Rows.{trimmed_one, trimmed_all}

-- zeros at the end are dropped
trimmed_take : (row : List ℕ) (n : ℕ) → ((k : ℕ) → n ≤ k → get_or row k 0 ≡ 0) → trimmed (take n row) ≡ trimmed row
unfolding trimmed
trimmed_take [] zero h = refl
trimmed_take [] (suc n) h = refl
trimmed_take (a ∷ row) zero h = sym (ap₂ before_trimmed (h 0 (omega arith)) (sym (trimmed_take row zero (λ k l. h (suc k) (omega arith)))))
trimmed_take (a ∷ row) (suc n) h = ap (before_trimmed a) (trimmed_take row n (λ k l. h (suc k) (omega arith)))

-- a zero at the end is dropped
pub trimmed_front : (row : List ℕ) → get_or row (length row - 1) 0 ≡ 0 → trimmed (take (length row - 1) row) ≡ trimmed row
trimmed_front row z = trimmed_take row (length row - 1) (λ k h. elim (dec_lt k (length row)) [
  | yes l ↦ (let e : k ≡ length row - 1 = omega arith in ap (λ (i : ℕ). get_or row i 0) e ∙ z)
  | no l ↦ get_or_past row k 0 (omega arith)
])

-- nothing is dropped of one code, nor of a row that does not end in zero
pub trimmed_short : (row : List ℕ) → 0 < length row → length row < 2 → row ≡ or_zero (trimmed row)
trimmed_short row some short = sym (trimmed_one row (omega arith))

pub trimmed_whole : (row : List ℕ) → 0 < length row → get_or row (length row - 1) 0 ≢ 0 → row ≡ or_zero (trimmed row)
trimmed_whole row some ends = sym (trimmed_all row some ends)
