-- The pivot of a row: the first column at which it is not zero.
-- Main statements: lead_is, lead_same, row_first.
use Rattle.std.proofs.Common.{◌≡◌, ℕ, zero, suc, ◌<◌, ◌≤◌, cond, eqb, List, sym, refl, ap, ◌∙◌, ap₂, arith}
use Rattle.std.proofs.lemmas.Bool.{cond-true, cond-false, eq-eqb, ne_eqb}
use Rattle.field.specs.Rows.{IsRow}
use Rattle.split.specs.Matrix.{cell}
use Rattle.split.specs.Echelon.{First, pivot_of, lead}

-- lead is what a search finds
pub lead_is : (n q : ℕ) (f : ℕ → ℕ) → q ≤ n → ((k : ℕ) → k < q → f k ≡ 0) → (q < n → f q ≡ 0 → ⊥) → lead f n ≡ q
unfolding lead
lead_is zero q f h z x = omega arith
lead_is (suc n) zero f h z x = cond-false (eqb (f 0) 0) (suc (lead (λ i. f (suc i)) n)) 0 (ne_eqb (f 0) 0 (x (omega arith)))
lead_is (suc n) (suc q) f h z x =
    cond-true (eqb (f 0) 0) (suc (lead (λ i. f (suc i)) n)) 0 (eq-eqb (f 0) 0 (z 0 (omega arith)))
    ∙ ap suc (lead_is n q (λ i. f (suc i)) (omega arith) (λ k l. z (suc k) (omega arith)) (λ l. x (omega arith)))

-- it depends on no more than what it looks at
pub lead_same : (n : ℕ) (f g : ℕ → ℕ) → ((k : ℕ) → k < n → f k ≡ g k) → lead f n ≡ lead g n
unfolding lead
lead_same zero f g e = refl
lead_same (suc n) f g e = ap₂ (λ (x y : ℕ). cond (eqb x 0) (suc y) 0) (e 0 (omega arith)) (lead_same n (λ i. f (suc i)) (λ i. g (suc i)) (λ k h. e (suc k) (omega arith)))

-- q is the first column at which row r is not zero, or d
pub record RowFirst (codes : List ℕ) (d r q : ℕ) : Type 0 where
  pub is_pivot : q ≡ pivot_of codes d r
  pub within : q ≤ d
  pub before : (k : ℕ) → k < q → cell codes d r k ≡ 0
  pub here : q < d → cell codes d r q ≡ 0 → ⊥

-- a search in row r
pub row_first : (codes row : List ℕ) (d r q : ℕ) → IsRow row d (cell codes d r) → First row q → RowFirst codes d r q
row_first codes row d r q is f =
    let within : q ≤ d = omega (arith, f.within, is.sized) in
    let before : (k : ℕ) → k < q → cell codes d r k ≡ 0 = λ k h. sym (is.at k (omega arith)) ∙ f.before k h in
    let here : q < d → cell codes d r q ≡ 0 → ⊥ = λ h z. f.here (omega (arith, is.sized)) (is.at q h ∙ z) in
    record { is_pivot = sym (lead_is d q (cell codes d r) within before here); within = within; before = before; here = here }
