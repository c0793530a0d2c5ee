-- The derivative of a constant, from a row of one code.
-- Main statement: derivative-longer.
use Rattle.std.proofs.Common.{◌≡◌, ℕ, suc, ◌-◌, ◌<◌, max, List, length, refl, ap, ◌∙◌, arith}
use native.Mathlib.Decide.{dec_lt}
use Rattle.std.proofs.lemmas.List.{get_or_past}
use Rattle.field.specs.Ring.{RingMeaning, RingLaws, multiple}
use Rattle.field.specs.Polynomial.{coefficient, polynomial, derivative}
use Rattle.field.proofs.Totals.{total_none, total_beyond}
use Rattle.field.proofs.Rows.{polynomial_last}

module _ (m : RingMeaning) (L : RingLaws m) (f : List ℕ) (some : 0 < length f) where
  abbrev codes : ℕ → ℕ
  codes i = multiple m (suc i) (coefficient f (suc i))

  -- a constant has no further code
  last_zero : length f ≡ 1 → codes 0 ≡ 0
  last_zero e =
      ap (multiple m 1) (get_or_past f 1 0 (omega arith)) ∙ total_beyond m L (λ _. 0) 0 1 (λ i h. refl) ∙ total_none m (λ _. 0)

  -- one code at least
  pub derivative_longer : polynomial (max (length f - 1) 1) (λ i. multiple m (suc i) (coefficient f (suc i))) ≡ derivative m f
  derivative_longer = go (dec_lt 1 (length f))
    where
      go : Dec (1 < length f) → polynomial (max (length f - 1) 1) codes ≡ polynomial (length f - 1) codes
      go (yes h) = let e : max (length f - 1) 1 ≡ length f - 1 = omega arith in ap (λ (n : ℕ). polynomial n codes) e
      go (no h) =
          let one : length f ≡ 1 = omega (arith, some) in
          let more : max (length f - 1) 1 ≡ 1 = omega arith in
          let none : 0 ≡ length f - 1 = omega arith in
          ap (λ (n : ℕ). polynomial n codes) more ∙ polynomial_last 0 codes (last_zero one) ∙ ap (λ (n : ℕ). polynomial n codes) none
