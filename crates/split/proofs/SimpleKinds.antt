-- Kinds 3 and 4: what the search for a dependent row gives.
-- Main statements: combination_within, combination_row, zero_sieves; divisor_one.
use Rattle.std.proofs.Common.{◌≡◌, ℕ, suc, ◌+◌, ◌-◌, ◌*◌, ◌<◌, ◌≤◌, List, [], length, get_or, take, drop, ap, ◌∙◌, subst, arith}
use Rattle.std.proofs.lemmas.List.Edits.{length-between, get_or-between}
use Rattle.field.specs.Ring.{RingMeaning, RingLaws, one}
use Rattle.field.specs.Field.{FieldMeaning, FieldLaws}
use Rattle.field.specs.Polynomial.{degree, constant, zero_polynomial, IsCommonDivisor}
use Rattle.field.specs.Rows.{IsRow}
use Rattle.field.specs.Scalars.{zero_is_code, product_zero}
use Rattle.field.proofs.Totals.{value_none, value_more}
use Rattle.field.specs.Polynomials.{positive_size, one_canonical}
use Rattle.field.proofs.CommonDivisors.{common_monic}
use Rattle.split.specs.Matrix.{cell}
use Rattle.split.specs.Sieve.{Sieves}
use Rattle.split.specs.Calls.{Taken}
use Rattle.split.proofs.Fixed.{monic_constant}
use Rattle.split.proofs.Rows.{row_facts}

-- the first codes of a combination lie within the scratch
pub combination_within : (d e n : ℕ) → e < d → 2 * (d * d) ≤ n → (d + e) * d + e + 1 ≤ n
combination_within d e n h fits = let f = row_facts d e h in omega (arith, f.row_within, f.combination_at)

-- they are columns 0 to e of row d + e
pub combination_row : (codes Q : List ℕ) (d e : ℕ) → e < d → 2 * (d * d) ≤ length codes
    → Q ≡ take ((d + e) * d + e + 1 - (d + e) * d) (drop ((d + e) * d) codes) → IsRow Q (suc e) (cell codes d (d + e))
combination_row codes Q d e h fits is = record {
  sized = ap length is ∙ length-between codes p (p + e + 1) (combination_within d e (length codes) h fits) ∙ count;
  at = λ i l. ap (λ (xs : List ℕ). get_or xs i 0) is ∙ get_or-between codes p (p + e + 1) i 0 (omega arith);
}
  where
    p : ℕ
    p = (d + e) * d

    count : p + e + 1 - p ≡ suc e
    count = omega arith

-- the zero polynomial drops no shift
pub zero_sieves : (m : RingMeaning) → RingLaws m → (f Q : List ℕ) → Sieves m f Q zero_polynomial
zero_sieves m L f Q w h code d p =
    value_more m L 0 [] w (zero_is_code m L) (λ i. zero_is_code m L) code ∙ ap (m.sum 0) (ap (m.product w) (value_none m L w) ∙ product_zero m L w code) ∙ L.sum_zero 0 (zero_is_code m L)

-- a common divisor with f that is not of positive degree is one
pub divisor_one : (F : FieldMeaning) (L : FieldLaws F) (f g h : List ℕ) → Taken F.ring f → IsCommonDivisor F.ring f g h → (0 < degree h → ⊥) → IsCommonDivisor F.ring f g (constant (one F.ring))
divisor_one F L f g h t d n = subst (IsCommonDivisor F.ring f g)
    (monic_constant F.ring h d.canonical (one_canonical F.ring L.ring) (common_monic F L f g h (omega (arith, positive_size F.ring L.ring f t.canonical t.positive)) d) n) d
