-- The search for the smallest shift, code by code.
-- Main statements: shifted_is, none_dropped, none_more, shift_left, shift_found, shares_decided, same_divisor.
use Rattle.std.proofs.Common.{◌≡◌, ℕ, zero, suc, ◌+◌, ◌-◌, ◌<◌, ◌≤◌, Bool, true, false, ltb, ◌≢◌, List, length, set, MatchBool, sym, ap, ◌∙◌, subst, arith, ltb-false, ltb-true}
use native.Mathlib.Decide.{dec_lt}
use lib.ListN.{get_or-eq_default}
use Rattle.std.proofs.lemmas.List.{length-set, get_or-set_same, get_or-set_other}
use Rattle.algebra.proofs.Poly.{size}
use Rattle.field.specs.Ring.{RingMeaning, RingLaws, one}
use Rattle.field.specs.Field.{FieldMeaning, FieldLaws}
use Rattle.field.specs.Polynomial.{coefficient, degree, constant, value, difference, Canonical}
use Rattle.field.specs.Coefficients.{polynomial_at, polynomial_beyond}
use Rattle.field.specs.Scalars.{opposite_zero}
use Rattle.field.specs.Polynomials.{code_at, poly_of, canonical_unique, positive_size, difference_canonical, one_canonical}
use Rattle.field.proofs.CommonDivisors.{common_monic, common_exists, common_unique}
use Rattle.split.specs.Splitting.{LeastFixed, ShiftDivisor, SmallestShift}
use Rattle.split.specs.Sieve.{Sieves, NoneBelow}
use Rattle.split.specs.Calls.{Taken}
use Rattle.split.proofs.Fixed.{monic_constant, shift_exists}

-- Q - w, for a Q of positive degree: only the constant changes
module _ (m : RingMeaning) (L : RingLaws m) (Q : List ℕ) (cQ : Canonical m Q) (positive : 0 < degree Q) (w : ℕ) where
  abbrev shifted : List ℕ
  shifted = set Q 0 (m.sum (coefficient Q 0) (m.opposite w))

  shifted_zero : coefficient shifted 0 ≡ m.sum (coefficient Q 0) (m.opposite w)
  shifted_zero = get_or-set_same Q 0 _ 0 (omega arith)

  shifted_suc : (i : ℕ) → coefficient shifted (suc i) ≡ coefficient Q (suc i)
  shifted_suc i = let ne : suc i ≢ 0 = omega arith in get_or-set_other Q 0 (suc i) _ 0 ne

  long : length shifted ≡ length Q
  long = length-set Q 0 _

  shifted_canonical : Canonical m shifted
  shifted_canonical = record {
    some_code = omega (arith, long);
    codes = codes;
    leads = λ h z. cQ.leads (omega arith) (sym last ∙ z);
  }
    where
      codes : (i : ℕ) → i < length shifted → coefficient shifted i < m.order
      codes zero h = subst (λ (x : ℕ). x < m.order) (sym shifted_zero) (L.sum_code _ _)
      codes (suc i) h = subst (λ (x : ℕ). x < m.order) (sym (shifted_suc i)) (code_at m L Q cQ (suc i))

      back : length shifted - 1 ≡ suc (length Q - 2)
      back = omega (arith, long)

      same : suc (length Q - 2) ≡ length Q - 1
      same = omega arith

      last : coefficient shifted (length shifted - 1) ≡ coefficient Q (length Q - 1)
      last = ap (coefficient shifted) back ∙ shifted_suc (length Q - 2) ∙ ap (coefficient Q) same

  pub shifted_is : shifted ≡ difference m Q (constant w)
  shifted_is = canonical_unique m shifted (difference m Q (constant w)) shifted_canonical (difference_canonical m L Q (constant w)) at
    where
      at : (i : ℕ) → coefficient shifted i ≡ coefficient (difference m Q (constant w)) i
      at zero = shifted_zero ∙ sym (polynomial_at _ _ 0 (omega arith))
      at (suc i) = shifted_suc i ∙ elim (dec_lt (suc i) (length Q)) [
        | yes h ↦ sym (polynomial_at _ _ (suc i) (omega arith) ∙ ap (m.sum (coefficient Q (suc i))) (opposite_zero m L) ∙ L.sum_zero _ (code_at m L Q cQ (suc i)))
        | no h ↦ get_or-eq_default Q 0 (omega arith) ∙ sym (polynomial_beyond _ _ (suc i) (omega arith))
      ]

module _ (F : FieldMeaning) (L : FieldLaws F) (f Q : List ℕ) (t : Taken F.ring f) (k : LeastFixed F.ring f Q) where
  abbrev m : RingMeaning
  m = F.ring

  long_f : 1 ≤ size (poly_of m L.ring f)
  long_f = omega (arith, positive_size m L.ring f t.canonical t.positive)

  -- a common divisor that is not of positive degree is one
  none_here : (w : ℕ) (h : List ℕ) → ShiftDivisor m f Q w h → (0 < degree h → ⊥) → ShiftDivisor m f Q w (constant (one m))
  none_here w h d n = subst (ShiftDivisor m f Q w) (monic_constant m h d.canonical (one_canonical m L.ring) (common_monic F L f _ h long_f d) n) d

  -- a shift that the sieve drops has none
  pub none_dropped : (s : List ℕ) → Sieves m f Q s → (w : ℕ) → w < m.order → (value m s w ≡ 0 → ⊥) → ShiftDivisor m f Q w (constant (one m))
  none_dropped s sieve w code n = go (common_exists F L f (difference m Q (constant w)) t.canonical (difference_canonical m L.ring Q (constant w)) long_f)
    where
      go : (h : List ℕ) × ShiftDivisor m f Q w h → ShiftDivisor m f Q w (constant (one m))
      go (h, d) = none_here w h d (λ p. n (sieve w h code d p))

  pub none_more : (w : ℕ) → NoneBelow m f Q w → ShiftDivisor m f Q w (constant (one m)) → NoneBelow m f Q (w + 1)
  none_more w b h u l = elim (dec_lt u w) [
    | yes n ↦ b u n
    | no n ↦ let e : w ≡ u = omega arith in subst (λ (x : ℕ). ShiftDivisor m f Q x (constant (one m))) e h
  ]

  -- some shift is left while none is found
  pub shift_left : (w : ℕ) → NoneBelow m f Q w → w < m.order
  shift_left w b = go (shift_exists F L f t.canonical t.positive Q k)
    where
      go : (v : ℕ) × (g : List ℕ) × SmallestShift m f Q v g → w < m.order
      go (v, g, s) = elim (dec_lt v w) [
        | yes l ↦ absurd (omega (arith, s.positive, ap degree (common_unique F L f _ g (constant (one m)) t.canonical (difference_canonical m L.ring Q (constant v)) long_f s.divisor (b v l))))
        | no l ↦ omega (arith, s.code)
      ]

  pub shift_found : (w : ℕ) (h : List ℕ) → NoneBelow m f Q w → ShiftDivisor m f Q w h → 0 < degree h → SmallestShift m f Q w h
  shift_found w h b d p = record { code = shift_left w b; divisor = d; positive = p; smallest = b }

  -- a common divisor of degree n: whether that is positive
  pub shares_decided : (w : ℕ) (h : List ℕ) → ShiftDivisor m f Q w h → (n : ℕ) → n ≡ degree h → (b : Bool) → ltb 0 n ≡ b
      → MatchBool b ((g : List ℕ) × ShiftDivisor m f Q w g × (0 < degree g)) (ShiftDivisor m f Q w (constant (one m)))
  shares_decided w h d n e true l = (h, d, omega (arith, ltb-true 0 n l))
  shares_decided w h d n e false l = none_here w h d (λ p. omega (arith, ltb-false 0 n l))

  -- two common divisors at one shift are the same
  pub same_divisor : (w : ℕ) (g h : List ℕ) → ShiftDivisor m f Q w g → ShiftDivisor m f Q w h → g ≡ h
  same_divisor w g h a b = common_unique F L f _ g h t.canonical (difference_canonical m L.ring Q (constant w)) long_f a b
