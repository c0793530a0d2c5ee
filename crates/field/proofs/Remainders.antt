-- The remainder of a list of codes by the monic polynomial with given lower codes; rows that suit for a product.
-- Main statements: reduced_by_length, reduced_by_coded, reduced_by_divides, reduced_by_unique; Suited, suited, suits;
-- each_below_at, each_below_all; row_coded.
use Rattle.std.proofs.Common.{◌≡◌, ℕ, zero, suc, ◌<◌, ◌≤◌, true, ◌&&◌, eqb, ltb, List, [], ◌∷◌, ◌++◌, length, get_or, sym, refl, ap, ◌∙◌, subst, ap₂, arith, ext_get_or, ltb-true, lt-ltb, eq-eqb, eqb-true}
use native.Mathlib.Decide.{dec_lt}
use lib.ListN.{length-map, length-replicate, get_or-eq_default}
use Rattle.algebra.specs.Ring.{Scalars}
use Rattle.algebra.proofs.Poly.{Polys, size}
use Rattle.algebra.proofs.Divides.{Divides}
use Rattle.algebra.proofs.Remainder.{rem_unique}
use Rattle.field.specs.Ring.{RingMeaning, RingLaws, one}
use Rattle.field.specs.Polynomial.{coefficient}
use Rattle.field.specs.Quotient.{from_digits, reduced, reduced_by}
use Rattle.field.specs.Rows.{each_below, rows_suit}
use Rattle.field.specs.Tests.{both_left, both_right}
use Rattle.field.specs.Coefficients.{below_length}
use Rattle.field.specs.Digits.{digits_number}
use Rattle.field.specs.Scalars.{Code, CodeScalars, zero_is_code}
use Rattle.field.specs.Polynomials.{Coded, P as CodePoly, poly_of, poly_of_code, poly_of_short}
use Rattle.field.specs.Quotients.{modulus_poly, modulus_poly_is, leads, reduced_coded, reduced_same, reduced_poly}

-- all places of a row of codes
pub row_coded : (r : RingMeaning) → RingLaws r → (xs : List ℕ) → ((i : ℕ) → i < length xs → coefficient xs i < r.order) → Coded r xs
row_coded r L xs h i = elim (dec_lt i (length xs)) [
  | yes l ↦ h i l
  | no l ↦ subst (λ (x : ℕ). x < r.order) (sym (get_or-eq_default xs 0 (omega (arith, l)))) (zero_is_code r L)
]

-- the remainder has as many codes as the polynomial has lower ones
pub reduced_by_length : (r : RingMeaning) (lower f : List ℕ) → length (reduced_by r lower f) ≡ length lower
unfolding reduced
reduced_by_length r lower [] = length-replicate (length lower) 0
reduced_by_length r lower (a ∷ f) = length-map _ _ ∙ below_length (length lower)

pub reduced_by_coded : (r : RingMeaning) → RingLaws r → (lower f : List ℕ) → Coded r (reduced_by r lower f)
reduced_by_coded r L [] f i = subst (λ (x : ℕ). x < r.order) (sym (get_or-eq_default (reduced_by r [] f) 0 (omega (arith, reduced_by_length r [] f)))) (zero_is_code r L)
reduced_by_coded r L (a ∷ lower) f i = reduced_coded r L (suc (length lower)) _ (omega arith) f i

module _ (r : RingMeaning) (L : RingLaws r) (lower : List ℕ) (coded : Coded r lower) (some : 1 ≤ length lower) where
  infixl 65 ◌⊕◌
  abbrev S : Scalars (Code r L)
  S = CodeScalars r L

  abbrev P : Type 0
  P = CodePoly r L

  open Polys S use {◌⊕◌, neg}

  abbrev k : ℕ
  k = length lower

  abbrev n : ℕ
  n = from_digits r.order lower

  -- the monic polynomial with these lower codes
  pub monic_poly_is : modulus_poly r L k n some ≡ poly_of r L (lower ++ one r ∷ [])
  monic_poly_is = sym (modulus_poly_is r L k n some) ∙ ap (λ (xs : List ℕ). poly_of r L (xs ++ one r ∷ [])) (digits_number r.order lower coded)

  -- it divides what a list and its remainder differ by
  pub reduced_by_divides : (f : List ℕ) → Coded r f → Divides (Polys S) (poly_of r L (lower ++ one r ∷ [])) (poly_of r L f ⊕ neg (poly_of r L (reduced_by r lower f)))
  reduced_by_divides f hf =
      subst (λ (x : P). Divides (Polys S) x (poly_of r L f ⊕ neg (poly_of r L (reduced_by r lower f)))) monic_poly_is (reduced_same r L k n some f hf)

  -- and there is no other such row of codes
  pub reduced_by_unique : (f row : List ℕ) → Coded r f → Coded r row → length row ≡ length lower →
      Divides (Polys S) (poly_of r L (lower ++ one r ∷ [])) (poly_of r L f ⊕ neg (poly_of r L row)) → row ≡ reduced_by r lower f
  unfolding leads
  reduced_by_unique f row hf hr long d =
      ext_get_or 0 row g (long ∙ sym (reduced_by_length r lower f)) (λ i _. sym (poly_of_code r L row hr i) ∙ ap (λ (x : P). (x.coef i).0) same ∙ poly_of_code r L g (reduced_by_coded r L lower f) i)
    where
      g : List ℕ
      g = reduced_by r lower f

      same : poly_of r L row ≡ poly_of r L g
      same =
          sym (rem_unique (leads r L k n some) (poly_of r L f) (poly_of r L row) (subst (λ (x : ℕ). size (poly_of r L row) ≤ x) long (poly_of_short r L row))
          (subst (λ (x : P). Divides (Polys S) x (poly_of r L f ⊕ neg (poly_of r L row))) (sym monic_poly_is) d))
          ∙ reduced_poly r L k n some f hf

-- the test of a row, and what it tells
pub each_below_at : (b : ℕ) (xs : List ℕ) → each_below b xs ≡ true → (i : ℕ) → i < length xs → get_or xs i 0 < b
unfolding each_below
each_below_at b [] t i h = absurd (omega arith)
each_below_at b (x ∷ xs) t zero h = ltb-true x b (both_left (ltb x b) (each_below b xs) t)
each_below_at b (x ∷ xs) t (suc i) h = each_below_at b xs (both_right (ltb x b) (each_below b xs) t) i (omega arith)

pub each_below_all : (b : ℕ) (xs : List ℕ) → ((i : ℕ) → i < length xs → get_or xs i 0 < b) → each_below b xs ≡ true
unfolding each_below
each_below_all b [] h = refl
each_below_all b (x ∷ xs) h = ap₂ ◌&&◌ (lt-ltb x b (h 0 (omega arith))) (each_below_all b xs (λ i l. h (suc i) (omega arith)))

-- what rows that suit are
pub record Suited (r : RingMeaning) (lower left right row : List ℕ) : Type 0 where
  pub some : 0 < length row
  pub lower_long : length lower ≡ length row
  pub left_long : length left ≡ length row
  pub right_long : length right ≡ length row
  pub lower_codes : (i : ℕ) → i < length lower → get_or lower i 0 < r.order
  pub left_codes : (i : ℕ) → i < length left → get_or left i 0 < r.order
  pub right_codes : (i : ℕ) → i < length right → get_or right i 0 < r.order

module _ (r : RingMeaning) (lower left right row : List ℕ) where
  abbrev long : ℕ
  long = length row

  abbrev q : ℕ
  q = r.order

  pub suits : Suited r lower left right row → rows_suit r lower left right row ≡ true
  suits s =
      ap₂ ◌&&◌
      (ap₂ ◌&&◌ (ap₂ ◌&&◌ (ap₂ ◌&&◌ (lt-ltb 0 long s.some) (eq-eqb (length lower) long s.lower_long)) (eq-eqb (length left) long s.left_long)) (eq-eqb (length right) long s.right_long))
      (ap₂ ◌&&◌ (ap₂ ◌&&◌ (each_below_all q lower s.lower_codes) (each_below_all q left s.left_codes)) (each_below_all q right s.right_codes))

  pub suited : rows_suit r lower left right row ≡ true → Suited r lower left right row
  suited t = record {
    some = ltb-true 0 long (both_left (ltb 0 long) (eqb (length lower) long) two);
    lower_long = eqb-true (length lower) long (both_right (ltb 0 long) (eqb (length lower) long) two);
    left_long = eqb-true (length left) long (both_right (ltb 0 long && eqb (length lower) long) (eqb (length left) long) three);
    right_long = eqb-true (length right) long (both_right (ltb 0 long && eqb (length lower) long && eqb (length left) long) (eqb (length right) long) lengths);
    lower_codes = each_below_at q lower (both_left (each_below q lower) (each_below q left) first);
    left_codes = each_below_at q left (both_right (each_below q lower) (each_below q left) first);
    right_codes = each_below_at q right (both_right (each_below q lower && each_below q left) (each_below q right) codes);
  }
    where
      lengths : (ltb 0 long && eqb (length lower) long && eqb (length left) long && eqb (length right) long) ≡ true
      lengths = both_left _ (each_below q lower && each_below q left && each_below q right) t

      three : (ltb 0 long && eqb (length lower) long && eqb (length left) long) ≡ true
      three = both_left _ (eqb (length right) long) lengths

      two : (ltb 0 long && eqb (length lower) long) ≡ true
      two = both_left _ (eqb (length left) long) three

      codes : (each_below q lower && each_below q left && each_below q right) ≡ true
      codes = both_right (ltb 0 long && eqb (length lower) long && eqb (length left) long && eqb (length right) long) _ t

      first : (each_below q lower && each_below q left) ≡ true
      first = both_left _ (each_below q right) codes
