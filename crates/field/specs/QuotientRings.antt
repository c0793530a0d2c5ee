-- Codes of a quotient ring are remainders, one to one; so a quotient has the ring laws, and its product is the remainder of the product.
use Rattle.std.specs.Prelude.{◌≡◌, ℕ, zero, suc, ◌^◌, ◌<◌, ◌≤◌, List, map, length, slice_index_or}
use Rattle.std.proofs.Math.Path.{sym, ap}
use Rattle.std.proofs.Common.{ap₂, ◌∙◌, subst, mul-le-mul_left, arith, ext_get_or}
use Rattle.std.proofs.Math.Nat.{pow-succ'}
use Rattle.std.proofs.Math.Decide.{dec_lt}
use Rattle.std.proofs.lemmas.List.{length-map}
use Rattle.std.proofs.Math.ListN.{get_or-eq_default, get_or-map}
use Rattle.algebra.specs.Ring.{Scalars}
use Rattle.algebra.proofs.Poly.{Polys, size, low, zero_coef, one_coef_zero, one_coef_suc, sum_coef, neg_coef}
use Rattle.algebra.proofs.Terms.{const_size, const_one}
use Rattle.algebra.proofs.Frobenius.{number_power_pos}
use Rattle.algebra.proofs.Low.{low_path}
use Rattle.algebra.proofs.Remainder.{Leading, rem, quo, rem_adds, rem_small}
use Rattle.algebra.proofs.Quotient.{Quotient, quotient_zero, quotient_one, quotient_sum, quotient_neg, quotient_mul}
use Rattle.field.specs.Checks.{below}
use Rattle.field.specs.Ring.{RingMeaning, RingLaws, greatest_order}
use Rattle.field.specs.Polynomial.{coefficient, Canonical, product, trimmed}
use Rattle.field.specs.Quotient.{digits, from_digits, modulus, reduced, polynomial_of, quotient_ring, Reduces}
use Rattle.field.specs.Coefficients.{trimmed_at, or_zero_at, map_below_at}
use Rattle.field.specs.Forms.{list_canonical}
use Rattle.field.specs.Digits.{digits_length, number_digits, digits_zero, digits_one_first, digits_one_next}
use Rattle.field.specs.OnCodes.{at_codes}
use Rattle.field.specs.Scalars.{Code, CodeScalars, zero_code, unit_code, sum_codes, opposite_codes, zero_is_code, opposite_zero}
use Rattle.field.specs.Polynomials.{Coded, P as CodePoly, code_at, poly_of, poly_of_is, list_of, list_of_canonical, poly_of_list, poly_of_injective, sum_canonical, product_canonical, poly_sum, poly_product, poly_product_coded}
use Rattle.field.specs.Coding.{Coding, coded_ring}
use Rattle.field.specs.Quotients.{row_length, row_coded, digits_coded, digit_poly, digit_poly_coef, digit_poly_size, number_poly, number_code, modulus_canonical, modulus_poly, modulus_poly_is, leads, reduced_length, reduced_coded, reduced_poly}

module _ (r : RingMeaning) (L : RingLaws r) (k n : ℕ) (some : 1 ≤ k) where
  infixl 65 ◌⊕◌
  infixl 70 ◌⊗◌
  abbrev S : Scalars (Code r L)
  S = CodeScalars r L

  abbrev P : Type 0
  P = CodePoly r L

  open Polys S use {𝟘, 𝟙, ◌⊕◌, ◌⊗◌, neg}

  abbrev b : ℕ
  b = r.order

  abbrev l : Leading (modulus_poly r L k n some)
  l = leads r L k n some

  -- the operations of the quotient on codes
  abbrev pub quotient_sum_at : ℕ → ℕ → ℕ
  quotient_sum_at x y = from_digits b (map (λ i. r.sum (coefficient (digits b k x) i) (coefficient (digits b k y) i)) (below k))

  abbrev pub quotient_opposite_at : ℕ → ℕ
  quotient_opposite_at x = from_digits b (map r.opposite (digits b k x))

  abbrev pub quotient_product_at : ℕ → ℕ → ℕ
  quotient_product_at x y = from_digits b (reduced r k n (product r (digits b k x) (digits b k y)))

  power_two : (j : ℕ) → 1 ≤ j → 2 ≤ b ^ j
  power_two zero h = absurd (omega arith)
  power_two (suc j) h = omega (arith, L.order_low, pow-succ' b j, mul-le-mul_left b (number_power_pos b j (omega (arith, L.order_low))))

  abbrev sums : ℕ → ℕ → ℕ → ℕ
  sums x y i = r.sum (coefficient (digits b k x) i) (coefficient (digits b k y) i)

  opposite_length : (x : ℕ) → length (map r.opposite (digits b k x)) ≡ k
  opposite_length x = length-map (digits b k x) r.opposite ∙ digits_length b k x

  opposite_at : (x i : ℕ) → coefficient (map r.opposite (digits b k x)) i ≡ r.opposite (coefficient (digits b k x) i)
  opposite_at x i = ap (slice_index_or (map r.opposite (digits b k x)) i) (sym (opposite_zero r L)) ∙ get_or-map r.opposite (digits b k x) i 0

  opposite_coded : (x : ℕ) → Coded r (map r.opposite (digits b k x))
  opposite_coded x i = subst (λ (y : ℕ). y < b) (sym (opposite_at x i)) (L.opposite_code _)

  -- the product of two polynomials of codes, before it is reduced
  product_coded : (x y : ℕ) → Coded r (product r (digits b k x) (digits b k y))
  product_coded x y = code_at r L _ (product_canonical r L (digits b k x) (digits b k y))

  sum_digits : (x y : ℕ) → digit_poly r L k (quotient_sum_at x y) ≡ digit_poly r L k x ⊕ digit_poly r L k y
  sum_digits x y =
      number_poly r L k (map (sums x y) (below k)) (row_coded r L k (sums x y) (λ i. L.sum_code _ _)) (row_length r L k (sums x y))
      ∙ poly_of_is r L (map (sums x y) (below k)) _ (λ i. left i ∙ sym (right i))
    where
      right : (i : ℕ) → ((digit_poly r L k x ⊕ digit_poly r L k y).coef i).0 ≡ sums x y i
      right i = ap (λ (c : Code r L). c.0) (sum_coef S _ _ i) ∙ sum_codes r L _ _ ∙ ap₂ r.sum (digit_poly_coef r L k x i) (digit_poly_coef r L k y i)

      left : (i : ℕ) → coefficient (map (sums x y) (below k)) i ≡ sums x y i
      left i = elim (dec_lt i k) [
        | yes h ↦ map_below_at (sums x y) k i h
        | no h ↦ get_or-eq_default (map (sums x y) (below k)) 0 (omega (arith, h, row_length r L k (sums x y)))
            ∙ sym (ap₂ r.sum (get_or-eq_default (digits b k x) 0 (omega (arith, h, digits_length b k x))) (get_or-eq_default (digits b k y) 0 (omega (arith, h, digits_length b k y))) ∙ L.sum_zero 0 (zero_is_code r L))
      ]

  opposite_digits : (x : ℕ) → digit_poly r L k (quotient_opposite_at x) ≡ neg (digit_poly r L k x)
  opposite_digits x =
      number_poly r L k _ (opposite_coded x) (opposite_length x)
      ∙ poly_of_is r L _ _ (λ i. opposite_at x i ∙ sym (ap (λ (c : Code r L). c.0) (neg_coef S _ i) ∙ opposite_codes r L _ ∙ ap r.opposite (digit_poly_coef r L k x i)))

  pub product_digits : (x y : ℕ) → digit_poly r L k (quotient_product_at x y) ≡ rem l (digit_poly r L k x ⊗ digit_poly r L k y)
  unfolding digit_poly
  product_digits x y =
      number_poly r L k _ (reduced_coded r L k n some _) (reduced_length r L k n some _)
      ∙ sym (reduced_poly r L k n some (product r (digits b k x) (digits b k y)) (product_coded x y))
      ∙ ap (rem l) (poly_product_coded r L (digits b k x) (digits b k y) (digits_coded r L k x) (digits_coded r L k y))

  zero_digits : digit_poly r L k 0 ≡ 𝟘
  unfolding digit_poly
  zero_digits = poly_of_is r L _ 𝟘 (λ i. digits_zero b k i ∙ sym (ap (λ (c : Code r L). c.0) (zero_coef S i) ∙ zero_code r L))

  one_digits : digit_poly r L k 1 ≡ 𝟙
  unfolding digit_poly
  one_digits = poly_of_is r L _ 𝟙 at
    where
      at : (i : ℕ) → coefficient (digits b k 1) i ≡ (𝟙.coef i).0
      at zero = digits_one_first b k L.order_low some ∙ sym (ap (λ (c : Code r L). c.0) (one_coef_zero S) ∙ unit_code r L)
      at (suc i) = digits_one_next b k i L.order_low ∙ sym (ap (λ (c : Code r L). c.0) (one_coef_suc S i) ∙ zero_code r L)

  -- the code of a polynomial of size at most k
  code_of : P → ℕ
  code_of f = from_digits b (map (λ i. (f.coef i).0) (below k))

  code_of_row : (f : P) → Coded r (map (λ i. (f.coef i).0) (below k))
  code_of_row f = row_coded r L k (λ i. (f.coef i).0) (λ i. (f.coef i).1)

  digits_code_of : (f : P) → size f ≤ k → digit_poly r L k (code_of f) ≡ f
  unfolding code_of
  digits_code_of f h = number_poly r L k _ (code_of_row f) (row_length r L k _) ∙ poly_of_is r L _ f (λ i. elim (dec_lt i k) [
    | yes p ↦ map_below_at (λ j. (f.coef j).0) k i p
    | no p ↦ get_or-eq_default (map (λ j. (f.coef j).0) (below k)) 0 (omega (arith, p, row_length r L k (λ j. (f.coef j).0))) ∙ sym (ap (λ (c : Code r L). c.0) (low f i (omega (arith, p, h))) ∙ zero_code r L)
  ])

  code_of_digits : (a : ℕ) → a < b ^ k → code_of (digit_poly r L k a) ≡ a
  unfolding code_of
  code_of_digits a h =
      ap (from_digits b) (ext_get_or 0 _ (digits b k a) (row_length r L k _ ∙ sym (digits_length b k a)) (λ i p. map_below_at _ k i (omega (arith, p, row_length r L k (λ i. ((digit_poly r L k a).coef i).0))) ∙ digit_poly_coef r L k a i))
      ∙ number_digits b k a h

  pub quotient_coding : Coding (Quotient l) (b ^ k) quotient_sum_at quotient_opposite_at quotient_product_at
  unfolding leads code_of
  quotient_coding = record {
    two = power_two k some;
    to = λ a. (digit_poly r L k a, digit_poly_size r L k a);
    from = λ x. code_of x.0;
    from_code = λ x. number_code r L k _ (code_of_row x.0) (row_length r L k _);
    to_from = λ x. low_path S k (digits_code_of x.0 x.1);
    from_to = code_of_digits;
    zero_to = low_path S k (zero_digits ∙ sym (quotient_zero l));
    one_to = low_path S k (one_digits ∙ sym (quotient_one l ∙ rem_small l 𝟙 (subst (λ (x : P). size x ≤ k) (const_one S) (omega (arith, some, const_size S S.ring.𝟙)))));
    sum_code = λ x y _ _. number_code r L k _ (row_coded r L k _ (λ i. L.sum_code _ _)) (row_length r L k _);
    opposite_code = λ x _. number_code r L k _ (opposite_coded x) (opposite_length x);
    product_code = λ x y _ _. number_code r L k _ (reduced_coded r L k n some _) (reduced_length r L k n some _);
    sum_to = λ x y _ _. low_path S k (sum_digits x y ∙ sym (quotient_sum l _ _));
    opposite_to = λ x _. low_path S k (opposite_digits x ∙ sym (quotient_neg l _));
    product_to = λ x y _ _. low_path S k (product_digits x y ∙ sym (quotient_mul l _ _));
  }

  -- a quotient of order at most 65,536 is a ring
  pub quotient_laws : b ^ k ≤ greatest_order → RingLaws (quotient_ring r k n)
  quotient_laws high = coded_ring (Quotient l) (b ^ k) quotient_sum_at quotient_opposite_at quotient_product_at quotient_coding high

  -- the polynomial of a code, without the zeros at its end
  code_polynomial : (x : ℕ) → Canonical r (polynomial_of r k x)
  code_polynomial x = list_canonical r (digits b k x) (zero_is_code r L) (digits_coded r L k x)

  code_poly : (x : ℕ) → poly_of r L (polynomial_of r k x) ≡ digit_poly r L k x
  code_poly x = poly_of_is r L _ _ (λ i. or_zero_at (trimmed (digits b k x)) i ∙ trimmed_at (digits b k x) i ∙ sym (digit_poly_coef r L k x i))

  -- the product of two codes is the product of their polynomials, less a multiple of the modulus
  pub quotient_reduces : Reduces r k n
  quotient_reduces x y hx hy = (
    s,
    list_of_canonical r L q,
    poly_of_injective r L _ _ (sum_canonical r L _ _) (product_canonical r L _ _) (
        poly_sum r L (product r s (modulus r k n)) (polynomial_of r k z) (product_canonical r L _ _) (code_polynomial z)
        ∙ ap₂ ◌⊕◌ (poly_product r L s (modulus r k n) (list_of_canonical r L q) (modulus_canonical r L k n some) ∙ ap₂ ◌⊗◌ (poly_of_list r L q) (modulus_poly_is r L k n some)) (code_poly z ∙ ap (digit_poly r L k) (at_codes (b ^ k) x y _ hx hy) ∙ product_digits x y)
        ∙ sym (rem_adds l (digit_poly r L k x ⊗ digit_poly r L k y))
        ∙ sym (poly_product r L (polynomial_of r k x) (polynomial_of r k y) (code_polynomial x) (code_polynomial y) ∙ ap₂ ◌⊗◌ (code_poly x) (code_poly y))),
  )
    where
      q : P
      q = quo l (digit_poly r L k x ⊗ digit_poly r L k y)

      s : List ℕ
      s = list_of r L q

      z : ℕ
      z = (quotient_ring r k n).product x y
