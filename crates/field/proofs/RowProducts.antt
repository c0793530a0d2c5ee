-- The product of two rows, from the highest code of the left one down, is the remainder of the product of their polynomials.
-- Main statements: Reduced, horner_none, horner_more, horner_moved, horner_all.
use Rattle.std.proofs.Common.{◌≡◌, ℕ, zero, suc, ◌+◌, ◌-◌, ◌<◌, ◌≤◌, List, [], ◌∷◌, ◌++◌, length, drop, replicate, sym, refl, ap, ◌∙◌, subst, ap₂, arith, get_or-drop}
use Rattle.std.specs.List.{RotatedRight}
use native.Mathlib.Decide.{dec_lt}
use lib.ListN.{length-replicate, get_or-replicate, get_or-eq_default, get_or-append}
use Rattle.algebra.specs.Ring.{Scalars}
use Rattle.algebra.proofs.Laws.{zero_⊗, add_neg}
use Rattle.algebra.proofs.Solver.{◌:+◌, ◌:*◌, ◌:-◌, ring, A, B, C, D, E, F}
use Rattle.algebra.proofs.Poly.{Polys, zero_coef, sum_coef}
use Rattle.algebra.proofs.Terms.{const, X, const_mul_coef, X_coef_zero, X_coef_suc}
use Rattle.algebra.proofs.Divides.{Divides}
use Rattle.algebra.proofs.Low.{onto_coef_zero, onto_coef_suc}
use Rattle.field.proofs.RowSteps.{FromTop, top_none, top_more, top_all}
use Rattle.field.specs.Ring.{RingMeaning, RingLaws, one}
use Rattle.field.specs.Polynomial.{coefficient, product}
use Rattle.field.specs.Quotient.{from_digits, modulus, lowered, reduced_by}
use Rattle.field.specs.Rows.{IsRow, stepped}
use Rattle.field.specs.Coefficients.{map_below_at}
use Rattle.field.specs.Digits.{digits_number}
use Rattle.field.specs.Scalars.{Code, CodeScalars, sum_codes, product_codes, zero_is_code, zero_code, product_zero, zero_product, opposite_zero}
use Rattle.field.specs.Polynomials.{Coded, P as CodePoly, code_at, poly_of, poly_of_code, poly_of_is, product_canonical, poly_product_coded}
use Rattle.field.specs.Quotients.{modulus_poly, lowered_poly, lowered_coded, lowered_length}
use Rattle.field.proofs.Remainders.{monic_poly_is, reduced_by_unique}

module _ (r : RingMeaning) (L : RingLaws r) (lower : List ℕ) (some : 1 ≤ length lower) where
  infixl 65 ◌⊕◌
  infixl 70 ◌⊗◌
  abbrev S : Scalars (Code r L)
  S = CodeScalars r L

  abbrev P : Type 0
  P = CodePoly r L

  open Polys S use {𝟘, ◌⊕◌, ◌⊗◌, neg}

  abbrev k : ℕ
  k = length lower

  abbrev n : ℕ
  n = from_digits r.order lower

  abbrev M : P
  M = modulus_poly r L k n some

  -- a row of codes that is the product of two rows but for a multiple of the modulus
  pub record Reduced (left right row : List ℕ) : Type 0 where
    pub coded : Coded r row
    pub long : length row ≡ k
    pub same : Divides (Polys S) M (poly_of r L left ⊗ poly_of r L right ⊕ neg (poly_of r L row))

  nothing : (xs : List ℕ) → ((i : ℕ) → coefficient xs i ≡ 0) → poly_of r L xs ≡ 𝟘
  nothing xs z = poly_of_is r L xs 𝟘 (λ i. z i ∙ sym (ap (λ (c : Code r L). c.0) (zero_coef S i) ∙ zero_code r L))

  zeros_at : (j i : ℕ) → coefficient (replicate j 0) i ≡ 0
  zeros_at j i = elim (dec_lt i j) [ yes h ↦ get_or-replicate j i 0 0 h | no h ↦ get_or-eq_default (replicate j 0) 0 (omega (arith, h, length-replicate {A = ℕ} j 0)) ]

  -- zeros are the product with no code
  reduced_none : (right row : List ℕ) → row ≡ replicate k 0 → Reduced [] right row
  reduced_none right row e = record {
    coded = λ i. subst (λ (x : ℕ). x < r.order) (sym (clear i)) (zero_is_code r L);
    long = ap length e ∙ length-replicate {A = ℕ} k 0;
    same = (
      𝟘,
      ap₂ (λ (x y : P). x ⊗ poly_of r L right ⊕ neg y) (nothing [] (λ i. refl)) (nothing row clear) ∙ ap (λ (x : P). x ⊕ neg 𝟘) (zero_⊗ (Polys S) _) ∙ add_neg (Polys S) 𝟘 ∙ sym (zero_⊗ (Polys S) M),
    );
  }
    where
      clear : (i : ℕ) → coefficient row i ≡ 0
      clear i = ap (λ (xs : List ℕ). coefficient xs i) e ∙ zeros_at k i

  module _ (hm : Coded r lower) (right : List ℕ) (hr : Coded r right) (lr : length right ≡ k) where
    -- one step: a row moved up by one place and reduced, plus a times the right factor
    reduced_more : (a : ℕ) (left row new : List ℕ) → a < r.order → Coded r left → Reduced left right row → IsRow new k (stepped r lower a right row) → Reduced (a ∷ left) right new
    reduced_more a left row new ha hl w s = record {
      coded = h;
      long = s.sized;
      same = (
        X S ⊗ w.same.0 ⊕ const S c,
        ap₂ (λ (x y : P). x ⊗ pr ⊕ neg y) (onto a' left hl) moved
            ∙ ring (Polys S) (const S a' ∷ X S ∷ poly_of r L left ∷ pr ∷ poly_of r L row ∷ const S c ⊗ M ∷ []) ((A :+ B :* C) :* D :- (B :* E :- F :+ A :* D)) (B :* (C :* D :- E) :+ F) refl
            ∙ ap (λ (x : P). X S ⊗ x ⊕ const S c ⊗ M) w.same.1
            ∙ ring (Polys S) (X S ∷ w.same.0 ∷ M ∷ const S c ∷ []) (A :* (B :* C) :+ D :* C) ((A :* B :+ D) :* C) refl,
      );
    }
      where
        pr : P
        pr = poly_of r L right

        a' : Code r L
        a' = (a, ha)

        c : Code r L
        c = (coefficient row (k - 1), w.coded (k - 1))

        h : Coded r new
        h i = elim (dec_lt i k) [
          | yes l ↦ subst (λ (x : ℕ). x < r.order) (sym (s.at i l)) (L.sum_code _ _)
          | no l ↦ subst (λ (x : ℕ). x < r.order) (sym (get_or-eq_default new 0 (omega (arith, l, s.sized)))) (zero_is_code r L)
        ]

        onto : (d : Code r L) (xs : List ℕ) → Coded r xs → poly_of r L (d.0 ∷ xs) ≡ const S d ⊕ X S ⊗ poly_of r L xs
        onto d xs hx = poly_of_is r L (d.0 ∷ xs) _ at
          where
            at : (i : ℕ) → coefficient (d.0 ∷ xs) i ≡ ((const S d ⊕ X S ⊗ poly_of r L xs).coef i).0
            at zero = sym (ap (λ (x : Code r L). x.0) (onto_coef_zero S d (poly_of r L xs)))
            at (suc i) = sym (ap (λ (x : Code r L). x.0) (onto_coef_suc S d (poly_of r L xs) i) ∙ poly_of_code r L xs hx i)

        up : Coded r (0 ∷ row)
        up zero = zero_is_code r L
        up (suc i) = w.coded i

        shifted : poly_of r L (0 ∷ row) ≡ X S ⊗ poly_of r L row
        shifted = poly_of_is r L (0 ∷ row) _ at
          where
            at : (i : ℕ) → coefficient (0 ∷ row) i ≡ ((X S ⊗ poly_of r L row).coef i).0
            at zero = sym (ap (λ (x : Code r L). x.0) (X_coef_zero S (poly_of r L row)) ∙ zero_code r L)
            at (suc i) = sym (ap (λ (x : Code r L). x.0) (X_coef_suc S (poly_of r L row) i) ∙ poly_of_code r L row w.coded i)

        term : ℕ → ℕ
        term i = r.sum (coefficient (0 ∷ row) i) (r.opposite (r.product (coefficient row (k - 1)) (coefficient (modulus r k n) i)))

        -- below the highest one the codes of the modulus are the lower ones
        lower_at : (i : ℕ) → i < k → coefficient lower i ≡ coefficient (modulus r k n) i
        lower_at i l = sym (ap (λ (xs : List ℕ). coefficient (xs ++ one r ∷ []) i) (digits_number r.order lower hm) ∙ get_or-append lower (one r ∷ []) 0 i l)

        new_at : (i : ℕ) → coefficient new i ≡ r.sum (coefficient (lowered r k n 0 row) i) (r.product a (coefficient right i))
        new_at i = elim (dec_lt i k) [
          | yes l ↦ s.at i l ∙ ap₂ (λ (x y : ℕ). r.sum (r.sum (coefficient (0 ∷ row) i) (r.opposite (r.product (coefficient row x) y))) (r.product a (coefficient right i)))
              (ap (λ (x : ℕ). x - 1) w.long) (lower_at i l)
              ∙ ap (λ (x : ℕ). r.sum x (r.product a (coefficient right i))) (sym (map_below_at term k i l))
          | no l ↦ get_or-eq_default new 0 (omega (arith, l, s.sized))
              ∙ sym (ap₂ (λ (x y : ℕ). r.sum x (r.product a y)) (get_or-eq_default (lowered r k n 0 row) 0 (omega (arith, l, lowered_length r L k n some 0 row))) (get_or-eq_default right 0 (omega (arith, l, lr)))
              ∙ ap (r.sum 0) (product_zero r L a ha) ∙ L.sum_zero 0 (zero_is_code r L))
        ]

        -- the new row: the reduced one, and a times the right factor
        parts : poly_of r L new ≡ poly_of r L (lowered r k n 0 row) ⊕ const S a' ⊗ pr
        parts = poly_of_is r L new _ (λ i. new_at i ∙ sym (ap (λ (x : Code r L). x.0) (sum_coef S _ _ i) ∙ sum_codes r L _ _
            ∙ ap₂ r.sum (poly_of_code r L (lowered r k n 0 row) (lowered_coded r L k n some 0 row) i) (ap (λ (x : Code r L). x.0) (const_mul_coef S a' pr i) ∙ product_codes r L _ _ ∙ ap (r.product a) (poly_of_code r L right hr i))))

        moved : poly_of r L new ≡ X S ⊗ poly_of r L row ⊕ neg (const S c ⊗ M) ⊕ const S a' ⊗ pr
        moved = parts ∙ ap (λ (x : P). x ⊕ const S a' ⊗ pr) (lowered_poly r L k n some 0 row up w.coded w.long c refl ∙ ap (λ (x : P). x ⊕ neg (const S c ⊗ M)) shifted)

    -- a step with nothing to take off and nothing to add only moves the row up by one place
    moved_up : (row new : List ℕ) → Coded r row → coefficient row (length row - 1) ≡ 0 → length new ≡ length row → RotatedRight row new (length row) 1 → IsRow new (length row) (stepped r lower 0 right row)
    moved_up row new h e long t = record { sized = long; at = λ i l. above i l ∙ sym (same i) }
      where
        up : (i : ℕ) → coefficient (0 ∷ row) i < r.order
        up zero = zero_is_code r L
        up (suc i) = h i

        above : (i : ℕ) → i < length row → coefficient new i ≡ coefficient (0 ∷ row) i
        above zero l = t.0 0 0 (omega arith) ∙ ap (coefficient row) (let s : length row - 1 + 0 ≡ length row - 1 = omega arith in s) ∙ e
        above (suc i) l = t.1 (suc i) 0 (omega arith) l ∙ ap (coefficient row) (let s : suc i - 1 ≡ i = omega arith in s)

        same : (i : ℕ) → stepped r lower 0 right row i ≡ coefficient (0 ∷ row) i
        same i =
            ap₂ (λ (x y : ℕ). r.sum (r.sum (coefficient (0 ∷ row) i) (r.opposite x)) y)
            (ap (λ (x : ℕ). r.product x (coefficient lower i)) e ∙ zero_product r L (coefficient lower i) (hm i)) (zero_product r L (coefficient right i) (hr i))
            ∙ ap (λ (x : ℕ). r.sum (r.sum (coefficient (0 ∷ row) i) x) 0) (opposite_zero r L)
            ∙ ap (λ (x : ℕ). r.sum x 0) (L.sum_zero _ (up i)) ∙ L.sum_zero _ (up i)

    module _ (left : List ℕ) (hl : Coded r left) where
      -- before the first turn of the loop, at each turn and at its end
      pub horner_none : (row : List ℕ) → row ≡ replicate k 0 → Reduced (drop (length left - 0) left) right row
      horner_none row e = subst (λ (xs : List ℕ). Reduced xs right row) (sym (top_none left)) (reduced_none right row e)

      pub horner_more : (i n x : ℕ) (row new : List ℕ) → FromTop left i x → n ≡ i + 1 → Reduced (drop (length left - i) left) right row →
          IsRow new (length row) (stepped r lower x right row) → Reduced (drop (length left - n) left) right new
      horner_more i n x row new t next w s =
          subst (λ (xs : List ℕ). Reduced xs right new) (sym (top_more left i n x t next))
          (reduced_more x (drop (length left - i) left) row new (subst (λ (y : ℕ). y < r.order) (sym t.value) (hl (length left - i - 1))) (λ j. subst (λ (y : ℕ). y < r.order) (sym (get_or-drop (length left - i) left j 0)) (hl (length left - i + j))) w
          (subst (λ (j : ℕ). IsRow new j (stepped r lower x right row)) w.long s))

      pub horner_moved : (i n x : ℕ) (row new : List ℕ) → FromTop left i x → n ≡ i + 1 → x ≡ 0 → coefficient row (length row - 1) ≡ 0 → Reduced (drop (length left - i) left) right row →
          length new ≡ length row → RotatedRight row new (length row) 1 → Reduced (drop (length left - n) left) right new
      horner_moved i n x row new t next none e w long turned =
          horner_more i n x row new t next w (subst (λ (a : ℕ). IsRow new (length row) (stepped r lower a right row)) (sym none) (moved_up row new w.coded e long turned))

      pub horner_all : (i : ℕ) (row : List ℕ) → i ≡ length left → Reduced (drop (length left - i) left) right row → row ≡ reduced_by r lower (product r left right)
      horner_all i row all w =
          reduced_by_unique r L lower hm some (product r left right) row (code_at r L _ (product_canonical r L left right)) w.coded w.long
          (subst (λ (x : P). Divides (Polys S) x (poly_of r L (product r left right) ⊕ neg (poly_of r L row))) (monic_poly_is r L lower hm some)
          (subst (λ (x : P). Divides (Polys S) M (x ⊕ neg (poly_of r L row))) (sym (poly_product_coded r L left right hl hr)) whole.same))
        where
          whole : Reduced left right row
          whole = subst (λ (xs : List ℕ). Reduced xs right row) (top_all left i all) w
