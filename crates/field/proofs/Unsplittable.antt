-- A test that a polynomial over a field does not split: no monic polynomial of positive degree, at most half of its own, divides it.
use Rattle.std.proofs.Common.{◌≡◌, ℕ, zero, suc, ◌+◌, ◌^◌, ◌<◌, ◌≤◌, Bool, true, not, ◌||◌, eqb, List, [], ◌∷◌, map, length, replicate, sym, refl, ap, ◌∙◌, subst, inl, inr, arith, ext_get_or, eqb-true}
use native.Mathlib.Decide.{dec_le, dec_lt, ℕ_discrete}
use lib.ListN.{length-replicate, get_or-replicate, get_or-append}
use Rattle.algebra.specs.Ring.{Scalars, Field}
use Rattle.algebra.proofs.Laws.{mul_comm}
use Rattle.algebra.proofs.Poly.{Polys, size, low, poly_path, zero_coef}
use Rattle.algebra.proofs.Size.{Factors, factors, dvd_back}
use Rattle.algebra.proofs.Divides.{Divides, dvd_trans}
use Rattle.algebra.proofs.Terms.{const, const_nonzero}
use Rattle.algebra.proofs.Monic.{Monic, Scaled, scaled}
use Rattle.algebra.proofs.Size.{size_mul}
use Rattle.algebra.proofs.Remainder.{rem_zero}
use Rattle.field.specs.Checks.{below, same}
use Rattle.field.specs.Ring.{RingMeaning, RingLaws, one}
use Rattle.field.specs.Field.{FieldMeaning, FieldLaws}
use Rattle.field.specs.Polynomial.{coefficient, degree, Canonical, Splits}
use Rattle.field.specs.Quotient.{digits, from_digits, modulus, reduced}
use Rattle.field.specs.Tests.{all_below, below_at, either, refuted, list_test}
use Rattle.field.specs.Coefficients.{map_below_at}
use Rattle.field.specs.Digits.{digits_length, digits_number}
use Rattle.field.specs.Scalars.{Code, CodeScalars, code_path, zero_code, unit_code, code_field}
use Rattle.field.specs.Polynomials.{Coded, P as CodePoly, code_at, poly_of, poly_of_code, poly_of_size}
use Rattle.field.proofs.Factors.{split_product}
use Rattle.field.specs.Quotients.{row_length, row_coded, number_code, modulus_poly, modulus_coef, modulus_top, modulus_beyond, leads, reduced_length, reduced_coded, reduced_poly}

-- none of the monic polynomials of degree d divides f
unfoldable pub undivided : RingMeaning → List ℕ → ℕ → Bool
undivided r f d = all_below (r.order ^ d) (λ c. not (same (reduced r d c f) (replicate d 0)))

-- none of positive degree up to h does
unfoldable pub unsplit : RingMeaning → List ℕ → ℕ → Bool
unsplit r f h = all_below (suc h) (λ d. eqb d 0 || undivided r f d)

module _ (r : RingMeaning) (L : RingLaws r) where
  abbrev S : Scalars (Code r L)
  S = CodeScalars r L

  abbrev P : Type 0
  P = CodePoly r L

  lower : (d : ℕ) → P → List ℕ
  lower d g = map (λ i. (g.coef i).0) (below d)

  lower_coded : (d : ℕ) (g : P) → Coded r (lower d g)
  unfolding lower
  lower_coded d g = row_coded r L d (λ i. (g.coef i).0) (λ i. (g.coef i).1)

  lower_length : (d : ℕ) (g : P) → length (lower d g) ≡ d
  unfolding lower
  lower_length d g = row_length r L d (λ i. (g.coef i).0)

  lower_code : (d : ℕ) → P → ℕ
  lower_code d g = from_digits r.order (lower d g)

  lower_digits : (d : ℕ) (g : P) → digits r.order d (lower_code d g) ≡ lower d g
  unfolding lower_code
  lower_digits d g = ap (λ (n : ℕ). digits r.order n (from_digits r.order (lower d g))) (sym (lower_length d g)) ∙ digits_number r.order (lower d g) (lower_coded d g)

  -- a monic polynomial is t^d plus the polynomial of a code
  monic_modulus : (g : P) (d : ℕ) (some : 1 ≤ d) → size g ≡ suc d → g.coef d ≡ S.ring.𝟙 → g ≡ modulus_poly r L d (lower_code d g) some
  unfolding lower
  monic_modulus g d some e t = poly_path _ _ (λ i. code_path r L (at i ∙ sym (modulus_coef r L d (lower_code d g) some i)))
    where
      at : (i : ℕ) → (g.coef i).0 ≡ coefficient (modulus r d (lower_code d g)) i
      at i = elim (dec_lt i d) [
        | yes h ↦
            sym (get_or-append (digits r.order d (lower_code d g)) (one r ∷ []) 0 i (omega (arith, h, digits_length r.order d (lower_code d g)))
            ∙ ap (λ (xs : List ℕ). coefficient xs i) (lower_digits d g) ∙ map_below_at (λ j. (g.coef j).0) d i h)
        | no h ↦ elim (ℕ_discrete i d) [
          | yes q ↦ ap (λ (j : ℕ). (g.coef j).0) q ∙ ap (λ (c : Code r L). c.0) t ∙ unit_code r L ∙ sym (ap (coefficient (modulus r d (lower_code d g))) q ∙ modulus_top r L d (lower_code d g) some)
          | no q ↦ ap (λ (c : Code r L). c.0) (low g i (omega (arith, h, q, e))) ∙ zero_code r L ∙ sym (modulus_beyond r L d (lower_code d g) some i (omega (arith, h, q)))
        ]
      ]

  -- where a monic polynomial of degree d divides f, the reduction of f by it is zero, so the test fails
  divided : (f : List ℕ) (h : Coded r f) (g : P) (d : ℕ) (some : 1 ≤ d) → size g ≡ suc d → g.coef d ≡ S.ring.𝟙 → Divides (Polys S) g (poly_of r L f) → undivided r f d ≡ true → ⊥
  unfolding undivided lower_code leads
  divided f h g d some e t p test =
      refuted (same (reduced r d c f) (replicate d 0)) (below_at (r.order ^ d) (λ c. not (same (reduced r d c f) (replicate d 0))) test c (number_code r L d (lower d g) (lower_coded d g) (lower_length d g))) (list_test zeros)
    where
      c : ℕ
      c = lower_code d g

      vanishes : poly_of r L (reduced r d c f) ≡ (Polys S).𝟘
      vanishes =
          sym (reduced_poly r L d c some f h)
          ∙ (rem_zero (leads r L d c some) (poly_of r L f)).0 (subst (λ (x : P). Divides (Polys S) x (poly_of r L f)) (monic_modulus g d some e t) p)

      zeros : reduced r d c f ≡ replicate d 0
      zeros = ext_get_or 0 (reduced r d c f) (replicate d 0) (reduced_length r L d c some f ∙ sym (length-replicate {A = ℕ} d 0)) (λ i l.
          sym (poly_of_code r L (reduced r d c f) (reduced_coded r L d c some f) i) ∙ ap (λ (x : P). (x.coef i).0) vanishes ∙ ap (λ (k : Code r L). k.0) (zero_coef S i) ∙ zero_code r L
          ∙ sym (get_or-replicate d i 0 0 (omega (arith, l, reduced_length r L d c some f))))

module _ (F : FieldMeaning) (L : FieldLaws F) (f : List ℕ) (c : Canonical F.ring f) (positive : 0 < degree f) where
  abbrev r : RingMeaning
  r = F.ring

  abbrev Q : Type 0
  Q = CodePoly r L.ring

  abbrev T : Scalars (Code r L.ring)
  T = CodeScalars r L.ring

  abbrev K : Field T
  K = code_field F L

  h : Coded r f
  h = code_at r L.ring f c

  abbrev g : Q
  g = poly_of r L.ring f

  test_at : (half : ℕ) → unsplit r f half ≡ true → (d : ℕ) → 1 ≤ d → d ≤ half → undivided r f d ≡ true
  unfolding unsplit
  test_at half t d p q = elim (either (eqb d 0) (undivided r f d) (below_at (suc half) (λ d. eqb d 0 || undivided r f d) t d (omega arith))) [
    | inl e ↦ absurd (omega (arith, eqb-true d 0 e))
    | inr e ↦ e
  ]

  -- a divisor of positive degree, at most half, made monic
  no_divisor : (half : ℕ) → unsplit r f half ≡ true → (a : Q) → Divides (Polys T) a g → 2 ≤ size a → size a ≤ suc half → ⊥
  no_divisor half t a p low high = go (scaled K a (omega arith))
    where
      go : Scaled a → ⊥
      go s = by s.monic
        where
          by : Monic ((Polys T).◌⊗◌ (const T s.unit) a) → ⊥
          by m = divided r L.ring f h ((Polys T).◌⊗◌ (const T s.unit) a) m.deg (omega (arith, same_size, low)) m.sized m.leads
              (dvd_trans (Polys T) _ a g (dvd_back K ((Polys T).◌⊗◌ (const T s.unit) a) a (const T s.unit) refl (const_nonzero T s.unit s.nonzero)) p)
              (test_at half t m.deg (omega (arith, same_size, low)) (omega (arith, same_size, high)))
            where
              same_size : suc m.deg ≡ size a
              same_size = sized (size a) refl
                where
                  sized : (k : ℕ) → size a ≡ k → suc m.deg ≡ size a
                  sized zero e = absurd (omega arith)
                  sized (suc k) e = sym m.sized ∙ size_mul K (const T s.unit) a 0 k (const_nonzero T s.unit s.nonzero) e ∙ omega arith

  pub unsplittable_by : (half : ℕ) → degree f ≤ suc (half + half) → unsplit r f half ≡ true → Splits r f → ⊥
  unsplittable_by half bound t s = elim (dec_le (size pl) (suc half)) [
    | yes small ↦ no_divisor half t pl (pr, multiplied ∙ mul_comm (Polys T) pl pr) left small
    | no large ↦ no_divisor half t pr (pl, multiplied) right (omega (arith, large, w.sizes, g_size))
  ]
    where
      pl : Q
      pl = poly_of r L.ring s.left

      pr : Q
      pr = poly_of r L.ring s.right

      multiplied : g ≡ (Polys T).◌⊗◌ pl pr
      multiplied = split_product r L.ring f s

      left : 2 ≤ size pl
      left = omega (arith, s.left_positive, poly_of_size r L.ring s.left s.left_canonical)

      right : 2 ≤ size pr
      right = omega (arith, s.right_positive, poly_of_size r L.ring s.right s.right_canonical)

      g_size : length f ≡ size g
      g_size = omega (arith, positive, poly_of_size r L.ring f c)

      w : Factors g pl pr
      w = factors K g pl pr (omega (arith, positive, g_size)) multiplied
