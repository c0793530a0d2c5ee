-- The polynomial of a row of codes, when the zeros at its end are dropped, and when a multiple of another polynomial is added at a
-- place. The length of a canonical list by its coefficients.
-- Main statements: poly_nothing, poly_trimmed, trimmed_canonical, trimmed_same; monomial, monomial_opposite, poly_added, poly_placed, poly_scaled; canonical_short,
-- canonical_length, leading_zero.
use Rattle.std.proofs.Common.{◌≡◌, ℕ, zero, suc, ◌+◌, ◌-◌, ◌<◌, ◌≤◌, ◌≢◌, List, length, get_or, set, sym, refl, ap, ◌∙◌, subst, ap₂, arith, get_or-set_other, get_or-set_same}
use native.Mathlib.Decide.{dec_le, dec_lt}
use lib.ListN.{get_or-eq_default}
use Rattle.algebra.specs.Ring.{Ring}
use Rattle.algebra.specs.Powers.{pow}
use Rattle.algebra.proofs.Laws.{add_zero, mul_assoc, mul_one, ⊗_neg}
use Rattle.algebra.proofs.Poly.{Polys, poly_path, sum_coef}
use Rattle.algebra.proofs.Terms.{const, const_mul_coef, const_neg, X, X_pow_above, X_pow_below}
use Rattle.field.specs.Ring.{RingMeaning, RingLaws, one}
use Rattle.field.specs.Polynomial.{coefficient, leading, constant, zero_polynomial, trimmed, or_zero, Canonical}
use Rattle.field.specs.Rows.{IsRow, Written}
use Rattle.field.specs.Coefficients.{trimmed_at, or_zero_at}
use Rattle.field.specs.Forms.{list_canonical}
use Rattle.field.specs.Scalars.{Code, CodeRing, CodeScalars, below_path, sum_codes, opposite_codes, scalar, scalar_value, scalar_zero, scalar_product, zero_is_code, zero_sum, product_zero}
use Rattle.field.specs.Polynomials.{P, Coded, code_at, poly_of, poly_of_coef, poly_of_same, canonical_unique, poly_one, poly_zero, zero_canonical}

-- without the zeros at its end, but for one code, a list has the same coefficients
pub trimmed_coefficient : (xs : List ℕ) (i : ℕ) → coefficient (or_zero (trimmed xs)) i ≡ coefficient xs i
trimmed_coefficient xs i = or_zero_at (trimmed xs) i ∙ trimmed_at xs i

-- a canonical list is no longer than the places of its coefficients other than zero
pub canonical_short : (m : RingMeaning) (f : List ℕ) (n : ℕ) → Canonical m f → 0 < n → ((i : ℕ) → n ≤ i → coefficient f i ≡ 0) → length f ≤ n
canonical_short m f n c p z = go (dec_le (length f) n)
  where
    go : Dec (length f ≤ n) → length f ≤ n
    go (yes h) = h
    go (no h) = absurd (c.leads (omega arith) (z (length f - 1) (omega arith)))

-- and it is as long, if the last of the places has one
pub canonical_length : (m : RingMeaning) (f : List ℕ) (n : ℕ) → Canonical m f → ((i : ℕ) → suc n ≤ i → coefficient f i ≡ 0) → coefficient f n ≢ 0 → length f ≡ suc n
canonical_length m f n c z h = omega (arith, canonical_short m f (suc n) c (omega arith) z, go (dec_lt n (length f)))
  where
    go : Dec (n < length f) → n < length f
    go (yes l) = l
    go (no l) = absurd (h (get_or-eq_default f 0 (omega arith)))

module _ (m : RingMeaning) (L : RingLaws m) where
  abbrev R : Ring (P m L)
  R = Polys (CodeScalars m L)

  pub poly_trimmed : (xs : List ℕ) → poly_of m L (or_zero (trimmed xs)) ≡ poly_of m L xs
  poly_trimmed xs = poly_of_same m L (or_zero (trimmed xs)) xs (trimmed_coefficient xs)

  pub trimmed_canonical : (xs : List ℕ) → Coded m xs → Canonical m (or_zero (trimmed xs))
  trimmed_canonical xs c = list_canonical m xs (zero_is_code m L) c

  -- a canonical list has no zeros to drop
  pub trimmed_same : (xs : List ℕ) → Canonical m xs → or_zero (trimmed xs) ≡ xs
  trimmed_same xs c = canonical_unique m (or_zero (trimmed xs)) xs (trimmed_canonical xs (code_at m L xs c)) c (trimmed_coefficient xs)

  -- zeros alone
  pub poly_nothing : (xs : List ℕ) → ((i : ℕ) → coefficient xs i ≡ 0) → poly_of m L xs ≡ R.𝟘
  poly_nothing xs z = poly_of_same m L xs zero_polynomial (λ i. z i ∙ none i) ∙ poly_zero m L
    where
      none : (i : ℕ) → 0 ≡ coefficient zero_polynomial i
      none zero = refl
      none (suc i) = refl

  scalar_sum : (a b : ℕ) → a < m.order → b < m.order → scalar m L (m.sum a b) ≡ (CodeRing m L).◌⊕◌ (scalar m L a) (scalar m L b)
  scalar_sum a b ha hb =
      below_path m.order (scalar_value m L _ (L.sum_code a b) ∙ sym (sum_codes m L _ _ ∙ ap₂ m.sum (scalar_value m L a ha) (scalar_value m L b hb)))

  scalar_opposite : (a : ℕ) → a < m.order → scalar m L (m.opposite a) ≡ (CodeRing m L).neg (scalar m L a)
  scalar_opposite a h = below_path m.order (scalar_value m L _ (L.opposite_code a) ∙ sym (opposite_codes m L _ ∙ ap m.opposite (scalar_value m L a h)))

  -- t X^p
  pub monomial : ℕ → ℕ → P m L
  monomial t p = R.◌⊗◌ (pow R (X (CodeScalars m L)) p) (const (CodeScalars m L) (scalar m L t))

  pub monomial_opposite : (t p : ℕ) → t < m.order → monomial (m.opposite t) p ≡ R.neg (monomial t p)
  unfolding monomial
  monomial_opposite t p h =
      ap (λ (c : Code m L). R.◌⊗◌ (pow R (X (CodeScalars m L)) p) (const (CodeScalars m L) c)) (scalar_opposite t h)
      ∙ ap (R.◌⊗◌ (pow R (X (CodeScalars m L)) p)) (const_neg (CodeScalars m L) (scalar m L t))
      ∙ ⊗_neg R _ _

  -- the coefficients of a multiple of g by t X^p
  multiple_above : (t p : ℕ) (g : List ℕ) (i : ℕ) → (R.◌⊗◌ (monomial t p) (poly_of m L g)).coef (p + i) ≡ (CodeRing m L).◌⊗◌ (scalar m L t) (scalar m L (get_or g i 0))
  unfolding monomial
  multiple_above t p g i =
      ap (λ (x : P m L). x.coef (p + i)) (mul_assoc R _ _ _)
      ∙ X_pow_above (CodeScalars m L) p _ i
      ∙ const_mul_coef (CodeScalars m L) (scalar m L t) (poly_of m L g) i
      ∙ ap ((CodeRing m L).◌⊗◌ (scalar m L t)) (poly_of_coef m L g i)

  multiple_below : (t p : ℕ) (g : List ℕ) (i : ℕ) → i < p → (R.◌⊗◌ (monomial t p) (poly_of m L g)).coef i ≡ (CodeRing m L).𝟘
  unfolding monomial
  multiple_below t p g i h = ap (λ (x : P m L). x.coef i) (mul_assoc R _ _ _) ∙ X_pow_below (CodeScalars m L) p _ i h

  -- a row to which t times g was added from place p on
  pub poly_added : (old new g : List ℕ) (t p : ℕ) → Coded m old → Coded m g → t < m.order →
      Written old new p (length g) (λ i. m.sum (get_or old (p + i) 0) (m.product t (coefficient g i))) →
      poly_of m L new ≡ R.◌⊕◌ (poly_of m L old) (R.◌⊗◌ (monomial t p) (poly_of m L g))
  poly_added old new g t p co cg ct w = poly_path _ _ (λ k. poly_of_coef m L new k ∙ at k (dec_lt k p) ∙ sym (sum_coef (CodeScalars m L) _ _ k))
    where
      plus : (k : ℕ) (x : Code m L) → x ≡ (CodeRing m L).𝟘 → get_or new k 0 ≡ get_or old k 0 → scalar m L (get_or new k 0) ≡ (CodeRing m L).◌⊕◌ ((poly_of m L old).coef k) x
      plus k x z e = ap (scalar m L) e ∙ sym (poly_of_coef m L old k) ∙ sym (ap ((CodeRing m L).◌⊕◌ ((poly_of m L old).coef k)) z ∙ add_zero (CodeRing m L) _)

      inside : (i : ℕ) → Dec (i < length g) → scalar m L (get_or new (p + i) 0) ≡ (CodeRing m L).◌⊕◌ ((poly_of m L old).coef (p + i)) ((CodeRing m L).◌⊗◌ (scalar m L t) (scalar m L (get_or g i 0)))
      inside i (yes h) =
          ap (scalar m L) (w.inside i h) ∙ scalar_sum _ _ (co (p + i)) (L.product_code t _)
          ∙ ap₂ (CodeRing m L).◌⊕◌ (sym (poly_of_coef m L old (p + i))) (scalar_product m L t _ ct (cg i))
      inside i (no h) =
          plus (p + i) _ (sym (scalar_product m L t _ ct (cg i)) ∙ ap (scalar m L) (ap (m.product t) (get_or-eq_default g 0 (omega arith)) ∙ zeros) ∙ scalar_zero m L) (w.after (p + i) (omega arith))
        where
          zeros : m.product t 0 ≡ 0
          zeros = product_zero m L t ct

      at : (k : ℕ) → Dec (k < p) → scalar m L (get_or new k 0) ≡ (CodeRing m L).◌⊕◌ ((poly_of m L old).coef k) ((R.◌⊗◌ (monomial t p) (poly_of m L g)).coef k)
      at k (yes h) = plus k _ (multiple_below t p g k h) (w.before k h)
      at k (no h) =
          subst (λ (j : ℕ). scalar m L (get_or new j 0) ≡ (CodeRing m L).◌⊕◌ ((poly_of m L old).coef j) ((R.◌⊗◌ (monomial t p) (poly_of m L g)).coef j)) back
          (inside (k - p) (dec_lt (k - p) (length g)) ∙ ap ((CodeRing m L).◌⊕◌ ((poly_of m L old).coef (p + (k - p)))) (sym (multiple_above t p g (k - p))))
        where
          back : p + (k - p) ≡ k
          back = omega arith

  -- a row of which a zero has become t
  pub poly_placed : (row : List ℕ) (t p : ℕ) → Coded m row → t < m.order → p < length row → get_or row p 0 ≡ 0 →
      poly_of m L (set row p t) ≡ R.◌⊕◌ (poly_of m L row) (monomial t p)
  poly_placed row t p c ct h z =
      poly_added row (set row p t) (constant (one m)) t p c ones ct (record {
        inside = at;
        before = λ k l. let ne : k ≢ p = omega arith in get_or-set_other row p k t 0 ne;
        after = λ k l. let ne : k ≢ p = omega arith in get_or-set_other row p k t 0 ne;
      })
      ∙ ap (λ (x : P m L). R.◌⊕◌ (poly_of m L row) (R.◌⊗◌ (monomial t p) x)) (poly_one m L)
      ∙ ap (R.◌⊕◌ (poly_of m L row)) (mul_one R _)
    where
      ones : Coded m (constant (one m))
      ones zero = L.one_code.1
      ones (suc i) = zero_is_code m L

      here : p + 0 ≡ p
      here = omega arith

      at : (i : ℕ) → i < 1 → get_or (set row p t) (p + i) 0 ≡ m.sum (get_or row (p + i) 0) (m.product t (coefficient (constant (one m)) i))
      at zero l =
          ap (λ (k : ℕ). get_or (set row p t) k 0) here ∙ get_or-set_same row p t 0 h
          ∙ sym (ap₂ m.sum (ap (λ (k : ℕ). get_or row k 0) here ∙ z) (L.product_one t ct) ∙ zero_sum m L t ct)
      at (suc i) l = absurd (omega arith)

  -- a row of which each code was multiplied by u
  pub row_scaled : (old new : List ℕ) (u : ℕ) → u < m.order → IsRow new (length old) (λ i. m.product u (get_or old i 0)) → (i : ℕ) → get_or new i 0 ≡ m.product u (get_or old i 0)
  row_scaled old new u cu w i = go (dec_lt i (length old))
    where
      go : Dec (i < length old) → get_or new i 0 ≡ m.product u (get_or old i 0)
      go (yes h) = w.at i h
      go (no h) =
          get_or-eq_default new 0 (omega (arith, w.sized))
          ∙ sym (ap (m.product u) (get_or-eq_default old 0 (omega arith)) ∙ product_zero m L u cu)

  pub poly_scaled : (old new : List ℕ) (u : ℕ) → Coded m old → u < m.order → IsRow new (length old) (λ i. m.product u (get_or old i 0)) →
      poly_of m L new ≡ R.◌⊗◌ (const (CodeScalars m L) (scalar m L u)) (poly_of m L old)
  poly_scaled old new u c cu w = poly_path _ _ (λ i.
      poly_of_coef m L new i ∙ ap (scalar m L) (row_scaled old new u cu w i) ∙ scalar_product m L u _ cu (c i)
      ∙ ap ((CodeRing m L).◌⊗◌ (scalar m L u)) (sym (poly_of_coef m L old i)) ∙ sym (const_mul_coef (CodeScalars m L) (scalar m L u) (poly_of m L old) i))

  -- only zero has a last code 0
  pub leading_zero : (f : List ℕ) → Canonical m f → leading f ≡ 0 → f ≡ zero_polynomial
  leading_zero f c z = go (dec_lt 1 (length f))
    where
      go : Dec (1 < length f) → f ≡ zero_polynomial
      go (yes h) = absurd (c.leads h z)
      go (no h) = canonical_unique m f zero_polynomial c (zero_canonical m L) at
        where
          none : length f - 1 ≡ 0
          none = omega arith

          at : (i : ℕ) → coefficient f i ≡ coefficient zero_polynomial i
          at zero = ap (coefficient f) (sym none) ∙ z
          at (suc i) = get_or-eq_default f 0 (omega arith)
