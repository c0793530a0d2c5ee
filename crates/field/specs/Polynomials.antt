-- Canonical lists of codes are the polynomials over the codes, one to one; what the statements say of lists is what the
-- algebra says of their polynomials.
-- Main statements: poly_of, list_of, list_of_poly, poly_of_list, poly_of_injective, poly_of_size;
-- poly_product, poly_sum, poly_difference, poly_derivative, poly_power, poly_product_of; poly_constant.
use Rattle.std.specs.Prelude.{◌≡◌, ℕ, zero, suc, ◌+◌, ◌-◌, ◌<◌, ◌≤◌, max, ◌↔◌, List, [], ◌∷◌, map, length, ◌≢◌, slice_index, refl}
use Rattle.std.proofs.Math.Path.{sym, ap, fun_ext}
use Rattle.std.proofs.Common.{ap₂, ◌∙◌, subst, arith, ext_get_or}
use Rattle.std.proofs.Math.Decide.{dec_le, dec_lt}
use Rattle.std.proofs.Math.ListN.{get_or-eq_default}
use Rattle.algebra.specs.Ring.{Ring}
use Rattle.algebra.proofs.Powers.{pow, prod, pow_zero, pow_suc, prod_nil, prod_cons}
use Rattle.algebra.proofs.Seq.{Seqs, tail, prod_at_zero, prod_at_suc}
use Rattle.algebra.proofs.Combination.{total as sum_of, total_zero, total_suc}
use Rattle.algebra.proofs.Derivative.{der, der_coef, der_size}
use Rattle.algebra.proofs.Laws.{add_zero}
use Rattle.algebra.proofs.Bounds.{below_mul}
use Rattle.algebra.proofs.Size.{size_sum, size_neg}
use Rattle.algebra.proofs.Monic.{Monic as MonicPoly}
use Rattle.algebra.proofs.Terms.{const, const_coef_zero, const_coef_suc, const_one, const_zero}
use Rattle.algebra.proofs.Poly.{Poly, Polys, poly, poly_path, poly_coef, size, low, top, size_le, size_ge, sum_coef, neg_coef, prod_coef}
use Rattle.field.specs.Ring.{RingMeaning, RingLaws, one, total, multiple}
use Rattle.field.specs.Polynomial.{coefficient, degree, leading, constant, zero_polynomial, polynomial, product, sum, difference, derivative, polynomial_power, product_of, Canonical, Monic}
use Rattle.field.specs.Coefficients.{polynomial_at, polynomial_beyond}
use Rattle.field.specs.Forms.{polynomial_canonical}
use Rattle.field.specs.Scalars.{Code, CodeRing, CodeScalars, below_path, zero_code, unit_code, sum_codes, product_codes, opposite_codes, total_codes, multiple_codes, scalar, scalar_value, scalar_zero, scalar_one, zero_is_code, total_code}

-- the first n of a sequence
first : ℕ → (ℕ → ℕ) → List ℕ
first zero g = []
first (suc n) g = g 0 ∷ first n (tail g)

first_length : (n : ℕ) (g : ℕ → ℕ) → length (first n g) ≡ n
unfolding first
first_length zero g = refl
first_length (suc n) g = ap suc (first_length n (tail g))

first_at : (n : ℕ) (g : ℕ → ℕ) (i : ℕ) → i < n → slice_index (first n g) i ≡ g i
unfolding first
first_at zero g i h = absurd (omega arith)
first_at (suc n) g zero h = refl
first_at (suc n) g (suc i) h = first_at n (tail g) i (omega arith)

-- all coefficients are codes
abbrev pub Coded : RingMeaning → List ℕ → Type 0
Coded m f = (i : ℕ) → coefficient f i < m.order

module _ (m : RingMeaning) where
  top_after : (xs ys : List ℕ) → Canonical m xs → Canonical m ys → ((i : ℕ) → slice_index xs i ≡ slice_index ys i) → length xs ≤ length ys
  top_after xs ys cx cy e = go (dec_le (length xs) (length ys))
    where
      go : Dec (length xs ≤ length ys) → length xs ≤ length ys
      go (yes h) = h
      go (no h) = absurd (cx.leads (omega (arith, cy.some_code)) (e (length xs - 1) ∙ get_or-eq_default ys 0 (omega arith)))

  -- canonical lists with the same coefficients are equal
  pub canonical_unique : (xs ys : List ℕ) → Canonical m xs → Canonical m ys → ((i : ℕ) → slice_index xs i ≡ slice_index ys i) → xs ≡ ys
  canonical_unique xs ys cx cy e =
      ext_get_or 0 xs ys (omega (arith, top_after xs ys cx cy e, top_after ys xs cy cx (λ i. sym (e i)))) (λ i h. e i)

module _ (m : RingMeaning) (L : RingLaws m) where
  abbrev pub P : Type 0
  P = Poly (CodeScalars m L)

  abbrev R : Ring P
  R = Polys (CodeScalars m L)

  pub code_at : (f : List ℕ) → Canonical m f → Coded m f
  code_at f k i = elim (dec_lt i (length f)) [
    | yes h ↦ k.codes i h
    | no h ↦ subst (λ x. x < m.order) (sym (get_or-eq_default f 0 (omega arith))) (zero_is_code m L)
  ]

  -- the polynomial of a list of codes
  pub poly_of : List ℕ → P
  poly_of xs = poly (CodeScalars m L) (length xs) (λ i. scalar m L (slice_index xs i)) (λ i k. ap (scalar m L) (get_or-eq_default xs 0 k) ∙ scalar_zero m L)

  pub poly_of_coef : (xs : List ℕ) (i : ℕ) → (poly_of xs).coef i ≡ scalar m L (slice_index xs i)
  unfolding poly_of
  poly_of_coef xs i = poly_coef (CodeScalars m L) _ _ _ i

  pub poly_of_code : (xs : List ℕ) → Coded m xs → (i : ℕ) → ((poly_of xs).coef i).0 ≡ slice_index xs i
  poly_of_code xs c i = ap (λ (x : Code m L). x.0) (poly_of_coef xs i) ∙ scalar_value m L _ (c i)

  pub poly_of_at : (xs : List ℕ) → Canonical m xs → (i : ℕ) → ((poly_of xs).coef i).0 ≡ slice_index xs i
  poly_of_at xs c = poly_of_code xs (code_at xs c)

  pub poly_of_same : (xs ys : List ℕ) → ((i : ℕ) → slice_index xs i ≡ slice_index ys i) → poly_of xs ≡ poly_of ys
  poly_of_same xs ys e = poly_path _ _ (λ i. poly_of_coef xs i ∙ ap (scalar m L) (e i) ∙ sym (poly_of_coef ys i))

  pub poly_of_short : (xs : List ℕ) → size (poly_of xs) ≤ length xs
  poly_of_short xs = size_le (poly_of xs) (length xs) (λ i k. poly_of_coef xs i ∙ ap (scalar m L) (get_or-eq_default xs 0 k) ∙ scalar_zero m L)

  -- a polynomial is that of a canonical list if it has its coefficients
  pub poly_of_is : (xs : List ℕ) (f : P) → ((i : ℕ) → slice_index xs i ≡ (f.coef i).0) → poly_of xs ≡ f
  poly_of_is xs f e = poly_path _ _ (λ i. poly_of_coef xs i ∙ below_path m.order (ap (λ (x : ℕ). (scalar m L x).0) (e i) ∙ scalar_value m L _ (f.coef i).1))

  -- the list of a polynomial
  pub list_of : P → List ℕ
  list_of f = first (max 1 (size f)) (λ i. (f.coef i).0)

  pub list_of_length : (f : P) → length (list_of f) ≡ max 1 (size f)
  unfolding list_of
  list_of_length f = first_length (max 1 (size f)) (λ i. (f.coef i).0)

  pub list_of_at : (f : P) (i : ℕ) → slice_index (list_of f) i ≡ (f.coef i).0
  unfolding list_of
  list_of_at f i = go (dec_lt i (max 1 (size f)))
    where
      go : Dec (i < max 1 (size f)) → slice_index (list_of f) i ≡ (f.coef i).0
      go (yes h) = first_at (max 1 (size f)) (λ k. (f.coef k).0) i h
      go (no h) = get_or-eq_default (list_of f) 0 (omega (arith, first_length (max 1 (size f)) (λ k. (f.coef k).0))) ∙ sym (ap (λ (x : Code m L). x.0) (low f i (omega arith)) ∙ zero_code m L)

  pub list_of_canonical : (f : P) → Canonical m (list_of f)
  list_of_canonical f = record {
    some_code = omega (arith, list_of_length f);
    codes = λ i h. subst (λ (n : ℕ). n < m.order) (sym (list_of_at f i)) (f.coef i).1;
    leads = λ h z. go (size f) refl h z;
  }
    where
      go : (n : ℕ) → size f ≡ n → 1 < length (list_of f) → leading (list_of f) ≢ 0
      go zero e h z = absurd (omega (arith, list_of_length f))
      go (suc n) e h z = top f n e (below_path m.order (sym (list_of_at f n) ∙ ap (λ (i : ℕ). slice_index (list_of f) i) at ∙ z ∙ sym (zero_code m L)))
        where
          at : n ≡ length (list_of f) - 1
          at = omega (arith, list_of_length f)

  -- there and back
  pub poly_of_list : (f : P) → poly_of (list_of f) ≡ f
  poly_of_list f = poly_of_is (list_of f) f (list_of_at f)

  pub list_of_poly : (xs : List ℕ) → Canonical m xs → list_of (poly_of xs) ≡ xs
  list_of_poly xs c = canonical_unique m _ xs (list_of_canonical (poly_of xs)) c (λ i. list_of_at (poly_of xs) i ∙ poly_of_at xs c i)

  pub poly_of_injective : (xs ys : List ℕ) → Canonical m xs → Canonical m ys → poly_of xs ≡ poly_of ys → xs ≡ ys
  poly_of_injective xs ys cx cy e = sym (list_of_poly xs cx) ∙ ap list_of e ∙ list_of_poly ys cy

  -- the length of a canonical list is the size of its polynomial, and one for zero
  pub poly_of_size : (xs : List ℕ) → Canonical m xs → length xs ≡ max 1 (size (poly_of xs))
  poly_of_size xs c = ap length (sym (list_of_poly xs c)) ∙ list_of_length (poly_of xs)

  -- of positive degree
  pub positive_size : (xs : List ℕ) → Canonical m xs → 0 < degree xs → 2 ≤ size (poly_of xs)
  positive_size xs c h = omega (arith, poly_of_size xs c)

  pub size_positive : (xs : List ℕ) → Canonical m xs → 2 ≤ size (poly_of xs) → 0 < degree xs
  size_positive xs c h = omega (arith, poly_of_size xs c)

  -- the degree of what is not zero
  pub size_degree : (xs : List ℕ) → Canonical m xs → 1 ≤ size (poly_of xs) → size (poly_of xs) ≡ suc (degree xs)
  size_degree xs c h = omega (arith, poly_of_size xs c)

  -- a list given by coefficients, and a polynomial with the same that is no longer
  pub given : (n : ℕ) (c : ℕ → ℕ) (f : P) → size f ≤ n → ((i : ℕ) → (f.coef i).0 ≡ c i) → poly_of (polynomial n c) ≡ f
  given n c f l e = poly_of_is (polynomial n c) f (λ i. elim (dec_lt i n) [
    | yes h ↦ polynomial_at n c i h ∙ sym (e i)
    | no h ↦ polynomial_beyond n c i (omega arith) ∙ sym (ap (λ (x : Code m L). x.0) (low f i (omega arith)) ∙ zero_code m L)
  ])

  -- the product of two sequences, as a sum
  product_total : {K : Type 0} (Q : Ring K) (n : ℕ) (f g : ℕ → K) → (Seqs Q).◌⊗◌ f g n ≡ sum_of Q (suc n) (λ i. Q.◌⊗◌ (f i) (g (n - i)))
  product_total Q zero f g = prod_at_zero Q f g ∙ sym (total_suc Q 0 _ ∙ ap (Q.◌⊕◌ (Q.◌⊗◌ (f 0) (g 0))) (total_zero Q _) ∙ add_zero Q _)
  product_total {K = K} Q (suc n) f g =
      prod_at_suc Q f g n
      ∙ ap₂ Q.◌⊕◌ (ap (λ (k : ℕ). Q.◌⊗◌ (f 0) (g k)) whole) (product_total Q n (tail f) g ∙ ap (sum_of Q (suc n)) (fun_ext (λ i. ap (λ (k : ℕ). Q.◌⊗◌ (f (suc i)) (g k)) (less i))))
      ∙ sym (total_suc Q (suc n) (λ i. Q.◌⊗◌ (f i) (g (suc n - i))))
    where
      less : (i : ℕ) → n - i ≡ suc n - suc i
      less i = omega arith

      whole : suc n ≡ suc n - 0
      whole = omega arith

  product_short : (a b : P) (i j : ℕ) → size a ≤ i → size b ≤ j → size (R.◌⊗◌ a b) ≤ i + j
  product_short a b i j h k =
      size_le (R.◌⊗◌ a b) (i + j) (λ n l. prod_coef (CodeScalars m L) a b n ∙ below_mul (CodeRing m L) n a.coef b.coef (size a) (size b) (low a) (low b) (omega arith))

  -- a result is canonical
  pub product_canonical : (f g : List ℕ) → Canonical m (product m f g)
  product_canonical f g = polynomial_canonical m _ _ (zero_is_code m L) (λ n. total_code m L (suc n) _)

  pub sum_canonical : (f g : List ℕ) → Canonical m (sum m f g)
  sum_canonical f g = polynomial_canonical m _ _ (zero_is_code m L) (λ n. L.sum_code _ _)

  pub difference_canonical : (f g : List ℕ) → Canonical m (difference m f g)
  difference_canonical f g = polynomial_canonical m _ _ (zero_is_code m L) (λ n. L.sum_code _ _)

  pub derivative_canonical : (f : List ℕ) → Canonical m (derivative m f)
  derivative_canonical f = polynomial_canonical m _ _ (zero_is_code m L) (λ n. total_code m L (suc n) _)

  pub constant_canonical : (a : ℕ) → a < m.order → Canonical m (constant a)
  constant_canonical a h = record {
    some_code = omega arith;
    codes = λ i l. subst (λ (k : ℕ). coefficient (constant a) k < m.order) (at_zero i l) h;
    leads = λ l e. absurd (omega arith);
  }
    where
      at_zero : (i : ℕ) → i < 1 → 0 ≡ i
      at_zero i l = omega arith

  pub poly_constant : (a : ℕ) → poly_of (constant a) ≡ const (CodeScalars m L) (scalar m L a)
  poly_constant a = poly_path _ _ (λ i. poly_of_coef (constant a) i ∙ at i)
    where
      at : (i : ℕ) → scalar m L (slice_index (constant a) i) ≡ (const (CodeScalars m L) (scalar m L a)).coef i
      at zero = sym (const_coef_zero (CodeScalars m L) _)
      at (suc i) = scalar_zero m L ∙ sym (const_coef_suc (CodeScalars m L) _ i)

  pub poly_one : poly_of (constant (one m)) ≡ R.𝟙
  poly_one = poly_constant (one m) ∙ ap (const (CodeScalars m L)) (scalar_one m L) ∙ const_one (CodeScalars m L)

  pub poly_zero : poly_of zero_polynomial ≡ R.𝟘
  poly_zero = poly_constant 0 ∙ ap (const (CodeScalars m L)) (scalar_zero m L) ∙ const_zero (CodeScalars m L)

  pub one_canonical : Canonical m (constant (one m))
  one_canonical = constant_canonical (one m) L.one_code.1

  pub zero_canonical : Canonical m zero_polynomial
  zero_canonical = constant_canonical 0 (zero_is_code m L)

  -- the polynomial of zero coefficients only
  pub is_zero : (f : List ℕ) → Canonical m f → (poly_of f ≡ R.𝟘) ↔ (f ≡ zero_polynomial)
  is_zero f c = (λ e. poly_of_injective f zero_polynomial c zero_canonical (e ∙ sym poly_zero), λ e. ap poly_of e ∙ poly_zero)

  module _ (f g : List ℕ) (cf : Coded m f) (cg : Coded m g) where
    product_coefs : (n : ℕ) → ((R.◌⊗◌ (poly_of f) (poly_of g)).coef n).0 ≡ total m (suc n) (λ i. m.product (coefficient f i) (coefficient g (n - i)))
    product_coefs n =
        ap (λ (x : Code m L). x.0) (prod_coef (CodeScalars m L) (poly_of f) (poly_of g) n ∙ product_total (CodeRing m L) n (poly_of f).coef (poly_of g).coef)
        ∙ total_codes m L (suc n) _
        ∙ ap (total m (suc n)) (fun_ext (λ i. product_codes m L _ _ ∙ ap₂ m.product (poly_of_code f cf i) (poly_of_code g cg (n - i))))

    -- of any lists of codes, also with zeros at the end
    pub poly_product_coded : poly_of (product m f g) ≡ R.◌⊗◌ (poly_of f) (poly_of g)
    poly_product_coded = given (length f + length g) _ _ (product_short (poly_of f) (poly_of g) _ _ (poly_of_short f) (poly_of_short g)) product_coefs

    pub poly_sum_coded : poly_of (sum m f g) ≡ R.◌⊕◌ (poly_of f) (poly_of g)
    poly_sum_coded = given (max (length f) (length g)) _ _ (size_sum (poly_of f) (poly_of g) _ (omega (arith, poly_of_short f)) (omega (arith, poly_of_short g)))
        (λ i. ap (λ (x : Code m L). x.0) (sum_coef (CodeScalars m L) _ _ i) ∙ sum_codes m L _ _ ∙ ap₂ m.sum (poly_of_code f cf i) (poly_of_code g cg i))

    pub poly_difference_coded : poly_of (difference m f g) ≡ R.◌⊕◌ (poly_of f) (R.neg (poly_of g))
    poly_difference_coded = given (max (length f) (length g)) _ _
        (size_sum (poly_of f) (R.neg (poly_of g)) _ (omega (arith, poly_of_short f)) (size_neg (poly_of g) _ (omega (arith, poly_of_short g))))
        (λ i. ap (λ (x : Code m L). x.0) (sum_coef (CodeScalars m L) _ _ i ∙ ap ((CodeRing m L).◌⊕◌ ((poly_of f).coef i)) (neg_coef (CodeScalars m L) (poly_of g) i))
        ∙ sum_codes m L _ _ ∙ ap₂ m.sum (poly_of_code f cf i) (opposite_codes m L _ ∙ ap m.opposite (poly_of_code g cg i)))

  module _ (f g : List ℕ) (cf : Canonical m f) (cg : Canonical m g) where
    pub poly_product : poly_of (product m f g) ≡ R.◌⊗◌ (poly_of f) (poly_of g)
    poly_product = poly_product_coded f g (code_at f cf) (code_at g cg)

    pub poly_sum : poly_of (sum m f g) ≡ R.◌⊕◌ (poly_of f) (poly_of g)
    poly_sum = poly_sum_coded f g (code_at f cf) (code_at g cg)

    pub poly_difference : poly_of (difference m f g) ≡ R.◌⊕◌ (poly_of f) (R.neg (poly_of g))
    poly_difference = poly_difference_coded f g (code_at f cf) (code_at g cg)

  pub poly_derivative : (f : List ℕ) → Canonical m f → poly_of (derivative m f) ≡ der (poly_of f)
  poly_derivative f c = given (degree f) _ _ (der_size (poly_of f) (degree f) (omega (arith, poly_of_short f, c.some_code)))
      (λ i. ap (λ (x : Code m L). x.0) (der_coef (poly_of f) i) ∙ multiple_codes m L (suc i) _ ∙ ap (multiple m (suc i)) (poly_of_at f c (suc i)))

  pub power_canonical : (f : List ℕ) (n : ℕ) → Canonical m (polynomial_power m f n)
  unfolding polynomial_power
  power_canonical f zero = one_canonical
  power_canonical f (suc n) = product_canonical f (polynomial_power m f n)

  pub poly_power : (f : List ℕ) → Canonical m f → (n : ℕ) → poly_of (polynomial_power m f n) ≡ pow R (poly_of f) n
  unfolding polynomial_power
  poly_power f c zero = poly_one ∙ sym (pow_zero R _)
  poly_power f c (suc n) = poly_product f _ c (power_canonical f n) ∙ ap (R.◌⊗◌ (poly_of f)) (poly_power f c n) ∙ sym (pow_suc R _ n)

  pub product_of_canonical : (fs : List (List ℕ)) → Canonical m (product_of m fs)
  unfolding product_of
  product_of_canonical [] = one_canonical
  product_of_canonical (f ∷ fs) = product_canonical f (product_of m fs)

  -- each of a list of polynomials is canonical
  abbrev pub AllCanonical : List (List ℕ) → Type 0
  AllCanonical [] = Unit {0}
  AllCanonical (f ∷ fs) = Canonical m f × AllCanonical fs

  pub poly_product_of : (fs : List (List ℕ)) → AllCanonical fs → poly_of (product_of m fs) ≡ prod R (map poly_of fs)
  unfolding product_of
  poly_product_of [] c = poly_one ∙ sym (prod_nil R)
  poly_product_of (f ∷ fs) c = poly_product f _ c.0 (product_of_canonical fs) ∙ ap (R.◌⊗◌ (poly_of f)) (poly_product_of fs c.1) ∙ sym (prod_cons R _ _)

  -- a monic list is a monic polynomial, and the other way round
  pub poly_monic : (f : List ℕ) → Canonical m f → Monic m f → MonicPoly (poly_of f)
  poly_monic f c e = record { deg = degree f; sized = sized; leads = leads }
    where
      leads : (poly_of f).coef (degree f) ≡ (CodeRing m L).𝟙
      leads = below_path m.order (poly_of_at f c (degree f) ∙ e ∙ sym (unit_code m L))

      sized : size (poly_of f) ≡ suc (degree f)
      sized = size_degree f c (omega (arith, size_ge (poly_of f) (degree f) (λ z. absurd (omega (arith, L.one_code.0, sym e ∙ sym (poly_of_at f c (degree f)) ∙ ap (λ (x : Code m L). x.0) z ∙ zero_code m L)))))

  pub monic_poly : (f : List ℕ) → Canonical m f → MonicPoly (poly_of f) → Monic m f
  monic_poly f c k = ap (coefficient f) at ∙ sym (poly_of_at f c k.deg) ∙ ap (λ (x : Code m L). x.0) k.leads ∙ unit_code m L
    where
      at : degree f ≡ k.deg
      at = omega (arith, poly_of_size f c, k.sized)
