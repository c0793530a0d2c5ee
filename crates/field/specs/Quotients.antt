-- The quotient of a ring by t^k plus a polynomial, in codes, is the ring of remainders modulo that polynomial.
use Rattle.std.specs.Prelude.{◌≡◌, ℕ, zero, suc, ◌-◌, ◌^◌, ◌<◌, ◌≤◌, List, [], ◌∷◌, ◌++◌, map, length, replicate, slice_index}
use Rattle.std.proofs.Math.Path.{refl, sym, ap, subst}
use Rattle.std.proofs.Common.{ap₂, ◌∙◌, arith, length-append}
use Rattle.std.proofs.Math.Decide.{dec_lt, ℕ_discrete}
use Rattle.std.proofs.lemmas.List.{length-map, get_or-replicate}
use Rattle.std.proofs.Math.ListN.{length-replicate, get_or-eq_default, get_or-append}
use Rattle.algebra.specs.Ring.{Scalars}
use Rattle.algebra.proofs.Laws.{one_⊗, zero_⊗, add_neg}
use Rattle.algebra.proofs.Solver.{◌:+◌, ◌:*◌, ◌:-◌, ring, A, B, C, D, E}
use Rattle.algebra.proofs.Poly.{Polys, size, sum_coef, neg_coef}
use Rattle.algebra.proofs.Terms.{const, X, const_mul_coef}
use Rattle.algebra.proofs.Divides.{Divides}
use Rattle.algebra.proofs.Low.{onto_coef_zero, onto_coef_suc}
use Rattle.algebra.proofs.Remainder.{Leading, rem, rem_unique}
use Rattle.field.specs.Checks.{below}
use Rattle.field.specs.Ring.{RingMeaning, RingLaws, one}
use Rattle.field.specs.Polynomial.{coefficient, Canonical}
use Rattle.field.specs.Quotient.{digits, from_digits, modulus, lowered, reduced}
use Rattle.field.specs.Coefficients.{below_length, map_below_at}
use Rattle.field.specs.Digits.{digits_length, digits_below, number_below, digits_number}
use Rattle.field.specs.Scalars.{Code, CodeScalars, code_path, unit_code, sum_codes, product_codes, opposite_codes, zero_is_code, product_zero, opposite_zero}
use Rattle.field.specs.Polynomials.{Coded, P as CodePoly, poly_of, poly_of_code, poly_of_is, poly_of_same, poly_of_short}

last_at : (xs : List ℕ) (y : ℕ) → slice_index (xs ++ y ∷ []) (length xs) ≡ y
last_at [] y = refl
last_at (x ∷ xs) y = last_at xs y

module _ (r : RingMeaning) (L : RingLaws r) where
  infixl 65 ◌⊕◌
  infixl 70 ◌⊗◌
  abbrev S : Scalars (Code r L)
  S = CodeScalars r L

  abbrev P : Type 0
  P = CodePoly r L

  open Polys S use {𝟘, 𝟙, ◌⊕◌, ◌⊗◌, neg}

  abbrev b : ℕ
  b = r.order

  -- k codes, given by their places
  pub row_length : (k : ℕ) (c : ℕ → ℕ) → length (map c (below k)) ≡ k
  row_length k c = length-map (below k) c ∙ below_length k

  pub row_coded : (k : ℕ) (c : ℕ → ℕ) → ((i : ℕ) → c i < b) → Coded r (map c (below k))
  row_coded k c h i = elim (dec_lt i k) [
    | yes l ↦ subst (λ (x : ℕ). x < b) (sym (map_below_at c k i l)) (h i)
    | no l ↦ subst (λ (x : ℕ). x < b) (sym (get_or-eq_default (map c (below k)) 0 (omega (arith, l, row_length k c)))) (zero_is_code r L)
  ]

  pub digits_coded : (k x : ℕ) → Coded r (digits b k x)
  digits_coded k x = digits_below b k x (zero_is_code r L)

  -- the polynomial of the k lowest digits
  unfoldable pub digit_poly : ℕ → ℕ → P
  digit_poly k x = poly_of r L (digits b k x)

  pub digit_poly_coef : (k x i : ℕ) → ((digit_poly k x).coef i).0 ≡ coefficient (digits b k x) i
  unfolding digit_poly
  digit_poly_coef k x i = poly_of_code r L (digits b k x) (digits_coded k x) i

  pub digit_poly_size : (k x : ℕ) → size (digit_poly k x) ≤ k
  unfolding digit_poly
  digit_poly_size k x = subst (λ (n : ℕ). size (digit_poly k x) ≤ n) (digits_length b k x) (poly_of_short r L (digits b k x))

  -- the polynomial of the number of k codes
  pub number_poly : (k : ℕ) (xs : List ℕ) (h : Coded r xs) → length xs ≡ k → digit_poly k (from_digits b xs) ≡ poly_of r L xs
  unfolding digit_poly
  number_poly k xs h e =
      poly_of_same r L _ xs (λ i. ap (λ (n : ℕ). coefficient (digits b n (from_digits b xs)) i) (sym e) ∙ ap (λ (ys : List ℕ). coefficient ys i) (digits_number b xs h))

  pub number_code : (k : ℕ) (xs : List ℕ) → Coded r xs → length xs ≡ k → from_digits b xs < b ^ k
  number_code k xs h e = subst (λ (n : ℕ). from_digits b xs < b ^ n) e (number_below b xs h)

  module _ (k n : ℕ) (some : 1 ≤ k) where
    abbrev M : List ℕ
    M = modulus r k n

    pub modulus_length : length M ≡ suc k
    modulus_length = length-append (digits b k n) (one r ∷ []) ∙ omega (arith, digits_length b k n)

    pub modulus_top : coefficient M k ≡ 1
    modulus_top = ap (coefficient M) (sym (digits_length b k n)) ∙ last_at (digits b k n) 1

    pub modulus_beyond : (i : ℕ) → k < i → coefficient M i ≡ 0
    modulus_beyond i h = get_or-eq_default M 0 (omega (arith, modulus_length))

    pub modulus_coded : Coded r M
    modulus_coded i = elim (dec_lt i k) [
      | yes h ↦ subst (λ (x : ℕ). x < b) (sym (get_or-append (digits b k n) (one r ∷ []) 0 i (omega (arith, digits_length b k n)))) (digits_coded k n i)
      | no h ↦ elim (ℕ_discrete i k) [
        | yes e ↦ subst (λ (x : ℕ). x < b) (sym (ap (coefficient M) e ∙ modulus_top)) L.one_code.1
        | no e ↦ subst (λ (x : ℕ). x < b) (sym (modulus_beyond i (omega (arith, h, e)))) (zero_is_code r L)
      ]
    ]

    pub modulus_canonical : Canonical r M
    modulus_canonical = record {
      some_code = omega (arith, modulus_length);
      codes = λ i h. modulus_coded i;
      leads = λ h z. omega (arith, sym modulus_top ∙ ap (coefficient M) at ∙ z);
    }
      where
        at : k ≡ length M - 1
        at = omega (arith, modulus_length)

    pub modulus_poly : P
    modulus_poly = poly_of r L M

    pub modulus_poly_is : poly_of r L M ≡ modulus_poly
    unfolding modulus_poly
    modulus_poly_is = refl

    pub modulus_coef : (i : ℕ) → (modulus_poly.coef i).0 ≡ coefficient M i
    unfolding modulus_poly
    modulus_coef i = poly_of_code r L M modulus_coded i

    -- it leads with one at t^k
    unfoldable pub leads : Leading modulus_poly
    unfolding modulus_poly
    leads = record {
      deg = k;
      bound = subst (λ (n : ℕ). size modulus_poly ≤ n) modulus_length (poly_of_short r L M);
      inv = S.ring.𝟙;
      unit = one_⊗ S.ring _ ∙ code_path r L (modulus_coef k ∙ modulus_top ∙ sym (unit_code r L));
    }

    pub leads_degree : leads.deg ≡ k
    unfolding leads
    leads_degree = refl

    pub reduced_length : (f : List ℕ) → length (reduced r k n f) ≡ k
    unfolding reduced
    reduced_length [] = length-replicate k 0
    reduced_length (a ∷ f) = row_length k _

    zeros_at : (i : ℕ) → coefficient (replicate k 0) i ≡ 0
    zeros_at i = elim (dec_lt i k) [ yes h ↦ get_or-replicate k i 0 0 h | no h ↦ get_or-eq_default (replicate k 0) 0 (omega (arith, h, length-replicate {A = ℕ} k 0)) ]

    pub reduced_coded : (f : List ℕ) → Coded r (reduced r k n f)
    unfolding reduced
    reduced_coded [] i = subst (λ (x : ℕ). x < b) (sym (zeros_at i)) (zero_is_code r L)
    reduced_coded (a ∷ f) i = row_coded k _ (λ j. L.sum_code _ _) i

    pub lowered_length : (a : ℕ) (g : List ℕ) → length (lowered r k n a g) ≡ k
    lowered_length a g = row_length k _

    pub lowered_coded : (a : ℕ) (g : List ℕ) → Coded r (lowered r k n a g)
    lowered_coded a g = row_coded k _ (λ j. L.sum_code _ _)

    -- one step of the reduction: a + t g less a multiple of the modulus
    pub lowered_poly : (a : ℕ) (g : List ℕ) (ha : Coded r (a ∷ g)) (hg : Coded r g) → length g ≡ k → (c : Code r L) → c.0 ≡ coefficient g (k - 1) →
        poly_of r L (lowered r k n a g) ≡ poly_of r L (a ∷ g) ⊕ neg (const S c ⊗ modulus_poly)
    lowered_poly a g ha hg e c ec = poly_of_is r L (lowered r k n a g) _ (λ i. left i ∙ sym (right i))
      where
        term : ℕ → ℕ
        term i = r.sum (coefficient (a ∷ g) i) (r.opposite (r.product (coefficient g (k - 1)) (coefficient M i)))

        right : (i : ℕ) → ((poly_of r L (a ∷ g) ⊕ neg (const S c ⊗ modulus_poly)).coef i).0 ≡ term i
        right i =
            ap (λ (x : Code r L). x.0) (sum_coef S _ _ i) ∙ sum_codes r L _ _
            ∙ ap₂ r.sum (poly_of_code r L (a ∷ g) ha i)
            (ap (λ (x : Code r L). x.0) (neg_coef S _ i) ∙ opposite_codes r L _
            ∙ ap r.opposite (ap (λ (x : Code r L). x.0) (const_mul_coef S c modulus_poly i) ∙ product_codes r L _ _ ∙ ap₂ r.product ec (modulus_coef i)))

        beyond : (i : ℕ) → k ≤ i → term i ≡ 0
        beyond i l = elim (ℕ_discrete i k) [
          | yes q ↦ at_top q
          | no q ↦
              ap₂ r.sum (get_or-eq_default (a ∷ g) 0 (omega (arith, e, l, q)))
              (ap r.opposite (ap (r.product (coefficient g (k - 1))) (modulus_beyond i (omega (arith, l, q))) ∙ product_zero r L _ (hg (k - 1))) ∙ opposite_zero r L)
              ∙ L.sum_zero 0 (zero_is_code r L)
        ]
          where
            place : suc (k - 1) ≡ k
            place = omega (arith, some)

            at_top : i ≡ k → term i ≡ 0
            at_top q =
                ap₂ r.sum (ap (coefficient (a ∷ g)) (q ∙ sym place))
                (ap r.opposite (ap (r.product (coefficient g (k - 1))) (ap (coefficient M) q ∙ modulus_top) ∙ L.product_one _ (hg (k - 1))))
                ∙ L.sum_opposite _ (hg (k - 1))

        left : (i : ℕ) → coefficient (lowered r k n a g) i ≡ term i
        left i = elim (dec_lt i k) [
          | yes l ↦ map_below_at term k i l
          | no l ↦ get_or-eq_default (lowered r k n a g) 0 (omega (arith, l, row_length k term)) ∙ sym (beyond i (omega (arith, l)))
        ]

    -- a list and its reduction differ by a multiple of the modulus
    pub reduced_same : (f : List ℕ) → Coded r f → Divides (Polys S) modulus_poly (poly_of r L f ⊕ neg (poly_of r L (reduced r k n f)))
    unfolding reduced
    reduced_same [] hf =
        (𝟘, ap (λ (x : P). x ⊕ neg (poly_of r L (replicate k 0))) (poly_of_same r L [] (replicate k 0) (λ i. sym (zeros_at i))) ∙ add_neg (Polys S) _ ∙ sym (zero_⊗ (Polys S) modulus_poly))
    reduced_same (a ∷ f) hf = step (reduced_same f (λ i. hf (suc i)))
      where
        g : List ℕ
        g = reduced r k n f

        hg : Coded r g
        hg = reduced_coded f

        ag : Coded r (a ∷ g)
        ag zero = hf 0
        ag (suc i) = hg i

        c : Code r L
        c = (coefficient g (k - 1), hg (k - 1))

        a' : Code r L
        a' = (a, hf 0)

        grown : (xs : List ℕ) → Coded r xs → poly_of r L (a ∷ xs) ≡ const S a' ⊕ X S ⊗ poly_of r L xs
        grown xs hx = poly_of_is r L (a ∷ xs) _ at
          where
            at : (i : ℕ) → coefficient (a ∷ xs) i ≡ ((const S a' ⊕ X S ⊗ poly_of r L xs).coef i).0
            at zero = sym (ap (λ (x : Code r L). x.0) (onto_coef_zero S a' (poly_of r L xs)))
            at (suc i) = sym (ap (λ (x : Code r L). x.0) (onto_coef_suc S a' (poly_of r L xs) i) ∙ poly_of_code r L xs hx i)

        step : Divides (Polys S) modulus_poly (poly_of r L f ⊕ neg (poly_of r L g)) → Divides (Polys S) modulus_poly (poly_of r L (a ∷ f) ⊕ neg (poly_of r L (lowered r k n a g)))
        step d = (
          X S ⊗ d.0 ⊕ const S c,
          ap₂ (λ (x y : P). x ⊕ neg y) (grown f (λ i. hf (suc i))) (lowered_poly a g ag hg (reduced_length f) c refl ∙ ap (λ (x : P). x ⊕ neg (const S c ⊗ modulus_poly)) (grown g hg))
              ∙ ring (Polys S) (const S a' ∷ X S ∷ poly_of r L f ∷ poly_of r L g ∷ const S c ⊗ modulus_poly ∷ []) (A :+ B :* C :- (A :+ B :* D :- E)) (B :* (C :- D) :+ E) refl
              ∙ ap (λ (x : P). X S ⊗ x ⊕ const S c ⊗ modulus_poly) d.1
              ∙ ring (Polys S) (X S ∷ d.0 ∷ modulus_poly ∷ const S c ∷ []) (A :* (B :* C) :+ D :* C) ((A :* B :+ D) :* C) refl,
        )

    pub reduced_poly : (f : List ℕ) → Coded r f → rem leads (poly_of r L f) ≡ poly_of r L (reduced r k n f)
    unfolding leads
    reduced_poly f hf = rem_unique leads (poly_of r L f) (poly_of r L (reduced r k n f))
        (subst (λ (x : ℕ). size (poly_of r L (reduced r k n f)) ≤ x) (reduced_length f) (poly_of_short r L (reduced r k n f))) (reduced_same f hf)
