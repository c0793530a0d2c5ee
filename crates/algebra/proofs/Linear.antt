-- Factors X - w: a zero of a polynomial gives one, and over a field of q elements X^q - X is the product of them all.
-- Main statements: minus, at_point, compose, linear_monic, zero_factor_theorem, linear_coprime, linear_product, all_linear, all_minus.
use Rattle.std.proofs.Common.{◌≡◌, ℕ, zero, suc, ◌<◌, ◌≤◌, List, [], ◌∷◌, map, length, sym, refl, ap, ◌∙◌, subst, ap₂, inl, inr, le_refl, arith}
use mathlib.Core.Path.{◌≡⟨◌⟩◌, ◌∎}
use Rattle.algebra.specs.Ring.{Scalars, Field}
use Rattle.algebra.specs.Lists.{In, Distinct, Listing}
use Rattle.algebra.proofs.Laws.{add_zero, zero_⊕, add_neg, mul_one, ⊗_zero, eq_of_diff}
use Rattle.algebra.proofs.Solver.{◌:+◌, ◌:*◌, :neg, ◌:-◌, ring, A, B, C, D}
use Rattle.algebra.proofs.Lists.{in_map}
use Rattle.algebra.proofs.Poly.{Poly, Polys, size, size_le, size_ge, one_coef_zero, one_coef_suc}
use Rattle.algebra.proofs.Divides.{Divides, Coprime, coprime_both}
use Rattle.algebra.proofs.Powers.{pow, prod, prod_nil, prod_cons, coprime_prod}
use Rattle.algebra.proofs.Size.{Divided, divided, size_mul, size_pow, one_size, size_sum_left, size_neg}
use Rattle.algebra.proofs.Monic.{Monic, monic_minus, monic_prod, monic_pow, monic_divides}
use Rattle.algebra.proofs.Terms.{const, X, const_zero, const_one, const_sum, const_neg, const_mul, const_size, is_const, X_coef_suc}
use Rattle.algebra.proofs.Finite.{own_power, order_two}
use Rattle.algebra.proofs.Value.{Hom, value, value_sum, value_mul, value_const, value_X, value_neg, value_gap, value_prod}

module _ {K : Type 0} (S : Scalars K) where
  infixl 65 ◌⊕◌
  infixl 70 ◌⊗◌
  open Polys S use {𝟘, 𝟙, ◌⊕◌, ◌⊗◌, neg}

  -- f - w
  abbrev pub minus : Poly S → K → Poly S
  minus f w = f ⊕ neg (const S w)

  -- a polynomial of positive degree keeps its size when a constant is subtracted
  pub minus_size : (v : Poly S) (w : K) → 2 ≤ size v → size (minus v w) ≡ size v
  minus_size v w h = size_sum_left v (neg (const S w)) (omega (arith, size_neg (const S w) 1 (const_size S w)))

  -- the scalars to themselves, and to the constants
  unfoldable pub same : Hom S.ring S.ring
  same = record { to = λ a. a; zero_to = refl; one_to = refl; sum_to = λ a b. refl; prod_to = λ a b. refl }

  unfoldable pub constants : Hom S.ring (Polys S)
  constants = record { to = const S; zero_to = const_zero S; one_to = const_one S; sum_to = const_sum S; prod_to = const_mul S }

  -- the value at a scalar, and the composition with a polynomial
  abbrev pub at_point : K → Poly S → K
  at_point w = value S same w

  abbrev pub compose : Poly S → Poly S → Poly S
  compose v = value S constants v

  -- the values of X - u: at w, and at a polynomial v
  pub at_minus : (w u : K) → at_point w (minus (X S) u) ≡ S.ring.◌⊕◌ w (S.ring.neg u)
  unfolding same
  at_minus w u = value_sum S same w (X S) (neg (const S u))
      ∙ ap₂ S.ring.◌⊕◌ (value_X S same w) (value_neg S same w (const S u) ∙ ap S.ring.neg (value_const S same w u))

  pub compose_minus : (v : Poly S) (u : K) → compose v (minus (X S) u) ≡ minus v u
  unfolding constants
  compose_minus v u = value_sum S constants v (X S) (neg (const S u))
      ∙ ap₂ ◌⊕◌ (value_X S constants v) (value_neg S constants v (const S u) ∙ ap neg (value_const S constants v u))

  pub compose_all : (v : Poly S) (ws : List K) → map (compose v) (map (minus (X S)) ws) ≡ map (minus v) ws
  compose_all v [] = refl
  compose_all v (w ∷ ws) = ap₂ {C = List (Poly S)} ◌∷◌ (compose_minus v w) (compose_all v ws)

module _ {K : Type 0} {S : Scalars K} (F : Field S) where
  infixl 65 ◌⊕◌
  infixl 70 ◌⊗◌
  infix 40 ◌∣◌
  open Polys S use {𝟘, 𝟙, ◌⊕◌, ◌⊗◌, neg}

  abbrev ◌∣◌ : Poly S → Poly S → Type 0
  ◌∣◌ = Divides (Polys S)

  X_coef_one : (X S).coef 1 ≡ S.ring.𝟙
  X_coef_one = ap (λ (x : Poly S). x.coef 1) (sym (mul_one (Polys S) (X S))) ∙ X_coef_suc S 𝟙 0 ∙ one_coef_zero S

  pub X_size : size (X S) ≡ 2
  X_size = omega (arith, size_le (X S) 2 above, size_ge (X S) 1 (λ e. F.apart (sym X_coef_one ∙ e)))
    where
      above : (i : ℕ) → 2 ≤ i → (X S).coef i ≡ S.ring.𝟘
      above zero h = absurd (omega arith)
      above (suc zero) h = absurd (omega arith)
      above (suc (suc i)) h = ap (λ (x : Poly S). x.coef (suc (suc i))) (sym (mul_one (Polys S) (X S))) ∙ X_coef_suc S 𝟙 (suc i) ∙ one_coef_suc S i

  pub X_monic : Monic (X S)
  X_monic = record { deg = 1; sized = X_size; leads = X_coef_one }

  pub linear_monic : (w : K) → Monic (minus S (X S) w)
  linear_monic w = monic_minus (X S) (const S w) X_monic (omega (arith, X_size, const_size S w))

  pub linear_size : (w : K) → size (minus S (X S) w) ≡ 2
  linear_size w = size_sum_left (X S) (neg (const S w)) (omega (arith, X_size, size_neg (const S w) 1 (const_size S w))) ∙ X_size

  -- the factor theorem: if f is zero at w, then X - w divides f
  pub zero_factor_theorem : (f : Poly S) (w : K) → at_point S w f ≡ S.ring.𝟘 → minus S (X S) w ∣ f
  unfolding same
  zero_factor_theorem f w z = go (divided F f (minus S (X S) w) (omega (arith, (linear_monic w).sized)))
    where
      go : Divided f (minus S (X S) w) → minus S (X S) w ∣ f
      go v = (v.quotient, v.adds_up ∙ ap (λ (x : Poly S). v.quotient ⊗ minus S (X S) w ⊕ x) none ∙ add_zero (Polys S) _)
        where
          c : v.rest ≡ const S (v.rest.coef 0)
          c = is_const S v.rest (omega (arith, v.smaller, linear_size w))

          nothing : S.ring.◌⊗◌ (at_point S w v.quotient) (at_point S w (minus S (X S) w)) ≡ S.ring.𝟘
          nothing = ap (λ (x : K). S.ring.◌⊗◌ (at_point S w v.quotient) x) (at_minus S w w ∙ add_neg S.ring w) ∙ ⊗_zero S.ring _

          at : at_point S w v.rest ≡ S.ring.𝟘
          at =
              at_point S w v.rest ≡⟨ sym (zero_⊕ S.ring _) ∙ ap (λ (x : K). S.ring.◌⊕◌ x (at_point S w v.rest)) (sym nothing) ⟩
              S.ring.◌⊕◌ (S.ring.◌⊗◌ (at_point S w v.quotient) (at_point S w (minus S (X S) w))) (at_point S w v.rest) ≡⟨
              sym (value_sum S (same S) w _ _ ∙ ap (λ (x : K). S.ring.◌⊕◌ x (at_point S w v.rest)) (value_mul S (same S) w _ _)) ⟩
              at_point S w (v.quotient ⊗ minus S (X S) w ⊕ v.rest) ≡⟨ ap (at_point S w) (sym v.adds_up) ∙ z ⟩
              S.ring.𝟘 ∎

          none : v.rest ≡ 𝟘
          none = c ∙ ap (const S) (sym (value_const S (same S) w _) ∙ ap (at_point S w) (sym c) ∙ at) ∙ const_zero S

  -- different factors X - w are coprime
  pub linear_coprime : (w u : K) → (w ≡ u → ⊥) → Coprime (Polys S) (minus S (X S) w) (minus S (X S) u)
  linear_coprime w u n = record {
    s = neg (const S i);
    t = const S i;
    sum =
        ring (Polys S) (const S i ∷ X S ∷ const S w ∷ const S u ∷ []) (:neg A :* (B :- C) :+ A :* (B :- D)) (A :* (C :- D)) refl
        ∙ ap (λ (x : Poly S). const S i ⊗ x) (sym (const_sum S w (S.ring.neg u) ∙ ap (λ (x : Poly S). const S w ⊕ x) (const_neg S u)))
        ∙ sym (const_mul S i _) ∙ ap (const S) (F.inverse _ (λ e. n (eq_of_diff S.ring w u e))) ∙ const_one S;
  }
    where
      i : K
      i = F.inv (S.ring.◌⊕◌ w (S.ring.neg u))

  -- if X - w divides f for each w of a list without repetition, so does their product
  pub linear_product : (f : Poly S) (ws : List K) → Distinct ws → ((w : K) → In w ws → minus S (X S) w ∣ f) → prod (Polys S) (map (minus S (X S)) ws) ∣ f
  linear_product f [] d h = (f, sym (ap (λ (x : Poly S). f ⊗ x) (prod_nil (Polys S)) ∙ mul_one (Polys S) f))
  linear_product f (w ∷ ws) d h = subst (λ (x : Poly S). x ∣ f) (sym (prod_cons (Polys S) _ _))
      (coprime_both (Polys S) _ _ f (coprime_prod (Polys S) (minus S (X S) w) (map (minus S (X S)) ws) apart) (h w (inl refl)) (linear_product f ws d.1 (λ u i. h u (inr i))))
    where
      apart : (g : Poly S) → In g (map (minus S (X S)) ws) → Coprime (Polys S) (minus S (X S) w) g
      apart g i = let r = in_map (minus S (X S)) g ws i in
          subst (λ (x : Poly S). Coprime (Polys S) (minus S (X S) w) x) (sym r.2) (linear_coprime w r.0 (λ e. d.0 (subst (λ (y : K). In y ws) (sym e) r.1)))

  product_monic : (ws : List K) → Monic (prod (Polys S) (map (minus S (X S)) ws))
  product_monic ws = monic_prod F (map (minus S (X S)) ws) (λ g i. let r = in_map (minus S (X S)) g ws i in subst (λ (x : Poly S). Monic x) (sym r.2) (linear_monic r.0))

  product_size : (ws : List K) → size (prod (Polys S) (map (minus S (X S)) ws)) ≡ suc (length ws)
  product_size [] = ap size (prod_nil (Polys S)) ∙ one_size F
  product_size (w ∷ ws) = ap size (prod_cons (Polys S) _ _) ∙ size_mul F _ _ 1 (length ws) (linear_size w) (product_size ws) ∙ omega arith

  -- X^n is of degree n
  pub power_size : (n : ℕ) → size (pow (Polys S) (X S) n) ≡ suc n
  power_size n = size_pow F (X S) 1 n X_size ∙ omega arith

  module _ (q : ℕ) (L : Listing K q) where
    -- X^q - X is the product of X - w over all elements w
    pub all_linear : pow (Polys S) (X S) q ⊕ neg (X S) ≡ prod (Polys S) (map (minus S (X S)) L.elements)
    all_linear =
        sym (monic_divides F _ _ (product_monic L.elements) (monic_minus _ _ (monic_pow F (X S) q X_monic) (omega (arith, small))) sizes
        (linear_product _ L.elements L.distinct (λ w i. zero_factor_theorem _ w (vanishes w))))
      where
        small : size (X S) < size (pow (Polys S) (X S) q)
        small = omega (arith, X_size, power_size q, order_two F q L)

        sizes : size (prod (Polys S) (map (minus S (X S)) L.elements)) ≡ size (pow (Polys S) (X S) q ⊕ neg (X S))
        sizes = product_size L.elements ∙ ap suc L.count ∙ sym (size_sum_left _ (neg (X S)) (omega (arith, small, size_neg (X S) (size (X S)) (le_refl _))) ∙ power_size q)

        vanishes : (w : K) → at_point S w (pow (Polys S) (X S) q ⊕ neg (X S)) ≡ S.ring.𝟘
        vanishes w =
            value_gap S (same S) w q ∙ ap (λ (x : K). S.ring.◌⊕◌ x (S.ring.neg w)) (own_power F q L w)
            ∙ add_neg S.ring w

    -- v^q - v is the product of v - w over all elements w
    pub all_minus : (v : Poly S) → pow (Polys S) v q ⊕ neg v ≡ prod (Polys S) (map (minus S v) L.elements)
    all_minus v =
        sym (value_gap S (constants S) v q)
        ∙ ap (compose S v) all_linear ∙ value_prod S (constants S) v _ ∙ ap (prod (Polys S)) (compose_all S v L.elements)
