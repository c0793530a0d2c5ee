-- Sums of terms, and the value of a polynomial from that of its tail.
-- Main statements: total_none, total_more, multiple_more, total_same, total_beyond, total_first, product_total; product_with_zero,
-- zero_with_product; value_none, value_more, value_drop.
use Rattle.std.proofs.Common.{◌≡◌, ℕ, zero, suc, ◌+◌, ◌<◌, ◌≤◌, List, [], ◌∷◌, length, get_or, drop, sym, refl, ap, ◌∙◌, subst, ap₂, add-one, arith}
use native.Mathlib.Decide.{dec_lt}
use Rattle.std.proofs.lemmas.List.{drop_more, get_or-drop}
use Rattle.field.specs.Ring.{RingMeaning, RingLaws, total, multiple, power}
use Rattle.field.specs.Polynomial.{coefficient, value}
use Rattle.field.specs.Scalars.{zero_is_code, product_zero, total_code, power_code}
use Rattle.field.specs.Polynomials.{Coded}

module _ (m : RingMeaning) where
  pub total_none : (c : ℕ → ℕ) → total m 0 c ≡ 0
  unfolding total
  total_none c = refl

  pub total_more : (n : ℕ) (c : ℕ → ℕ) → total m (suc n) c ≡ m.sum (total m n c) (c n)
  unfolding total
  total_more n c = refl

  pub multiple_more : (n a : ℕ) → m.sum (multiple m n a) a ≡ multiple m (n + 1) a
  multiple_more n a = sym (total_more n (λ _. a)) ∙ ap (λ (i : ℕ). multiple m i a) (sym (add-one n))

  -- of equal terms
  pub total_same : (n : ℕ) (c d : ℕ → ℕ) → ((i : ℕ) → i < n → c i ≡ d i) → total m n c ≡ total m n d
  total_same zero c d h = total_none c ∙ sym (total_none d)
  total_same (suc n) c d h = total_more n c ∙ ap₂ m.sum (total_same n c d (λ i l. h i (omega arith))) (h n (omega arith)) ∙ sym (total_more n d)

module _ (m : RingMeaning) (L : RingLaws m) where
  -- zero times any number, code or not
  pub product_with_zero : (a : ℕ) → m.product a 0 ≡ 0
  product_with_zero a = elim (dec_lt a m.order) [ yes h ↦ product_zero m L a h | no h ↦ (L.no_product a 0 (omega arith)).0 ]

  pub zero_with_product : (a : ℕ) → m.product 0 a ≡ 0
  zero_with_product a = elim (dec_lt a m.order) [
    | yes h ↦ L.product_comm 0 a (zero_is_code m L) h ∙ product_zero m L a h
    | no h ↦ (L.no_product a 0 (omega arith)).1
  ]

  -- further terms that are zero
  pub total_beyond : (c : ℕ → ℕ) (k n : ℕ) → ((i : ℕ) → k ≤ i → c i ≡ 0) → total m (k + n) c ≡ total m k c
  total_beyond c k zero z = ap (λ (i : ℕ). total m i c) none
    where
      none : k + 0 ≡ k
      none = omega arith
  total_beyond c k (suc n) z =
      ap (λ (i : ℕ). total m i c) more ∙ total_more m (k + n) c ∙ ap₂ m.sum (total_beyond c k n z) (z (k + n) (omega arith))
      ∙ L.sum_zero (total m k c) (total_code m L k c)
    where
      more : k + suc n ≡ suc (k + n)
      more = omega arith

  -- taken apart at the first term
  pub total_first : (n : ℕ) (c : ℕ → ℕ) → ((i : ℕ) → c i < m.order) → total m (suc n) c ≡ m.sum (c 0) (total m n (λ i. c (suc i)))
  total_first zero c h =
      total_more m 0 c ∙ ap (λ (x : ℕ). m.sum x (c 0)) (total_none m c) ∙ L.sum_comm 0 (c 0) (zero_is_code m L) (h 0)
      ∙ ap (m.sum (c 0)) (sym (total_none m (λ i. c (suc i))))
  total_first (suc n) c h =
      total_more m (suc n) c ∙ ap (λ (x : ℕ). m.sum x (c (suc n))) (total_first n c h)
      ∙ L.sum_assoc (c 0) (total m n (λ i. c (suc i))) (c (suc n)) (h 0) (total_code m L n (λ i. c (suc i))) (h (suc n))
      ∙ ap (m.sum (c 0)) (sym (total_more m n (λ i. c (suc i))))

  -- times a code
  pub product_total : (x : ℕ) → x < m.order → (n : ℕ) (c : ℕ → ℕ) → ((i : ℕ) → c i < m.order) → m.product x (total m n c) ≡ total m n (λ i. m.product x (c i))
  product_total x l zero c h = ap (m.product x) (total_none m c) ∙ product_with_zero x ∙ sym (total_none m (λ i. m.product x (c i)))
  product_total x l (suc n) c h =
      ap (m.product x) (total_more m n c) ∙ L.distributes x (total m n c) (c n) l (total_code m L n c) (h n)
      ∙ ap (λ (y : ℕ). m.sum y (m.product x (c n))) (product_total x l n c h) ∙ sym (total_more m n (λ i. m.product x (c i)))

  pub value_none : (x : ℕ) → value m [] x ≡ 0
  value_none x = total_none m (λ i. m.product (coefficient [] i) (power m x i))

  -- Horner's rule
  pub value_more : (a : ℕ) (f : List ℕ) (x : ℕ) → a < m.order → Coded m f → x < m.order → value m (a ∷ f) x ≡ m.sum a (m.product x (value m f x))
  unfolding power
  value_more a f x la lf lx =
      total_first (length f) (λ i. m.product (coefficient (a ∷ f) i) (power m x i)) (λ i. L.product_code (coefficient (a ∷ f) i) (power m x i))
      ∙ ap₂ m.sum (L.product_one a la) (total_same m (length f) (λ i. m.product (coefficient f i) (m.product x (power m x i))) (λ i. m.product x (m.product (coefficient f i) (power m x i))) (λ i h. swapped i)
      ∙ sym (product_total x lx (length f) (λ i. m.product (coefficient f i) (power m x i)) (λ i. L.product_code (coefficient f i) (power m x i))))
    where
      swapped : (i : ℕ) → m.product (coefficient f i) (m.product x (power m x i)) ≡ m.product x (m.product (coefficient f i) (power m x i))
      swapped i =
          sym (L.product_assoc (coefficient f i) x (power m x i) (lf i) lx (power_code m L x i))
          ∙ ap (λ (y : ℕ). m.product y (power m x i)) (L.product_comm (coefficient f i) x (lf i) lx)
          ∙ L.product_assoc x (coefficient f i) (power m x i) lx (lf i) (power_code m L x i)

  -- one step of it, from the codes after place i to those from i on
  pub value_drop : (f : List ℕ) (x i : ℕ) → Coded m f → x < m.order → i < length f → m.sum (get_or f i 0) (m.product x (value m (drop (i + 1) f) x)) ≡ value m (drop i f) x
  value_drop f x i lf lx h =
      sym (ap (λ (xs : List ℕ). value m xs x) (drop_more f i 0 h)
      ∙ value_more (get_or f i 0) (drop (i + 1) f) x (lf i) (λ k. subst (λ (y : ℕ). y < m.order) (sym (get_or-drop (i + 1) f k 0)) (lf (i + 1 + k))) lx)
