-- The value of a polynomial at an element of a ring that its scalars are mapped into: it respects sums and products.
-- Main statements: Hom, ev, value, value_sum, value_mul, value_const, value_X, value_pow, value_gap, value_prod.
use Rattle.std.proofs.Common.{◌≡◌, ℕ, zero, suc, ◌+◌, ◌≤◌, max, List, [], ◌∷◌, map, sym, refl, ap, ◌∙◌, ap₂, zero-le, le_refl, not-suc-le-zero, suc-add, arith}
use mathlib.Core.Path.{fun_ext}
use native.Mathlib.Nat.{le-max_left, le-max_right}
use Rattle.algebra.specs.Ring.{Ring, Scalars}
use Rattle.algebra.proofs.Laws.{add_zero, zero_⊕, zero_⊗, ⊗_zero, mul_add, mul_one, neg_unique, add_neg, ac}
use Rattle.algebra.proofs.Solver.{:0, ◌:+◌, ◌:*◌, ring, A, B, C, D}
use Rattle.algebra.proofs.Seq.{Seqs, tail, zero_at, sum_at}
use Rattle.algebra.proofs.Bounds.{Below, cons, scale, cons_mul, cons_tail, below_nil, below_mul}
use Rattle.algebra.proofs.Poly.{Poly, Polys, size, size_le, low, sum_coef, prod_seq, prod_coef}
use Rattle.algebra.proofs.Size.{size_sum}
use Rattle.algebra.proofs.Terms.{const, X, const_zero, const_one, const_coef_zero, const_size, X_coef_zero, X_coef_suc}
use Rattle.algebra.proofs.Powers.{pow, pow_zero, pow_suc, prod, prod_nil, prod_cons}

-- a homomorphism of rings
pub record Hom {K T : Type 0} (R : Ring K) (S : Ring T) : Type 0 where
  pub to : K → T
  pub zero_to : to R.𝟘 ≡ S.𝟘
  pub one_to : to R.𝟙 ≡ S.𝟙
  pub sum_to : (a b : K) → to (R.◌⊕◌ a b) ≡ S.◌⊕◌ (to a) (to b)
  pub prod_to : (a b : K) → to (R.◌⊗◌ a b) ≡ S.◌⊗◌ (to a) (to b)

module _ {K T : Type 0} {R : Ring K} {S : Ring T} (hom : Hom R S) (s : T) where
  infixl 65 ◌⊕◌
  infixl 70 ◌⊗◌
  open S use {𝟘, 𝟙, ◌⊕◌, ◌⊗◌}

  -- the first n coefficients, by Horner's rule
  pub ev : ℕ → (ℕ → K) → T
  ev zero f = 𝟘
  ev (suc n) f = hom.to (f 0) ⊕ s ⊗ ev n (tail f)

  pub ev_suc : (n : ℕ) (f : ℕ → K) → ev (suc n) f ≡ hom.to (f 0) ⊕ s ⊗ ev n (tail f)
  unfolding ev
  ev_suc n f = refl

  pub ev_zero : (f : ℕ → K) → ev 0 f ≡ 𝟘
  unfolding ev
  ev_zero f = refl

  pub ev_sum : (n : ℕ) (f g : ℕ → K) → ev n (λ i. R.◌⊕◌ (f i) (g i)) ≡ ev n f ⊕ ev n g
  ev_sum zero f g = simp (ev_zero, add_zero)
  ev_sum (suc n) f g = simp (ev_suc, ev_sum n (tail f) (tail g), hom.sum_to, mul_add, ac)

  ev_scale : (n : ℕ) (c : K) (f : ℕ → K) → ev n (scale R c f) ≡ hom.to c ⊗ ev n f
  ev_scale zero c f = simp (ev_zero, ⊗_zero)
  ev_scale (suc n) c f = simp (ev_suc, ev_scale n c (tail f), hom.prod_to, mul_add, ac)

  ev_nil : (n : ℕ) (f : ℕ → K) → Below R 0 f → ev n f ≡ 𝟘
  ev_nil zero f b = ev_zero f
  ev_nil (suc n) f b = simp (ev_suc, b 0 zero-le, hom.zero_to, ev_nil n (tail f) (λ i h. b (suc i) zero-le), ⊗_zero, add_zero)

  -- any bound gives the same value
  pub ev_more : (m n : ℕ) (f : ℕ → K) → Below R m f → m ≤ n → ev n f ≡ ev m f
  ev_more zero n f b h = ev_nil n f b ∙ sym (ev_zero f)
  ev_more (suc m) zero f b h = absurd (not-suc-le-zero h)
  ev_more (suc m) (suc n) f b h = simp (ev_suc, ev_more m n (tail f) (λ i l. b (suc i) (omega arith)) (omega arith))

  mul_split : (f g : ℕ → K) → (Seqs R).◌⊗◌ f g ≡ (λ i. R.◌⊕◌ (scale R (f 0) g i) (cons R R.𝟘 ((Seqs R).◌⊗◌ (tail f) g) i))
  mul_split f g = ap (λ (x : ℕ → K). (Seqs R).◌⊗◌ x g) (sym (cons_tail R f)) ∙ cons_mul R (f 0) (tail f) g ∙ fun_ext (λ i. sum_at R _ _ i)

  pub ev_mul : (m n : ℕ) (f g : ℕ → K) → Below R m f → Below R n g → ev (m + n) ((Seqs R).◌⊗◌ f g) ≡ ev m f ⊗ ev n g
  ev_mul zero n f g p q =
      rw (below_nil R f p, zero_⊗ (Seqs R) g) (ev_nil (0 + n) (Seqs R).𝟘 (λ i h. zero_at R i) ∙ simp (ev_zero, zero_⊗))
  ev_mul (suc m) n f g p q =
      rw (
        mul_split f g,
        suc-add m n,
        ev_sum (suc (m + n)) (scale R (f 0) g) (cons R R.𝟘 ((Seqs R).◌⊗◌ (tail f) g)),
        ev_scale (suc (m + n)) (f 0) g,
        ev_more n (suc (m + n)) g q (omega arith),
        ev_suc (m + n) (cons R R.𝟘 ((Seqs R).◌⊗◌ (tail f) g)),
        hom.zero_to,
        ev_mul m n (tail f) g (λ i h. p (suc i) (omega arith)) q,
        ev_suc m f,
      )
      (ring S (_ ∷ _ ∷ _ ∷ _ ∷ []) (A :* B :+ (:0 :+ C :* (D :* B))) ((A :+ C :* D) :* B) refl)

module _ {K T : Type 0} (S : Scalars K) {R : Ring T} (hom : Hom S.ring R) (s : T) where
  infixl 65 ◌⊕◌
  infixl 70 ◌⊗◌
  infixl 65 ◌+ₚ◌
  infixl 70 ◌*ₚ◌
  open R use {𝟘, 𝟙, ◌⊕◌, ◌⊗◌, neg}
  open Polys S use {𝟘 as 0ₚ, 𝟙 as 1ₚ, ◌⊕◌ as ◌+ₚ◌, ◌⊗◌ as ◌*ₚ◌, neg as negₚ}

  -- the value at s of a polynomial, its scalars mapped by hom
  pub value : Poly S → T
  value f = ev hom s (size f) f.coef

  value_by : (f : Poly S) (n : ℕ) → size f ≤ n → value f ≡ ev hom s n f.coef
  unfolding value
  value_by f n l = sym (ev_more hom s (size f) n f.coef (low f) l)

  pub value_sum : (f g : Poly S) → value (f +ₚ g) ≡ value f ⊕ value g
  value_sum f g =
      value_by (f +ₚ g) n (size_sum f g n (le-max_left _ _) (le-max_right _ _)) ∙ ap (ev hom s n) (fun_ext (sum_coef S f g))
      ∙ ev_sum hom s n f.coef g.coef ∙ sym (ap₂ ◌⊕◌ (value_by f n (le-max_left _ _)) (value_by g n (le-max_right _ _)))
    where
      n : ℕ
      n = max (size f) (size g)

  pub value_mul : (f g : Poly S) → value (f *ₚ g) ≡ value f ⊗ value g
  value_mul f g =
      value_by (f *ₚ g) (size f + size g) (size_le (f *ₚ g) _ (λ i h. prod_coef S f g i ∙ below_mul S.ring i f.coef g.coef (size f) (size g) (low f) (low g) (omega arith)))
      ∙ ap (ev hom s (size f + size g)) (prod_seq S f g)
      ∙ ev_mul hom s (size f) (size g) f.coef g.coef (low f) (low g)
      ∙ sym (ap₂ ◌⊗◌ (value_by f (size f) (le_refl _)) (value_by g (size g) (le_refl _)))

  pub value_const : (c : K) → value (const S c) ≡ hom.to c
  value_const c =
      value_by (const S c) 1 (const_size S c) ∙ ev_suc hom s 0 (const S c).coef
      ∙ ap₂ (λ (x : K) (y : T). hom.to x ⊕ s ⊗ y) (const_coef_zero S c) (ev_zero hom s _) ∙ ap (λ (x : T). hom.to c ⊕ x) (⊗_zero R s) ∙ add_zero R (hom.to c)

  pub value_zero : value 0ₚ ≡ 𝟘
  value_zero = ap value (sym (const_zero S)) ∙ value_const S.ring.𝟘 ∙ hom.zero_to

  pub value_one : value 1ₚ ≡ 𝟙
  value_one = ap value (sym (const_one S)) ∙ value_const S.ring.𝟙 ∙ hom.one_to

  pub value_X : value (X S) ≡ s
  value_X =
      ap value (sym (mul_one (Polys S) (X S)))
      ∙ value_by (X S *ₚ 1ₚ) (suc (size 1ₚ)) (size_le (X S *ₚ 1ₚ) _ above)
      ∙ ev_suc hom s (size 1ₚ) _
      ∙ ap₂ (λ (x : T) (y : T). x ⊕ s ⊗ y) (ap hom.to (X_coef_zero S 1ₚ) ∙ hom.zero_to) (ap (ev hom s (size 1ₚ)) (fun_ext (X_coef_suc S 1ₚ)) ∙ sym (value_by 1ₚ (size 1ₚ) (le_refl _)) ∙ value_one)
      ∙ zero_⊕ R _ ∙ mul_one R s
    where
      above : (i : ℕ) → suc (size 1ₚ) ≤ i → (X S *ₚ 1ₚ).coef i ≡ S.ring.𝟘
      above zero h = absurd (not-suc-le-zero h)
      above (suc i) h = X_coef_suc S 1ₚ i ∙ low 1ₚ i (omega arith)

  pub value_neg : (f : Poly S) → value (negₚ f) ≡ neg (value f)
  value_neg f = neg_unique R (value f) (value (negₚ f)) (sym (value_sum f (negₚ f)) ∙ ap value (add_neg (Polys S) f) ∙ value_zero)

  pub value_pow : (f : Poly S) (n : ℕ) → value (pow (Polys S) f n) ≡ pow R (value f) n
  value_pow f zero = ap value (pow_zero (Polys S) f) ∙ value_one ∙ sym (pow_zero R (value f))
  value_pow f (suc n) = ap value (pow_suc (Polys S) f n) ∙ value_mul f _ ∙ ap (λ (x : T). value f ⊗ x) (value_pow f n) ∙ sym (pow_suc R (value f) n)

  -- the value of X^q - X
  pub value_gap : (q : ℕ) → value (pow (Polys S) (X S) q +ₚ negₚ (X S)) ≡ pow R s q ⊕ neg s
  value_gap q =
      value_sum (pow (Polys S) (X S) q) (negₚ (X S))
      ∙ ap₂ ◌⊕◌ (value_pow (X S) q ∙ ap (λ (x : T). pow R x q) value_X) (value_neg (X S) ∙ ap neg value_X)

  pub value_prod : (fs : List (Poly S)) → value (prod (Polys S) fs) ≡ prod R (map value fs)
  value_prod [] = ap value (prod_nil (Polys S)) ∙ value_one ∙ sym (prod_nil R)
  value_prod (f ∷ fs) = ap value (prod_cons (Polys S) f fs) ∙ value_mul f _ ∙ ap (λ (x : T). value f ⊗ x) (value_prod fs) ∙ sym (prod_cons R (value f) (map value fs))
