-- Bounds of sequences, and the highest coefficient of a product.
-- Main statements: Below, cons, below_sum, below_neg, below_mul, top_mul, cons_mul.
use Rattle.std.proofs.Common.{◌≡◌, ℕ, zero, suc, ◌+◌, ◌≤◌, sym, refl, ap, ◌∙◌, zero-le, suc-add, zero-add, arith}
use mathlib.Core.Path.{fun_ext}
use Rattle.algebra.specs.Ring.{Ring}
use Rattle.algebra.proofs.Laws.{zero_⊕, zero_⊗, ⊗_zero, add_zero, neg_zero}
use Rattle.algebra.proofs.Seq.{Seqs, tail, zero_at, sum_at, neg_at, prod_at_zero, prod_at_suc}

module _ {K : Type 0} (R : Ring K) where
  -- all is zero from n on
  abbrev pub Below : ℕ → (ℕ → K) → Type 0
  Below n f = (i : ℕ) → n ≤ i → f i ≡ R.𝟘

  -- c first, then f
  abbrev pub cons : K → (ℕ → K) → ℕ → K
  cons c f zero = c
  cons c f (suc i) = f i

  abbrev pub scale : K → (ℕ → K) → ℕ → K
  scale c f i = R.◌⊗◌ c (f i)

module _ {K : Type 0} (R : Ring K) where
  infixl 65 ◌⊕◌
  infixl 70 ◌⊗◌
  infixl 65 ◌+ₚ◌
  infixl 70 ◌*ₚ◌
  open R use {𝟘, 𝟙, ◌⊕◌, ◌⊗◌, neg, is_set}
  open Seqs R use {𝟘 as 0ₚ, 𝟙 as 1ₚ, ◌⊕◌ as ◌+ₚ◌, ◌⊗◌ as ◌*ₚ◌, neg as negₚ}

  pub below_sum : (n : ℕ) (f g : ℕ → K) → Below R n f → Below R n g → Below R n (f +ₚ g)
  below_sum n f g p q i h = simp (sum_at, p i h, q i h, add_zero)

  pub below_neg : (n : ℕ) (f : ℕ → K) → Below R n f → Below R n (negₚ f)
  below_neg n f p i h = simp (neg_at, p i h, neg_zero)

  pub below_more : (m n : ℕ) (f : ℕ → K) → m ≤ n → Below R m f → Below R n f
  below_more m n f l p i h = p i (omega arith)

  -- a sequence that is zero from its start is zero
  pub below_nil : (f : ℕ → K) → Below R 0 f → f ≡ 0ₚ
  below_nil f p = fun_ext (λ i. p i zero-le ∙ sym (zero_at R i))

  nil_mul_at : (g : ℕ → K) (i : ℕ) → (0ₚ *ₚ g) i ≡ 𝟘
  nil_mul_at g i = ap (λ (x : ℕ → K). x i) (zero_⊗ (Seqs R) g) ∙ zero_at R i

  -- a product is zero from the sum of the bounds less one on
  pub below_mul : (i : ℕ) (f g : ℕ → K) (m n : ℕ) → Below R m f → Below R n g → m + n ≤ suc i → (f *ₚ g) i ≡ 𝟘
  below_mul i f g zero n p q h = rw (below_nil f p) (nil_mul_at g i)
  below_mul zero f g (suc m) n p q h = simp (prod_at_zero, q 0 (omega arith), ⊗_zero)
  below_mul (suc i) f g (suc m) n p q h =
      simp (prod_at_suc, q (suc i) (omega arith), below_mul i (tail f) g m n (λ j k. p (suc j) (omega arith)) q (omega arith), ⊗_zero, add_zero)

  -- highest coefficients multiply
  pub top_mul : (m n : ℕ) (f g : ℕ → K) → Below R (suc m) f → Below R (suc n) g → (f *ₚ g) (m + n) ≡ f m ⊗ g n
  top_mul zero n f g p q = rw zero-add (go n)
    where
      tl : tail f ≡ 0ₚ
      tl = below_nil (tail f) (λ i h. p (suc i) (omega arith))

      go : (k : ℕ) → (f *ₚ g) k ≡ f 0 ⊗ g k
      go zero = prod_at_zero R f g
      go (suc k) = simp (prod_at_suc, tl, nil_mul_at, add_zero)
  top_mul (suc m) n f g p q =
      rw (suc-add m n, prod_at_suc R f g (m + n), q (suc (m + n)) (omega arith), top_mul m n (tail f) g (λ i h. p (suc i) (omega arith)) q) (simp (⊗_zero, zero_⊕))

  -- a product by the first element and the others
  pub cons_mul : (c : K) (f g : ℕ → K) → cons R c f *ₚ g ≡ scale R c g +ₚ cons R 𝟘 (f *ₚ g)
  cons_mul c f g = fun_ext go
    where
      go : (i : ℕ) → (cons R c f *ₚ g) i ≡ (scale R c g +ₚ cons R 𝟘 (f *ₚ g)) i
      go zero = simp (prod_at_zero, sum_at, add_zero)
      go (suc i) = simp (prod_at_suc, sum_at)

  pub cons_sum : (c : K) (f g : ℕ → K) → cons R 𝟘 f +ₚ cons R c g ≡ cons R c (f +ₚ g)
  cons_sum c f g = fun_ext go
    where
      go : (i : ℕ) → (cons R 𝟘 f +ₚ cons R c g) i ≡ cons R c (f +ₚ g) i
      go zero = simp (sum_at, zero_⊕)
      go (suc i) = simp sum_at

  pub cons_tail : (f : ℕ → K) → cons R (f 0) (tail f) ≡ f
  cons_tail f = fun_ext go
    where
      go : (i : ℕ) → cons R (f 0) (tail f) i ≡ f i
      go zero = refl
      go (suc i) = refl
