-- The formal derivative: sum and product rule, and what its common divisor with the polynomial tells.
-- Main statements: der, der_coef, der_sum, der_mul, shared_gcd, cofactors_coprime, gcd_der_smaller, cofactor_proper.
use Rattle.std.proofs.Common.{◌≡◌, ℕ, zero, suc, ◌<◌, ◌≤◌, [], ◌∷◌, sym, refl, ap, ◌∙◌, subst, ap₂, arith}
use mathlib.Core.Path.{fun_ext, ◌≡⟨◌⟩◌, ◌∎}
use Rattle.algebra.specs.Ring.{Ring, Scalars, Field}
use Rattle.algebra.proofs.Laws.{add_zero, zero_⊕, mul_comm, zero_⊗, ⊗_zero, dist_⊗}
use Rattle.algebra.proofs.Solver.{:0, ◌:+◌, ◌:*◌, ring, A, B, C, D, E, F}
use Rattle.algebra.proofs.Seq.{Seqs, tail, sum_at, prod_at_zero, prod_at_suc}
use Rattle.algebra.proofs.Poly.{Poly, Polys, poly, poly_path, poly_coef, poly_seq, size, low, size_le, sum_coef, prod_coef}
use Rattle.algebra.proofs.Powers.{times, times_zero, times_suc, times_of_zero, times_sum, ⊗_times}
use Rattle.algebra.proofs.Divides.{Divides, Coprime, dvd_mul, dvd_mul_right, dvd_sum}
use Rattle.algebra.proofs.Size.{factors, dvd_size, nonzero_size}
use Rattle.algebra.proofs.Gcd.{Gcd, greatest}

module _ {K : Type 0} (R : Ring K) where
  infixl 65 ◌⊕◌
  infixl 70 ◌⊗◌
  infixl 70 ◌*ₚ◌
  open R use {𝟘, 𝟙, ◌⊕◌, ◌⊗◌}
  open Seqs R use {◌⊗◌ as ◌*ₚ◌}

  -- each coefficient times its power: X times the derivative
  abbrev euler : (ℕ → K) → ℕ → K
  euler f i = times R i (f i)

  tail_euler : (f : ℕ → K) → tail (euler f) ≡ (Seqs R).◌⊕◌ (tail f) (euler (tail f))
  tail_euler f = fun_ext (λ i. times_suc R i (f (suc i)) ∙ sym (sum_at R (tail f) (euler (tail f)) i))

  euler_mul : (f g : ℕ → K) (n : ℕ) → times R n ((f *ₚ g) n) ≡ (euler f *ₚ g) n ⊕ (f *ₚ euler g) n
  euler_mul f g zero = simp (times_zero, prod_at_zero, zero_⊗, ⊗_zero, add_zero)
  euler_mul f g (suc n) =
      times R (suc n) ((f *ₚ g) (suc n)) ≡⟨ ap (times R (suc n)) (prod_at_suc R f g n) ∙ times_sum R (suc n) _ _ ⟩
      times R (suc n) (f 0 ⊗ g (suc n)) ⊕ times R (suc n) ((tail f *ₚ g) n) ≡⟨ ap₂ ◌⊕◌ (sym (⊗_times R (suc n) (f 0) (g (suc n)))) (times_suc R n _ ∙ ap (λ (x : K). (tail f *ₚ g) n ⊕ x) (euler_mul (tail f) g n)) ⟩
      f 0 ⊗ times R (suc n) (g (suc n)) ⊕ ((tail f *ₚ g) n ⊕ ((euler (tail f) *ₚ g) n ⊕ (tail f *ₚ euler g) n)) ≡⟨
      ring R (f 0 ∷ times R (suc n) (g (suc n)) ∷ (tail f *ₚ g) n ∷ (euler (tail f) *ₚ g) n ∷ (tail f *ₚ euler g) n ∷ g (suc n) ∷ [])
      (A :* B :+ (C :+ (D :+ E))) ((:0 :* F :+ (C :+ D)) :+ (A :* B :+ E)) refl ⟩
      (𝟘 ⊗ g (suc n) ⊕ ((tail f *ₚ g) n ⊕ (euler (tail f) *ₚ g) n)) ⊕ (f 0 ⊗ times R (suc n) (g (suc n)) ⊕ (tail f *ₚ euler g) n) ≡⟨ ap₂ ◌⊕◌ left (sym (prod_at_suc R f (euler g) n)) ⟩
      (euler f *ₚ g) (suc n) ⊕ (f *ₚ euler g) (suc n) ∎
    where
      left : 𝟘 ⊗ g (suc n) ⊕ ((tail f *ₚ g) n ⊕ (euler (tail f) *ₚ g) n) ≡ (euler f *ₚ g) (suc n)
      left = sym (prod_at_suc R (euler f) g n ∙ ap₂ ◌⊕◌ (ap (λ (x : K). x ⊗ g (suc n)) (times_zero R (f 0)))
          (ap (λ (x : ℕ → K). (x *ₚ g) n) (tail_euler f) ∙ ap (λ (x : ℕ → K). x n) (dist_⊗ (Seqs R) (tail f) (euler (tail f)) g) ∙ sum_at R _ _ n))

  -- the product rule, at the sequences
  tail_mul : (f g : ℕ → K) (n : ℕ) → f 0 ≡ 𝟘 → (f *ₚ g) (suc n) ≡ (tail f *ₚ g) n
  tail_mul f g n e = prod_at_suc R f g n ∙ ap (λ (x : K). x ⊗ g (suc n) ⊕ (tail f *ₚ g) n) e ∙ ap (λ (x : K). x ⊕ (tail f *ₚ g) n) (zero_⊗ R (g (suc n))) ∙ zero_⊕ R _

  rule : (f g : ℕ → K) (n : ℕ) → times R (suc n) ((f *ₚ g) (suc n)) ≡ (tail (euler f) *ₚ g) n ⊕ (f *ₚ tail (euler g)) n
  rule f g n =
      euler_mul f g (suc n) ∙ ap₂ ◌⊕◌ (tail_mul (euler f) g n (times_zero R (f 0)))
      (ap (λ (x : ℕ → K). x (suc n)) (mul_comm (Seqs R) f (euler g)) ∙ tail_mul (euler g) f n (times_zero R (g 0)) ∙ ap (λ (x : ℕ → K). x n) (mul_comm (Seqs R) (tail (euler g)) f))

module _ {K : Type 0} {S : Scalars K} where
  infixl 65 ◌⊕◌
  infixl 70 ◌⊗◌
  infix 40 ◌∣◌
  open Polys S use {𝟘, 𝟙, ◌⊕◌, ◌⊗◌, neg}

  abbrev ◌∣◌ : Poly S → Poly S → Type 0
  ◌∣◌ = Divides (Polys S)

  -- the derivative: at each power the multiple of the coefficient one above
  pub der : Poly S → Poly S
  der f = poly S (size f) (tail (euler S.ring f.coef)) (λ i h. ap (times S.ring (suc i)) (low f (suc i) (omega arith)) ∙ times_of_zero S.ring (suc i))

  pub der_coef : (f : Poly S) (i : ℕ) → (der f).coef i ≡ times S.ring (suc i) (f.coef (suc i))
  unfolding der
  der_coef f i = poly_coef S _ _ _ i

  der_seq : (f : Poly S) → (der f).coef ≡ tail (euler S.ring f.coef)
  unfolding der
  der_seq f = poly_seq S _ _ _

  -- the derivative is of lower degree
  pub der_size : (f : Poly S) (n : ℕ) → size f ≤ suc n → size (der f) ≤ n
  der_size f n h = size_le (der f) n (λ i l. der_coef f i ∙ ap (times S.ring (suc i)) (low f (suc i) (omega arith)) ∙ times_of_zero S.ring (suc i))

  pub der_sum : (f g : Poly S) → der (f ⊕ g) ≡ der f ⊕ der g
  der_sum f g = poly_path _ _ (λ i.
      der_coef (f ⊕ g) i ∙ ap (times S.ring (suc i)) (sum_coef S f g (suc i)) ∙ times_sum S.ring (suc i) _ _
      ∙ sym (sum_coef S (der f) (der g) i ∙ ap₂ S.ring.◌⊕◌ (der_coef f i) (der_coef g i)))

  pub der_mul : (f g : Poly S) → der (f ⊗ g) ≡ der f ⊗ g ⊕ f ⊗ der g
  der_mul f g = poly_path _ _ (λ i.
      der_coef (f ⊗ g) i ∙ ap (times S.ring (suc i)) (prod_coef S f g (suc i)) ∙ rule S.ring f.coef g.coef i
      ∙ sym (sum_coef S (der f ⊗ g) (f ⊗ der g) i ∙ ap₂ S.ring.◌⊕◌
      (prod_coef S (der f) g i ∙ ap (λ (x : ℕ → K). (Seqs S.ring).◌⊗◌ x g.coef i) (der_seq f))
      (prod_coef S f (der g) i ∙ ap (λ (x : ℕ → K). (Seqs S.ring).◌⊗◌ f.coef x i) (der_seq g))))

  -- a common divisor of two cofactors divides the derivative, and so the common divisor with it
  pub shared_der : (f a b d : Poly S) → f ≡ a ⊗ b → d ∣ a → d ∣ b → d ∣ der f
  shared_der f a b d e p q = subst (λ (x : Poly S). d ∣ der x) (sym e) (subst (λ (x : Poly S). d ∣ x) (sym (der_mul a b))
      (dvd_sum (Polys S) d _ _ (dvd_mul (Polys S) d b (der a) q) (dvd_mul_right (Polys S) d a (der b) p)))

  pub shared_gcd : (f a b d : Poly S) → f ≡ a ⊗ b → d ∣ a → d ∣ b → (c : Gcd f (der f)) → d ∣ c.gcd
  shared_gcd f a b d e p q c = greatest f (der f) c d (subst (λ (x : Poly S). d ∣ x) (sym e) (dvd_mul (Polys S) d b a q)) (shared_der f a b d e p q)

  -- cofactors of a polynomial that is coprime to its derivative are coprime
  pub cofactors_coprime : (f a b : Poly S) → f ≡ a ⊗ b → Coprime (Polys S) f (der f) → Coprime (Polys S) a b
  cofactors_coprime f a b e c = record {
    s = c.s ⊗ b ⊕ c.t ⊗ der b;
    t = c.t ⊗ der a;
    sum =
        ring (Polys S) (c.s ∷ b ∷ c.t ∷ der b ∷ a ∷ der a ∷ []) ((A :* B :+ C :* D) :* E :+ C :* F :* B) (A :* (E :* B) :+ C :* (F :* B :+ E :* D)) refl
        ∙ ap₂ (λ (x y : Poly S). c.s ⊗ x ⊕ c.t ⊗ y) (sym e) (sym (ap der e ∙ der_mul a b)) ∙ c.sum;
  }

module _ {K : Type 0} {S : Scalars K} (F : Field S) where
  -- where the derivative is not zero the common divisor with it is smaller than the polynomial
  pub gcd_der_smaller : (f : Poly S) → (der f ≡ (Polys S).𝟘 → ⊥) → (c : Gcd f (der f)) → size c.gcd < size f
  gcd_der_smaller f n c = go (size f) refl
    where
      go : (k : ℕ) → size f ≡ k → size c.gcd < size f
      go zero e = absurd (omega (arith, nonzero_size (der f) n, der_size f 0 (omega arith)))
      go (suc k) e = omega (arith, der_size f k (omega arith), dvd_size F c.gcd (der f) (nonzero_size (der f) n) c.right)

  -- a divisor of positive degree that is smaller than the polynomial has such a cofactor
  pub cofactor_proper : (f h d : Poly S) → f ≡ (Polys S).◌⊗◌ h d → 2 ≤ size d → size d < size f → (2 ≤ size h) × (size h < size f)
  cofactor_proper f h d e p q = let w = factors F f h d (omega arith) e in (omega (arith, w.sizes), omega (arith, w.sizes))
