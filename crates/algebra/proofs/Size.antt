-- Sizes (degrees) of polynomials over a field: products, constants, division and divisors.
-- Main statements: zero_factor, Factors, Divided, size_sum_left, size_mul, factors, dvd_size, poly_cancel, divided, size_pow.
use Rattle.std.proofs.Common.{◌≡◌, ℕ, zero, suc, ◌+◌, ◌*◌, ◌<◌, ◌≤◌, ◌⊎◌, [], ◌∷◌, sym, refl, ap, ◌∙◌, inl, inr, le_refl, arith}
use Rattle.algebra.specs.Ring.{Scalars, Field}
use Rattle.algebra.proofs.Laws.{add_zero, mul_assoc, one_⊗, zero_⊗, ⊗_zero, neg_zero, eq_of_diff}
use Rattle.algebra.proofs.Solver.{:0, ◌:*◌, ◌:-◌, ring, A, B, C}
use Rattle.algebra.proofs.Seq.{sum_at}
use Rattle.algebra.proofs.Bounds.{Below, top_mul, below_mul}
use Rattle.algebra.proofs.Division.{Division, divide}
use Rattle.algebra.proofs.Poly.{Poly, Polys, poly, poly_path, poly_coef, poly_seq, size, low, top, size_le, size_ge, size_zero, zero_size, one_coef_zero, one_coef_suc, sum_coef, neg_coef, prod_coef}
use Rattle.algebra.proofs.Divides.{Divides}
use Rattle.algebra.proofs.Powers.{pow, pow_zero, pow_suc}

module _ {K : Type 0} {S : Scalars K} (F : Field S) where
  -- cancelling in the field
  pub cancel_scalar : (a x y : K) → (a ≡ S.ring.𝟘 → ⊥) → S.ring.◌⊗◌ a x ≡ S.ring.◌⊗◌ a y → x ≡ y
  cancel_scalar a x y n e = cc (
    one_⊗ S.ring x,
    one_⊗ S.ring y,
    F.inverse a n,
    mul_assoc S.ring (F.inv a) a x,
    mul_assoc S.ring (F.inv a) a y,
  )

  pub no_zero_divisors : (a b : K) → (a ≡ S.ring.𝟘 → ⊥) → (b ≡ S.ring.𝟘 → ⊥) → S.ring.◌⊗◌ a b ≡ S.ring.𝟘 → ⊥
  no_zero_divisors a b n k e = k (cancel_scalar a b S.ring.𝟘 n (e ∙ sym (⊗_zero S.ring a)))

  -- a product in the field is zero only if a factor is
  pub zero_factor : (a b : K) → S.ring.◌⊗◌ a b ≡ S.ring.𝟘 → (a ≡ S.ring.𝟘) ⊎ (b ≡ S.ring.𝟘)
  zero_factor a b e = go (S.dec a S.ring.𝟘)
    where
      go : Dec (a ≡ S.ring.𝟘) → (a ≡ S.ring.𝟘) ⊎ (b ≡ S.ring.𝟘)
      go (yes p) = inl p
      go (no n) = inr (cancel_scalar a b S.ring.𝟘 n (e ∙ sym (⊗_zero S.ring a)))

module _ {K : Type 0} {S : Scalars K} where
  infixl 65 ◌⊕◌
  infixl 70 ◌⊗◌
  open Polys S use {𝟘, 𝟙, ◌⊕◌, ◌⊗◌, neg}

  -- a product that is not zero has factors that are not zero, and the sizes add up to one more
  pub record Factors (f a b : Poly S) : Type 0 where
    pub left : 1 ≤ size a
    pub right : 1 ≤ size b
    pub sizes : size a + size b ≡ suc (size f)

  -- division with remainder
  pub record Divided (f g : Poly S) : Type 0 where
    pub quotient : Poly S
    pub rest : Poly S
    pub adds_up : f ≡ quotient ⊗ g ⊕ rest
    pub smaller : size rest < size g

  -- sizes of sums
  pub size_sum : (f g : Poly S) (n : ℕ) → size f ≤ n → size g ≤ n → size (f ⊕ g) ≤ n
  size_sum f g n p q = size_le (f ⊕ g) n (λ i h. simp (sum_coef, low f i (omega arith), low g i (omega arith), add_zero))

  pub size_neg : (f : Poly S) (n : ℕ) → size f ≤ n → size (neg f) ≤ n
  size_neg f n p = size_le (neg f) n (λ i h. simp (neg_coef, low f i (omega arith), neg_zero))

  -- a smaller summand does not change the size
  pub size_sum_left : (f g : Poly S) → size g < size f → size (f ⊕ g) ≡ size f
  size_sum_left f g h = go (size f) refl
    where
      go : (n : ℕ) → size f ≡ n → size (f ⊕ g) ≡ size f
      go zero e = absurd (omega arith)
      go (suc n) e = omega (
        arith,
        size_sum f g (size f) (le_refl _) (omega arith),
        size_ge (f ⊕ g) n (λ z. top f n e (sym (add_zero S.ring _) ∙ ap (λ (x : K). S.ring.◌⊕◌ (f.coef n) x) (sym (low g n (omega arith))) ∙ sym (sum_coef S f g n) ∙ z)),
      )

  -- a polynomial is not zero just if its size is positive
  pub nonzero_size : (f : Poly S) → (f ≡ 𝟘 → ⊥) → 1 ≤ size f
  nonzero_size f n = go (size f) refl
    where
      go : (k : ℕ) → size f ≡ k → 1 ≤ size f
      go zero e = absurd (n (size_zero f e))
      go (suc k) e = omega arith

  pub size_nonzero : (f : Poly S) → 1 ≤ size f → f ≡ 𝟘 → ⊥
  size_nonzero f h e = absurd (omega (arith, zero_size S, ap size e))

module _ {K : Type 0} {S : Scalars K} (F : Field S) where
  infixl 65 ◌⊕◌
  infixl 70 ◌⊗◌
  open Polys S use {𝟘, 𝟙, ◌⊕◌, ◌⊗◌, neg}

  -- degrees add up in a product, and highest coefficients multiply
  pub size_mul : (f g : Poly S) (m n : ℕ) → size f ≡ suc m → size g ≡ suc n → size (f ⊗ g) ≡ suc (m + n)
  size_mul f g m n p q = omega (arith, upper, lower)
    where
      fl : Below S.ring (suc m) f.coef
      fl i h = low f i (omega arith)

      gl : Below S.ring (suc n) g.coef
      gl i h = low g i (omega arith)

      upper : size (f ⊗ g) ≤ suc (m + n)
      upper = size_le (f ⊗ g) (suc (m + n)) (λ i h. rw prod_coef (below_mul S.ring i f.coef g.coef (suc m) (suc n) fl gl (omega arith)))

      lower : suc (m + n) ≤ size (f ⊗ g)
      lower =
          size_ge (f ⊗ g) (m + n)
          (λ e. no_zero_divisors F (f.coef m) (g.coef n) (top f m p) (top g n q)
          (sym (top_mul S.ring m n f.coef g.coef fl gl) ∙ sym (prod_coef S f g (m + n)) ∙ e))

  pub top_product : (f g : Poly S) (m n : ℕ) → size f ≡ suc m → size g ≡ suc n → (f ⊗ g).coef (m + n) ≡ S.ring.◌⊗◌ (f.coef m) (g.coef n)
  top_product f g m n p q = prod_coef S f g (m + n) ∙ top_mul S.ring m n f.coef g.coef (λ i h. low f i (omega arith)) (λ i h. low g i (omega arith))

  pub one_size : size 𝟙 ≡ 1
  one_size = omega (arith, size_le 𝟙 1 below, size_ge 𝟙 0 (λ e. F.apart (sym (one_coef_zero S) ∙ e)))
    where
      below : Below S.ring 1 𝟙.coef
      below zero h = absurd (omega arith)
      below (suc i) h = one_coef_suc S i

  -- the sizes of the factors of a polynomial other than zero
  pub factors : (f a b : Poly S) → 1 ≤ size f → f ≡ a ⊗ b → Factors f a b
  factors f a b h e = go (size a) (size b) refl refl
    where
      go : (m n : ℕ) → size a ≡ m → size b ≡ n → Factors f a b
      go zero n p q = absurd (size_nonzero f h (e ∙ ap (λ (x : Poly S). x ⊗ b) (size_zero a p) ∙ zero_⊗ (Polys S) b))
      go (suc m) zero p q = absurd (size_nonzero f h (e ∙ ap (λ (x : Poly S). a ⊗ x) (size_zero b q) ∙ ⊗_zero (Polys S) a))
      go (suc m) (suc n) p q = record { left = omega arith; right = omega arith; sizes = omega (arith, ap size e, size_mul a b m n p q) }

  -- a divisor of a polynomial that is not zero is no longer than it
  pub dvd_size : (d f : Poly S) → 1 ≤ size f → Divides (Polys S) d f → size d ≤ size f
  dvd_size d f h p = let w = factors f p.0 d h p.1 in omega (arith, w.left, w.sizes)

  -- what is smaller than a divisor of it is zero
  pub dvd_small : (d f : Poly S) → Divides (Polys S) d f → size f < size d → f ≡ 𝟘
  dvd_small d f p h = go (size f) refl
    where
      go : (n : ℕ) → size f ≡ n → f ≡ 𝟘
      go zero e = size_zero f e
      go (suc n) e = absurd (omega (arith, dvd_size d f (omega arith) p))

  -- a divisor of one is a constant
  pub dvd_one : (f : Poly S) → Divides (Polys S) f 𝟙 → size f ≤ 1
  dvd_one f d = omega (arith, one_size, dvd_size f 𝟙 (omega (arith, one_size)) d)

  -- a factor other than zero can be cancelled
  pub poly_cancel : (a f g : Poly S) → 1 ≤ size a → a ⊗ f ≡ a ⊗ g → f ≡ g
  poly_cancel a f g h e = eq_of_diff (Polys S) f g (go (size (f ⊕ neg g)) refl)
    where
      z : a ⊗ (f ⊕ neg g) ≡ 𝟘
      z = ring (Polys S) (a ∷ f ∷ g ∷ []) (A :* (B :- C)) (A :* B :- A :* C) refl ∙ ap (λ (x : Poly S). x ⊕ neg (a ⊗ g)) e ∙ ring (Polys S) (a ⊗ g ∷ []) (A :- A) :0 refl

      go : (n : ℕ) → size (f ⊕ neg g) ≡ n → f ⊕ neg g ≡ 𝟘
      go zero p = size_zero (f ⊕ neg g) p
      go (suc n) p = by (size a) refl
        where
          by : (m : ℕ) → size a ≡ m → f ⊕ neg g ≡ 𝟘
          by zero q = absurd (omega arith)
          by (suc m) q = absurd (omega (arith, ap size z, zero_size S, size_mul a (f ⊕ neg g) m n q p))

  lift_division : (f g : Poly S) (n : ℕ) → size g ≡ suc n → Division S.ring (size f) n f.coef g.coef → Divided f g
  lift_division f g n e v = record {
    quotient = poly S (size f) v.quotient v.short;
    rest = poly S n v.rest v.low;
    adds_up = poly_path f _ (λ i. ap (λ (x : ℕ → K). x i) v.adds_up ∙ simp (sum_coef, prod_coef, poly_seq, poly_coef, sum_at));
    smaller = omega (arith, size_le (poly S n v.rest v.low) n (rw poly_seq v.low));
  }

  -- division with remainder by any polynomial but zero
  pub divided : (f g : Poly S) → 1 ≤ size g → Divided f g
  divided f g h = go (size g) refl
    where
      go : (n : ℕ) → size g ≡ n → Divided f g
      go zero e = absurd (omega arith)
      go (suc n) e =
          lift_division f g n e
          (divide S.ring n g.coef (F.inv (g.coef n)) (λ i h. low g i (omega arith)) (F.inverse (g.coef n) (top g n e)) (size f) f.coef (low f))

  -- a constant that is not zero divides one
  pub one_dvd : (f : Poly S) → size f ≡ 1 → Divides (Polys S) f 𝟙
  one_dvd f e = go (divided 𝟙 f (omega arith))
    where
      go : Divided 𝟙 f → Divides (Polys S) f 𝟙
      go v = (v.quotient, v.adds_up ∙ ap (λ (x : Poly S). v.quotient ⊗ f ⊕ x) (size_zero v.rest (omega (arith, v.smaller))) ∙ add_zero (Polys S) _)

  -- if the cofactor is a constant then the divisor is a multiple of the whole
  pub dvd_back : (f d h : Poly S) → f ≡ h ⊗ d → size h ≡ 1 → Divides (Polys S) f d
  dvd_back f d h e s = go (one_dvd h s)
    where
      go : Divides (Polys S) h 𝟙 → Divides (Polys S) f d
      go u = (u.0, sym (one_⊗ (Polys S) d) ∙ ap (λ (x : Poly S). x ⊗ d) u.1 ∙ mul_assoc (Polys S) u.0 h d ∙ ap (λ (x : Poly S). u.0 ⊗ x) (sym e))

  -- the degree of the n-th power is n times the degree
  pub size_pow : (f : Poly S) (m n : ℕ) → size f ≡ suc m → size (pow (Polys S) f n) ≡ suc (n * m)
  size_pow f m zero e = ap size (pow_zero (Polys S) f) ∙ one_size ∙ omega arith
  size_pow f m (suc n) e = ap size (pow_suc (Polys S) f n) ∙ size_mul f (pow (Polys S) f n) m (n * m) e (size_pow f m n e) ∙ omega arith
