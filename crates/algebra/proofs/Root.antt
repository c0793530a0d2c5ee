-- p-th powers of polynomials in characteristic p, and the p-th root of a polynomial whose derivative is zero.
-- Main statements: divisor_dec, power_at_multiple, power_at_other, root, root_coef, root_power, only_multiples, root_size, root_monic.
use Rattle.std.proofs.Common.{◌≡◌, ℕ, zero, suc, ◌+◌, ◌-◌, ◌*◌, ◌/◌, ◌%◌, ◌<◌, ◌≤◌, sym, refl, ap, ◌∙◌, ap₂, inl, inr, mul-le-mul_left, zero-mul, arith}
use native.Mathlib.Nat.{mul-mod_left}
use native.Mathlib.Decide.{dec_le}
use Rattle.algebra.specs.Ring.{Scalars, Field}
use Rattle.algebra.specs.Powers.{Characteristic, Divisor, Prime}
use Rattle.algebra.proofs.Laws.{add_zero, zero_⊕}
use Rattle.algebra.proofs.Poly.{Poly, Polys, poly, poly_path, poly_coef, size, low, size_zero, zero_size, zero_coef, sum_coef}
use Rattle.algebra.proofs.Powers.{pow, times, zero_pow_pos, mul_pow, pow_mul, one_pow, times_one}
use Rattle.algebra.proofs.Monic.{Monic}
use Rattle.algebra.proofs.Size.{zero_factor, size_pow}
use Rattle.algebra.proofs.Terms.{const, X, rest, take_apart, rest_coef, rest_size, const_pow, const_coef_zero, const_high, X_pow_above, X_pow_below}
use Rattle.algebra.proofs.Derivative.{der, der_coef}
use Rattle.algebra.proofs.Characteristic.{vanish_multiples, poly_vanishes}
use Rattle.algebra.proofs.Frobenius.{frobenius}

-- a number is a multiple of p or not
pub divisor_dec : (p n : ℕ) → 1 ≤ p → Dec (Divisor p n)
divisor_dec p n l = go (n % p) refl
  where
    whole : n ≡ n / p * p + n % p
    whole = omega arith

    small : n % p < p
    small = omega arith

    by : (r k : ℕ) → n % p ≡ suc r → n ≡ k * p → ⊥
    by r k e w = omega (arith, e, mul-mod_left k p, ap (λ (m : ℕ). m % p) w)

    go : (r : ℕ) → n % p ≡ r → Dec (Divisor p n)
    go zero e = yes (n / p, omega (arith, whole, e))
    go (suc r) e = no (λ d. by r d.0 e d.1)

module _ {K : Type 0} {S : Scalars K} (p : ℕ) (h : Prime p) (z : times S.ring p S.ring.𝟙 ≡ S.ring.𝟘) where
  infixl 65 ◌⊕◌
  infixl 70 ◌⊗◌
  open Polys S use {𝟘, 𝟙, ◌⊕◌, ◌⊗◌, neg}

  split : (g : Poly S) (k : ℕ) → (pow (Polys S) g p).coef k ≡ S.ring.◌⊕◌ ((const S (pow S.ring (g.coef 0) p)).coef k) ((pow (Polys S) (X S) p ⊗ pow (Polys S) (rest S g) p).coef k)
  split g k =
      ap (λ (x : Poly S). (pow (Polys S) x p).coef k) (take_apart S g)
      ∙ ap (λ (x : Poly S). x.coef k) (frobenius (Polys S) (const S (g.coef 0)) (X S ⊗ rest S g) p h (poly_vanishes S p z)
      ∙ ap₂ ◌⊕◌ (sym (const_pow S (g.coef 0) p)) (mul_pow (Polys S) (X S) (rest S g) p))
      ∙ sum_coef S _ _ k

  zero_power : (g : Poly S) → size g ≤ 0 → pow (Polys S) g p ≡ 𝟘
  zero_power g l = ap (λ (x : Poly S). pow (Polys S) x p) (size_zero g (omega arith)) ∙ zero_pow_pos (Polys S) p (omega (arith, h.two))

  at_multiple : (n : ℕ) (g : Poly S) → size g ≤ n → (i : ℕ) → (pow (Polys S) g p).coef (i * p) ≡ pow S.ring (g.coef i) p
  at_multiple zero g l i =
      ap (λ (x : Poly S). x.coef (i * p)) (zero_power g l) ∙ zero_coef S _
      ∙ sym (ap (λ (x : K). pow S.ring x p) (low g i (omega arith)) ∙ zero_pow_pos S.ring p (omega (arith, h.two)))
  at_multiple (suc n) g l zero =
      rw (zero-mul p) (split g 0 ∙ ap₂ S.ring.◌⊕◌ (const_coef_zero S _) (X_pow_below S p _ 0 (omega (arith, h.two))) ∙ add_zero S.ring _)
  at_multiple (suc n) g l (suc i) =
      split g (suc i * p) ∙ ap₂ S.ring.◌⊕◌ (const_high S _ (suc i * p) (omega (arith, h.two)))
      (ap (λ (k : ℕ). (pow (Polys S) (X S) p ⊗ pow (Polys S) (rest S g) p).coef k) up ∙ X_pow_above S p _ (i * p) ∙ at_multiple n (rest S g) (rest_size S g n l) i ∙ ap (λ (x : K). pow S.ring x p) (rest_coef S g i))
      ∙ zero_⊕ S.ring _
    where
      up : suc i * p ≡ p + i * p
      up = omega arith

  at_other : (n : ℕ) (g : Poly S) → size g ≤ n → (k : ℕ) → (Divisor p k → ⊥) → (pow (Polys S) g p).coef k ≡ S.ring.𝟘
  at_other zero g l k d = ap (λ (x : Poly S). x.coef k) (zero_power g l) ∙ zero_coef S _
  at_other (suc n) g l k d = split g k ∙ ap₂ S.ring.◌⊕◌ (const_high S _ k (positive k refl)) (go (at_other n (rest S g) (rest_size S g n l)) (dec_le p k)) ∙ zero_⊕ S.ring _
    where
      positive : (j : ℕ) → k ≡ j → 1 ≤ k
      positive zero e = absurd (d (0, omega arith))
      positive (suc j) e = omega arith

      go : ((m : ℕ) → (Divisor p m → ⊥) → (pow (Polys S) (rest S g) p).coef m ≡ S.ring.𝟘) → Dec (p ≤ k) → (pow (Polys S) (X S) p ⊗ pow (Polys S) (rest S g) p).coef k ≡ S.ring.𝟘
      go rec (no m) = X_pow_below S p _ k (omega arith)
      go rec (yes m) = ap (λ (j : ℕ). (pow (Polys S) (X S) p ⊗ pow (Polys S) (rest S g) p).coef j) up ∙ X_pow_above S p _ (k - p)
          ∙ rec (k - p) (λ e. d (suc e.0, up ∙ omega (arith, e.1)))
        where
          up : k ≡ p + (k - p)
          up = omega arith

  -- the coefficients of a p-th power: at multiples of p the p-th powers, elsewhere zero
  pub power_at_multiple : (g : Poly S) (i : ℕ) → (pow (Polys S) g p).coef (i * p) ≡ pow S.ring (g.coef i) p
  power_at_multiple g i = at_multiple (size g) g (omega arith) i

  pub power_at_other : (g : Poly S) (k : ℕ) → (Divisor p k → ⊥) → (pow (Polys S) g p).coef k ≡ S.ring.𝟘
  power_at_other g k d = at_other (size g) g (omega arith) k d

  -- e is q / p: where all scalars are their own (e * p)-th power, e-th powers are p-th roots
  module _ (e : ℕ) (e-pos : 1 ≤ e) (own : (a : K) → pow S.ring a (e * p) ≡ a) where
    -- the coefficients at multiples of p, to the power e
    pub root : Poly S → Poly S
    root f = poly S (size f) (λ i. pow S.ring (f.coef (i * p)) e) (λ i l. ap (λ (x : K). pow S.ring x e) (low f (i * p) (omega (arith, mul-le-mul_left i h.two))) ∙ zero_pow_pos S.ring e e-pos)

    pub root_coef : (f : Poly S) (i : ℕ) → (root f).coef i ≡ pow S.ring (f.coef (i * p)) e
    unfolding root
    root_coef f i = poly_coef S _ _ _ i

    -- a polynomial that has only powers that are multiples of p is the p-th power of the root
    pub root_power : (f : Poly S) → ((k : ℕ) → (Divisor p k → ⊥) → f.coef k ≡ S.ring.𝟘) → pow (Polys S) (root f) p ≡ f
    root_power f only = poly_path _ _ (λ k. go k (divisor_dec p k (omega (arith, h.two))))
      where
        go : (k : ℕ) → Dec (Divisor p k) → (pow (Polys S) (root f) p).coef k ≡ f.coef k
        go k (no d) = power_at_other (root f) k d ∙ sym (only k d)
        go k (yes d) =
            ap (λ (j : ℕ). (pow (Polys S) (root f) p).coef j) d.1 ∙ power_at_multiple (root f) d.0 ∙ ap (λ (x : K). pow S.ring x p) (root_coef f d.0)
            ∙ sym (pow_mul S.ring _ e p) ∙ own _ ∙ ap f.coef (sym d.1)

module _ {K : Type 0} {S : Scalars K} (F : Field S) (p : ℕ) (c : Characteristic S.ring p) where
  -- a polynomial with derivative zero has only powers that are multiples of p
  pub only_multiples : (f : Poly S) → der f ≡ (Polys S).𝟘 → (k : ℕ) → (Divisor p k → ⊥) → f.coef k ≡ S.ring.𝟘
  only_multiples f e zero d = absurd (d (0, omega arith))
  only_multiples f e (suc k) d = elim (zero_factor F _ _ (sym (times_one S.ring (suc k) (f.coef (suc k))) ∙ sym (der_coef f k) ∙ ap (λ (x : Poly S). x.coef k) e ∙ zero_coef S k)) [
    | inl w ↦ absurd (d (vanish_multiples S.ring p (suc k) c w))
    | inr w ↦ w
  ]

module _ {K : Type 0} {S : Scalars K} (F : Field S) (p e : ℕ) (h : Prime p) (z : times S.ring p S.ring.𝟙 ≡ S.ring.𝟘) (e-pos : 1 ≤ e) (own : (a : K) → pow S.ring a (e * p) ≡ a) where
  -- the degree of the root is the degree divided by p
  pub root_size : (f : Poly S) (d : ℕ) → size f ≡ suc d → pow (Polys S) (root p h z e e-pos own f) p ≡ f → (m : ℕ) × (size (root p h z e e-pos own f) ≡ suc m) × (d ≡ m * p)
  root_size f d s r = go (size (root p h z e e-pos own f)) refl
    where
      go : (n : ℕ) → size (root p h z e e-pos own f) ≡ n → (m : ℕ) × (size (root p h z e e-pos own f) ≡ suc m) × (d ≡ m * p)
      go zero t = absurd (omega (arith, s, zero_size S, ap size (sym r ∙ ap (λ (x : Poly S). pow (Polys S) x p) (size_zero (root p h z e e-pos own f) t) ∙ zero_pow_pos (Polys S) p (omega (arith, h.two)))))
      go (suc m) t = (m, t, omega (arith, s, ap size r, size_pow F (root p h z e e-pos own f) m p t))

  pub root_monic : (f : Poly S) → Monic f → pow (Polys S) (root p h z e e-pos own f) p ≡ f → Monic (root p h z e e-pos own f)
  root_monic f m r = go (root_size f m.deg m.sized r)
    where
      go : (n : ℕ) × (size (root p h z e e-pos own f) ≡ suc n) × (m.deg ≡ n * p) → Monic (root p h z e e-pos own f)
      go w = record { deg = w.0; sized = w.1; leads = root_coef p h z e e-pos own f w.0 ∙ ap (λ (x : K). pow S.ring x e) (ap f.coef (sym w.2) ∙ m.leads) ∙ one_pow S.ring e }
