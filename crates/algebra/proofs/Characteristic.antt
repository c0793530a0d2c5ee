-- The characteristic of a field is a prime number, and n ones sum to zero just if n is a multiple of it.
-- Main statements: multiples_vanish, vanish_multiples, prime_characteristic, prime_alone, const_times, poly_vanishes.
use Rattle.std.proofs.Common.{◌≡◌, ℕ, zero, suc, ◌+◌, ◌*◌, ◌/◌, ◌%◌, ◌<◌, ◌≤◌, ◌⊎◌, sym, refl, ap, ◌∙◌, inl, inr, mul_comm as mul-comm-ℕ, arith}
use mathlib.Core.Path.{◌≡⟨◌⟩◌, ◌∎}
use Rattle.algebra.specs.Ring.{Ring, Scalars, Field}
use Rattle.algebra.specs.Powers.{Characteristic, Divisor, Prime}
use Rattle.algebra.proofs.Laws.{add_zero, zero_⊕}
use Rattle.algebra.proofs.Powers.{times, times_zero, times_suc, times_of_zero, times_add, times_mul, times_mul_one}
use Rattle.algebra.proofs.Size.{zero_factor}
use Rattle.algebra.proofs.Poly.{Poly, Polys}
use Rattle.algebra.proofs.Terms.{const, const_zero, const_one, const_sum}

module _ {K : Type 0} (R : Ring K) where
  -- where p ones vanish, so do multiples of p ones
  pub multiples_vanish : (p n : ℕ) → times R p R.𝟙 ≡ R.𝟘 → Divisor p n → times R n R.𝟙 ≡ R.𝟘
  multiples_vanish p n z d = ap (λ (k : ℕ). times R k R.𝟙) d.1 ∙ times_mul R d.0 p R.𝟙 ∙ ap (times R d.0) z ∙ times_of_zero R d.0

  -- in any ring: a number of ones is zero only if it is a multiple of the characteristic
  pub vanish_multiples : (p n : ℕ) → Characteristic R p → times R n R.𝟙 ≡ R.𝟘 → Divisor p n
  vanish_multiples p n c z = go (n % p) refl
    where
      whole : n ≡ n / p * p + n % p
      whole = omega arith

      small : n % p < p
      small = omega (arith, c.positive)

      rest : times R (n % p) R.𝟙 ≡ R.𝟘
      rest =
          times R (n % p) R.𝟙 ≡⟨ sym (zero_⊕ R _) ∙ ap (λ (x : K). R.◌⊕◌ x (times R (n % p) R.𝟙)) (sym (multiples_vanish p (n / p * p) c.vanishes (n / p, refl))) ⟩
          R.◌⊕◌ (times R (n / p * p) R.𝟙) (times R (n % p) R.𝟙) ≡⟨ sym (times_add R (n / p * p) (n % p) R.𝟙) ∙ ap (λ (k : ℕ). times R k R.𝟙) (sym whole) ∙ z ⟩
          R.𝟘 ∎

      go : (r : ℕ) → n % p ≡ r → Divisor p n
      go zero e = (n / p, omega (arith, whole, e))
      go (suc r) e = absurd (omega (arith, small, c.least (n % p) (omega arith) rest))

module _ {K : Type 0} {S : Scalars K} (F : Field S) where
  pub prime_characteristic : (p : ℕ) → Characteristic S.ring p → Prime p
  prime_characteristic p c = record { two = two p refl; euclid = euclid }
    where
      two : (n : ℕ) → p ≡ n → 2 ≤ p
      two zero e = absurd (omega (arith, c.positive))
      two (suc zero) e = absurd (F.apart (
          sym (times_suc S.ring 0 S.ring.𝟙 ∙ ap (S.ring.◌⊕◌ S.ring.𝟙) (times_zero S.ring _) ∙ add_zero S.ring _)
          ∙ ap (λ (k : ℕ). times S.ring k S.ring.𝟙) (sym e) ∙ c.vanishes))
      two (suc (suc n)) e = omega arith

      euclid : (m n : ℕ) → Divisor p (m * n) → Divisor p m ⊎ Divisor p n
      euclid m n d = elim (zero_factor F _ _ (sym (times_mul_one S.ring m n) ∙ multiples_vanish S.ring p (m * n) c.vanishes d)) [
        | inl e ↦ inl (vanish_multiples S.ring p m c e)
        | inr e ↦ inr (vanish_multiples S.ring p n c e)
      ]

-- a prime number is a product only with one
pub prime_alone : (p a b : ℕ) → Prime p → p ≡ a * b → (a ≡ 1) ⊎ (b ≡ 1)
prime_alone p a b h e = elim (h.euclid a b (1, omega arith)) [ inl d ↦ inr (by a b d.0 e d.1) | inr d ↦ inl (by b a d.0 (e ∙ mul-comm-ℕ a b) d.1) ]
  where
    by : (x y k : ℕ) → p ≡ x * y → x ≡ k * p → y ≡ 1
    by x y zero q r = absurd (omega (arith, h.two, ap (λ (n : ℕ). n * y) r))
    by x zero (suc k) q r = absurd (omega (arith, h.two))
    by x (suc zero) (suc k) q r = refl
    by x (suc (suc y)) (suc k) q r = absurd (omega (arith, h.two))

module _ {K : Type 0} (S : Scalars K) where
  -- the constant of a multiple is the multiple of the constant
  pub const_times : (n : ℕ) (a : K) → const S (times S.ring n a) ≡ times (Polys S) n (const S a)
  const_times zero a = ap (const S) (times_zero S.ring a) ∙ const_zero S ∙ sym (times_zero (Polys S) _)
  const_times (suc n) a = ap (const S) (times_suc S.ring n a) ∙ const_sum S a _ ∙ ap (λ (x : Poly S). (Polys S).◌⊕◌ (const S a) x) (const_times n a) ∙ sym (times_suc (Polys S) n (const S a))

  -- where p ones vanish among the scalars, they vanish among the polynomials
  pub poly_vanishes : (p : ℕ) → times S.ring p S.ring.𝟙 ≡ S.ring.𝟘 → times (Polys S) p (Polys S).𝟙 ≡ (Polys S).𝟘
  poly_vanishes p z = ap (times (Polys S) p) (sym (const_one S)) ∙ sym (const_times p S.ring.𝟙) ∙ ap (const S) z ∙ const_zero S
