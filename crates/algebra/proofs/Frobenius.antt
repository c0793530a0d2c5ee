-- In a ring where a prime number p of ones is zero, p-th powers of sums are sums of p-th powers.
-- Main statements: binom, prime_binom, expand, binomial, frobenius, power_sum, power_neg.
use Rattle.std.proofs.Common.{◌≡◌, ℕ, zero, suc, ◌+◌, ◌*◌, ◌^◌, ◌<◌, ◌≤◌, [], ◌∷◌, sym, refl, ap, ◌∙◌, ap₂, inl, inr, le_refl, mul-pos, arith}
use mathlib.Core.Path.{fun_ext}
use native.Mathlib.Nat.{pow-succ', pow-zero as pow-zero-ℕ}
use Rattle.algebra.specs.Ring.{Ring}
use Rattle.algebra.specs.Powers.{Divisor, Prime}
use Rattle.algebra.proofs.Laws.{add_zero, zero_⊕, add_comm, dist_⊗, mul_one, one_⊗, zero_⊗, neg_unique, add_neg}
use Rattle.algebra.proofs.Solver.{:0, ◌:+◌, ◌:*◌, ring, A, B, C, D, E, F}
use Rattle.algebra.proofs.Seq.{tail}
use Rattle.algebra.proofs.Bounds.{cons}
use Rattle.algebra.proofs.Powers.{pow, times, pow_zero, pow_suc, pow_one, pow_mul, times_zero, times_suc, times_add, zero_pow_pos}
use Rattle.algebra.proofs.Characteristic.{multiples_vanish}

-- the number of ways to choose k of n
pub binom : ℕ → ℕ → ℕ
binom zero zero = 1
binom zero (suc k) = 0
binom (suc n) zero = 1
binom (suc n) (suc k) = binom n k + binom n (suc k)

binom_none : (n : ℕ) → binom n 0 ≡ 1
unfolding binom
binom_none zero = refl
binom_none (suc n) = refl

binom_suc : (n k : ℕ) → binom (suc n) (suc k) ≡ binom n k + binom n (suc k)
unfolding binom
binom_suc n k = refl

binom_zero : (k : ℕ) → binom 0 (suc k) ≡ 0
unfolding binom
binom_zero k = refl

binom_over : (n k : ℕ) → n < k → binom n k ≡ 0
binom_over zero zero h = absurd (omega arith)
binom_over zero (suc k) h = binom_zero k
binom_over (suc n) zero h = absurd (omega arith)
binom_over (suc n) (suc k) h = omega (arith, binom_suc n k, binom_over n k (omega arith), binom_over n (suc k) (omega arith))

binom_all : (n : ℕ) → binom n n ≡ 1
binom_all zero = binom_none 0
binom_all (suc n) = omega (arith, binom_suc n n, binom_all n, binom_over n (suc n) (le_refl (suc n)))

-- k + 1 times the choices of k + 1 of n + 1 are n + 1 times those of k of n
absorb : (n k : ℕ) → suc k * binom (suc n) (suc k) ≡ suc n * binom n k
absorb zero zero = omega (arith, binom_suc 0 0, binom_zero 0, binom_none 0)
absorb zero (suc k) = omega (arith, ap (λ (x : ℕ). suc (suc k) * x) (binom_suc 0 (suc k)), ap (λ (x : ℕ). suc (suc k) * x) (binom_zero k), ap (λ (x : ℕ). suc (suc k) * x) (binom_zero (suc k)), binom_zero k)
absorb (suc n) zero = omega (arith, binom_suc (suc n) 0, binom_none (suc n), binom_none n, absorb n 0, ap (λ (x : ℕ). n * x) (binom_none n), ap (λ (x : ℕ). n * x) (binom_none (suc n)))
absorb (suc n) (suc k) =
    omega (arith, ap (λ (x : ℕ). k * x) (binom_suc (suc n) (suc k)), binom_suc (suc n) (suc k), absorb n k, absorb n (suc k), binom_suc n k, ap (λ (x : ℕ). n * x) (binom_suc n k))

-- a prime number p divides the ways to choose k of p, for k from 1 to p - 1
pub prime_binom : (p k : ℕ) → Prime p → 1 ≤ k → k < p → Divisor p (binom p k)
prime_binom p zero h l m = absurd (omega arith)
prime_binom zero (suc k) h l m = absurd (omega arith)
prime_binom (suc p) (suc k) h l m = elim (h.euclid (suc k) (binom (suc p) (suc k)) (binom p k, absorb p k ∙ omega arith)) [ inl d ↦ absurd (by d.0 d.1) | inr d ↦ d ]
  where
    by : (j : ℕ) → suc k ≡ j * suc p → ⊥
    by zero e = omega arith
    by (suc j) e = omega arith

module _ {K : Type 0} (R : Ring K) (a b : K) where
  infixl 65 ◌⊕◌
  infixl 70 ◌⊗◌
  open R use {𝟘, 𝟙, ◌⊕◌, ◌⊗◌, neg}

  -- the sum of f k times the k-th power of a times the (n - k)-th power of b
  pub expand : ℕ → (ℕ → K) → K
  expand zero f = f 0
  expand (suc n) f = f 0 ⊗ pow R b (suc n) ⊕ a ⊗ expand n (tail f)

  expand_zero : (f : ℕ → K) → expand 0 f ≡ f 0
  unfolding expand
  expand_zero f = refl

  expand_suc : (n : ℕ) (f : ℕ → K) → expand (suc n) f ≡ f 0 ⊗ pow R b (suc n) ⊕ a ⊗ expand n (tail f)
  unfolding expand
  expand_suc n f = refl

  expand_sum : (n : ℕ) (f g : ℕ → K) → expand n (λ k. f k ⊕ g k) ≡ expand n f ⊕ expand n g
  expand_sum zero f g = expand_zero _ ∙ sym (ap₂ ◌⊕◌ (expand_zero f) (expand_zero g))
  expand_sum (suc n) f g =
      expand_suc n _ ∙ ap (λ (x : K). (f 0 ⊕ g 0) ⊗ pow R b (suc n) ⊕ a ⊗ x) (expand_sum n (tail f) (tail g))
      ∙ ring R (f 0 ∷ g 0 ∷ pow R b (suc n) ∷ a ∷ expand n (tail f) ∷ expand n (tail g) ∷ []) ((A :+ B) :* C :+ D :* (E :+ F)) ((A :* C :+ D :* E) :+ (B :* C :+ D :* F)) refl
      ∙ sym (ap₂ ◌⊕◌ (expand_suc n f) (expand_suc n g))

  expand_a : (n : ℕ) (f : ℕ → K) → a ⊗ expand n f ≡ expand (suc n) (cons R 𝟘 f)
  expand_a n f = sym (expand_suc n (cons R 𝟘 f) ∙ ap (λ (x : K). x ⊕ a ⊗ expand n f) (zero_⊗ R _) ∙ zero_⊕ R _)

  expand_b : (n : ℕ) (f : ℕ → K) → f (suc n) ≡ 𝟘 → b ⊗ expand n f ≡ expand (suc n) f
  expand_b zero f e =
      ap (λ (x : K). b ⊗ x) (expand_zero f)
      ∙ ring R (b ∷ f 0 ∷ a ∷ []) (A :* B) (B :* A :+ C :* :0) refl
      ∙ sym (expand_suc 0 f ∙ ap₂ (λ (x y : K). f 0 ⊗ x ⊕ a ⊗ y) (pow_one R b) (expand_zero (tail f) ∙ e))
  expand_b (suc n) f e =
      ap (λ (x : K). b ⊗ x) (expand_suc n f)
      ∙ ring R (b ∷ f 0 ∷ pow R b (suc n) ∷ a ∷ expand n (tail f) ∷ []) (A :* (B :* C :+ D :* E)) (B :* (A :* C) :+ D :* (A :* E)) refl
      ∙ ap₂ (λ (x y : K). f 0 ⊗ x ⊕ a ⊗ y) (sym (pow_suc R b (suc n))) (expand_b n (tail f) e) ∙ sym (expand_suc (suc n) f)

  -- the binomial theorem
  pub binomial : (n : ℕ) → pow R (a ⊕ b) n ≡ expand n (λ k. times R (binom n k) 𝟙)
  binomial zero = pow_zero R _ ∙ sym (expand_zero _ ∙ rw (binom_none 0) (times_suc R 0 𝟙 ∙ ap (λ (x : K). 𝟙 ⊕ x) (times_zero R 𝟙) ∙ add_zero R 𝟙))
  binomial (suc n) =
      pow_suc R (a ⊕ b) n ∙ ap (λ (x : K). (a ⊕ b) ⊗ x) (binomial n) ∙ dist_⊗ R a b _
      ∙ ap₂ ◌⊕◌ (expand_a n _) (expand_b n _ (rw (binom_over n (suc n) (le_refl (suc n))) (times_zero R 𝟙)))
      ∙ sym (expand_sum (suc n) _ _) ∙ ap (expand (suc n)) (fun_ext pascal)
    where
      pascal : (k : ℕ) → cons R 𝟘 (λ j. times R (binom n j) 𝟙) k ⊕ times R (binom n k) 𝟙 ≡ times R (binom (suc n) k) 𝟙
      pascal zero = zero_⊕ R _ ∙ ap (λ (j : ℕ). times R j 𝟙) (binom_none n ∙ sym (binom_none (suc n)))
      pascal (suc k) = sym (times_add R (binom n k) (binom n (suc k)) 𝟙) ∙ ap (λ (j : ℕ). times R j 𝟙) (sym (binom_suc n k))

  expand_top : (n : ℕ) (f : ℕ → K) → ((k : ℕ) → k < n → f k ≡ 𝟘) → expand n f ≡ pow R a n ⊗ f n
  expand_top zero f h = expand_zero f ∙ sym (ap (λ (x : K). x ⊗ f 0) (pow_zero R a) ∙ one_⊗ R (f 0))
  expand_top (suc n) f h =
      expand_suc n f ∙ ap₂ (λ (x y : K). x ⊗ pow R b (suc n) ⊕ a ⊗ y) (h 0 (omega arith)) (expand_top n (tail f) (λ k l. h (suc k) (omega arith)))
      ∙ ring R (pow R b (suc n) ∷ a ∷ pow R a n ∷ f (suc n) ∷ []) (:0 :* A :+ B :* (C :* D)) (B :* C :* D) refl
      ∙ ap (λ (x : K). x ⊗ f (suc n)) (sym (pow_suc R a n))

  -- the p-th power of a sum is the sum of the p-th powers
  pub frobenius : (p : ℕ) → Prime p → times R p 𝟙 ≡ 𝟘 → pow R (a ⊕ b) p ≡ pow R a p ⊕ pow R b p
  frobenius zero h z = absurd (omega (arith, h.two))
  frobenius (suc p) h z =
      binomial (suc p) ∙ expand_suc p _
      ∙ ap₂ ◌⊕◌
      (ap (λ (x : K). x ⊗ pow R b (suc p)) (ap (λ (j : ℕ). times R j 𝟙) (binom_none (suc p)) ∙ one) ∙ one_⊗ R _)
      (ap (λ (x : K). a ⊗ x) (expand_top p _ (λ k l. multiples_vanish R (suc p) _ z (prime_binom (suc p) (suc k) h (omega arith) (omega arith)))
      ∙ ap (λ (x : K). pow R a p ⊗ x) (ap (λ (j : ℕ). times R j 𝟙) (binom_all (suc p)) ∙ one) ∙ mul_one R _) ∙ sym (pow_suc R a p))
      ∙ add_comm R _ _
    where
      one : times R 1 𝟙 ≡ 𝟙
      one = times_suc R 0 𝟙 ∙ ap (λ (x : K). 𝟙 ⊕ x) (times_zero R 𝟙) ∙ add_zero R 𝟙

pub number_power_pos : (p j : ℕ) → 1 ≤ p → 1 ≤ p ^ j
number_power_pos p zero l = rw (pow-zero-ℕ p) (le_refl 1)
number_power_pos p (suc j) l = rw (pow-succ' p j) (mul-pos l (number_power_pos p j l))

module _ {K : Type 0} (R : Ring K) (p : ℕ) (h : Prime p) (z : times R p R.𝟙 ≡ R.𝟘) where
  infixl 65 ◌⊕◌
  infixl 70 ◌⊗◌
  open R use {𝟘, 𝟙, ◌⊕◌, ◌⊗◌, neg}

  -- powers by a power of p respect sums and opposites
  pub power_sum : (j : ℕ) (a b : K) → pow R (a ⊕ b) (p ^ j) ≡ pow R a (p ^ j) ⊕ pow R b (p ^ j)
  power_sum zero a b = rw (pow-zero-ℕ p) (pow_one R _ ∙ sym (ap₂ ◌⊕◌ (pow_one R a) (pow_one R b)))
  power_sum (suc j) a b =
      step (a ⊕ b) ∙ ap (λ (x : K). pow R x (p ^ j)) (frobenius R a b p h z) ∙ power_sum j (pow R a p) (pow R b p) ∙ sym (ap₂ ◌⊕◌ (step a) (step b))
    where
      step : (x : K) → pow R x (p ^ suc j) ≡ pow R (pow R x p) (p ^ j)
      step x = ap (pow R x) (pow-succ' p j) ∙ pow_mul R x p (p ^ j)

  pub power_neg : (j : ℕ) (a : K) → pow R (neg a) (p ^ j) ≡ neg (pow R a (p ^ j))
  power_neg j a = neg_unique R _ _ (sym (power_sum j a (neg a)) ∙ ap (λ (x : K). pow R x (p ^ j)) (add_neg R a) ∙ zero_pow_pos R (p ^ j) (number_power_pos p j (omega (arith, h.two))))
