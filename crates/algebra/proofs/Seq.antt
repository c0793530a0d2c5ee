-- Sequences over a ring, with the product of polynomials, are a ring.
-- Main statements: tail, mul, Seqs, sum_at, neg_at, prod_at_zero, prod_at_suc, at.
use Rattle.std.proofs.Common.{◌≡◌, ℕ, zero, suc, refl, ◌∙◌}
use mathlib.Core.Path.{fun_ext}
use mathlib.Core.HLevel.{→_set}
use Rattle.algebra.specs.Ring.{Ring}
use Rattle.algebra.proofs.Laws.{one_⊗, zero_⊗, add_assoc, add_comm, mul_assoc, mul_comm, mul_add, dist_⊗, add_zero, add_neg, ac}

-- the sequence from its second element on
abbrev pub tail : {K : Type 0} → (ℕ → K) → ℕ → K
tail f i = f (suc i)

module _ {K : Type 0} (R : Ring K) where
  infixl 65 ◌⊕◌
  infixl 70 ◌⊗◌
  open R use {𝟘, 𝟙, ◌⊕◌, ◌⊗◌, neg, is_set}

  abbrev pub nil : ℕ → K
  nil i = 𝟘

  abbrev pub one : ℕ → K
  one zero = 𝟙
  one (suc i) = 𝟘

  abbrev pub sum : (ℕ → K) → (ℕ → K) → ℕ → K
  sum f g i = f i ⊕ g i

  abbrev pub opp : (ℕ → K) → ℕ → K
  opp f i = neg (f i)

  abbrev pub scale : K → (ℕ → K) → ℕ → K
  scale c f i = c ⊗ f i

  -- at n the sum of f i times g (n - i)
  pub mul : (ℕ → K) → (ℕ → K) → ℕ → K
  mul f g zero = f 0 ⊗ g 0
  mul f g (suc n) = f 0 ⊗ g (suc n) ⊕ mul (tail f) g n

  pub mul_at_zero : (f g : ℕ → K) → mul f g 0 ≡ f 0 ⊗ g 0
  unfolding mul
  mul_at_zero f g = refl

  pub mul_at_suc : (f g : ℕ → K) (n : ℕ) → mul f g (suc n) ≡ f 0 ⊗ g (suc n) ⊕ mul (tail f) g n
  unfolding mul
  mul_at_suc f g n = refl

  mul_sum : (f g h : ℕ → K) (n : ℕ) → mul f (sum g h) n ≡ mul f g n ⊕ mul f h n
  mul_sum f g h zero = simp (mul_at_zero, mul_add)
  mul_sum f g h (suc n) = simp (mul_at_suc, mul_sum (tail f) g h n, mul_add, ac)

  sum_mul : (f g h : ℕ → K) (n : ℕ) → mul (sum f g) h n ≡ mul f h n ⊕ mul g h n
  sum_mul f g h zero = simp (mul_at_zero, dist_⊗)
  sum_mul f g h (suc n) = simp (mul_at_suc, sum_mul (tail f) (tail g) h n, dist_⊗, ac)

  scale_mul : (c : K) (f g : ℕ → K) (n : ℕ) → mul (scale c f) g n ≡ c ⊗ mul f g n
  scale_mul c f g zero = simp (mul_at_zero, mul_assoc)
  scale_mul c f g (suc n) = simp (mul_at_suc, scale_mul c (tail f) g n, mul_add, mul_assoc)

  nil_mul : (g : ℕ → K) (n : ℕ) → mul nil g n ≡ 𝟘
  nil_mul g zero = simp (mul_at_zero, zero_⊗)
  nil_mul g (suc n) = simp (mul_at_suc, nil_mul g n, zero_⊗, add_zero)

  -- the other recursion: the last factor's constant split off
  mul_last : (f g : ℕ → K) (n : ℕ) → mul f g (suc n) ≡ mul f (tail g) n ⊕ f (suc n) ⊗ g 0
  mul_last f g zero = rw (mul_at_suc f g 0) (simp mul_at_zero)
  mul_last f g (suc n) = rw (mul_at_suc f g (suc n), mul_last (tail f) g n, mul_at_suc f (tail g) n, add_assoc)

  mul_comm_at : (f g : ℕ → K) (n : ℕ) → mul f g n ≡ mul g f n
  mul_comm_at f g zero = simp (mul_at_zero, mul_comm)
  mul_comm_at f g (suc n) = rw (mul_last g f n, mul_at_suc f g n, mul_comm_at (tail f) g n) (simp ac)

  tail_mul : (f g : ℕ → K) → tail (mul f g) ≡ sum (scale (f 0) (tail g)) (mul (tail f) g)
  tail_mul f g = fun_ext (mul_at_suc f g)

  mul_assoc_at : (f g h : ℕ → K) (n : ℕ) → mul (mul f g) h n ≡ mul f (mul g h) n
  mul_assoc_at f g h zero = simp (mul_at_zero, mul_assoc)
  mul_assoc_at f g h (suc n) =
      rw (mul_at_suc (mul f g) h n, tail_mul f g, sum_mul _ _ h n, scale_mul (f 0) (tail g) h n, mul_assoc_at (tail f) g h n)
      (simp (mul_at_suc, mul_at_zero, mul_add, mul_assoc, add_assoc))

  one_mul : (g : ℕ → K) (n : ℕ) → mul one g n ≡ g n
  one_mul g zero = simp (mul_at_zero, one_⊗)
  one_mul g (suc n) = simp (mul_at_suc, nil_mul g n, one_⊗, add_zero)

  -- the ring of sequences
  pub Seqs : Ring (ℕ → K)
  Seqs = record {
    𝟘 = nil;
    𝟙 = one;
    ◌⊕◌ = sum;
    ◌⊗◌ = mul;
    neg = opp;
    is_set = →_set is_set;
    ⊕_assoc = λ f g h. fun_ext (λ i. add_assoc R (f i) (g i) (h i));
    ⊕_comm = λ f g. fun_ext (λ i. add_comm R (f i) (g i));
    ⊕_zero = λ f. fun_ext (λ i. add_zero R (f i));
    ⊕_neg = λ f. fun_ext (λ i. add_neg R (f i));
    ⊗_assoc = λ f g h. fun_ext (mul_assoc_at f g h);
    ⊗_comm = λ f g. fun_ext (mul_comm_at f g);
    ⊗_one = λ f. fun_ext (λ n. mul_comm_at f one n ∙ one_mul f n);
    ⊗_dist = λ f g h. fun_ext (mul_sum f g h);
  }

  -- its operations, element by element
  pub zero_at : (i : ℕ) → Seqs.𝟘 i ≡ 𝟘
  unfolding Seqs
  zero_at i = refl

  pub one_at_zero : Seqs.𝟙 0 ≡ 𝟙
  unfolding Seqs
  one_at_zero = refl

  pub one_at_suc : (i : ℕ) → Seqs.𝟙 (suc i) ≡ 𝟘
  unfolding Seqs
  one_at_suc i = refl

  pub sum_at : (f g : ℕ → K) (i : ℕ) → Seqs.◌⊕◌ f g i ≡ f i ⊕ g i
  unfolding Seqs
  sum_at f g i = refl

  pub neg_at : (f : ℕ → K) (i : ℕ) → Seqs.neg f i ≡ neg (f i)
  unfolding Seqs
  neg_at f i = refl

  pub prod_at_zero : (f g : ℕ → K) → Seqs.◌⊗◌ f g 0 ≡ f 0 ⊗ g 0
  unfolding Seqs mul
  prod_at_zero f g = refl

  pub prod_at_suc : (f g : ℕ → K) (n : ℕ) → Seqs.◌⊗◌ f g (suc n) ≡ f 0 ⊗ g (suc n) ⊕ Seqs.◌⊗◌ (tail f) g n
  unfolding Seqs mul
  prod_at_suc f g n = refl

-- for simp: all of them
pub ruleset at = (zero_at, one_at_zero, one_at_suc, sum_at, neg_at, prod_at_zero, prod_at_suc)
