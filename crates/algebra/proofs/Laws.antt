-- Laws that follow from those of a commutative ring, and the lists of them for simp.
-- Main statements: cancel, dist_⊗, zero_⊗, neg_⊗, neg_unique, eq_of_diff, ⊕_left_comm, ⊗_left_comm, ac, ring_simp.
use Rattle.std.proofs.Common.{◌≡◌, sym, ap, ◌∙◌}
use Rattle.algebra.specs.Ring.{Ring}

module _ {K : Type 0} (R : Ring K) where
  infixl 65 ◌⊕◌
  infixl 70 ◌⊗◌
  open R use {𝟘, 𝟙, ◌⊕◌, ◌⊗◌, neg, ⊕_assoc, ⊕_comm, ⊕_zero, ⊕_neg, ⊗_assoc, ⊗_comm, ⊗_one, ⊗_dist}

  pub zero_⊕ : (a : K) → 𝟘 ⊕ a ≡ a
  zero_⊕ a = ⊕_comm 𝟘 a ∙ ⊕_zero a

  pub one_⊗ : (a : K) → 𝟙 ⊗ a ≡ a
  one_⊗ a = ⊗_comm 𝟙 a ∙ ⊗_one a

  pub neg_⊕ : (a : K) → neg a ⊕ a ≡ 𝟘
  neg_⊕ a = ⊕_comm (neg a) a ∙ ⊕_neg a

  pub ⊕_left_comm : (a b c : K) → a ⊕ (b ⊕ c) ≡ b ⊕ (a ⊕ c)
  ⊕_left_comm a b c = sym (⊕_assoc a b c) ∙ ap (λ (x : K). x ⊕ c) (⊕_comm a b) ∙ ⊕_assoc b a c

  pub ⊗_left_comm : (a b c : K) → a ⊗ (b ⊗ c) ≡ b ⊗ (a ⊗ c)
  ⊗_left_comm a b c = sym (⊗_assoc a b c) ∙ ap (λ (x : K). x ⊗ c) (⊗_comm a b) ∙ ⊗_assoc b a c

  pub dist_⊗ : (a b c : K) → (a ⊕ b) ⊗ c ≡ a ⊗ c ⊕ b ⊗ c
  dist_⊗ a b c = rw (⊗_comm (a ⊕ b) c, ⊗_dist, ⊗_comm c a, ⊗_comm c b)

  pub neg_cancel : (a b : K) → neg a ⊕ (a ⊕ b) ≡ b
  neg_cancel a b = sym (⊕_assoc (neg a) a b) ∙ ap (λ (x : K). x ⊕ b) (neg_⊕ a) ∙ zero_⊕ b

  pub cancel_neg : (a b : K) → a ⊕ (neg a ⊕ b) ≡ b
  cancel_neg a b = sym (⊕_assoc a (neg a) b) ∙ ap (λ (x : K). x ⊕ b) (⊕_neg a) ∙ zero_⊕ b

  pub cancel : (a b c : K) → a ⊕ b ≡ a ⊕ c → b ≡ c
  cancel a b c e = sym (neg_cancel a b) ∙ ap (λ (x : K). neg a ⊕ x) e ∙ neg_cancel a c

  pub ⊗_zero : (a : K) → a ⊗ 𝟘 ≡ 𝟘
  ⊗_zero a = cancel (a ⊗ 𝟘) (a ⊗ 𝟘) 𝟘 (sym (⊗_dist a 𝟘 𝟘) ∙ ap (λ (x : K). a ⊗ x) (⊕_zero 𝟘) ∙ sym (⊕_zero (a ⊗ 𝟘)))

  pub zero_⊗ : (a : K) → 𝟘 ⊗ a ≡ 𝟘
  zero_⊗ a = ⊗_comm 𝟘 a ∙ ⊗_zero a

  -- the opposite is the one element that sums to zero
  pub neg_unique : (a b : K) → a ⊕ b ≡ 𝟘 → b ≡ neg a
  neg_unique a b e = cancel a b (neg a) (e ∙ sym (⊕_neg a))

  pub neg_neg : (a : K) → neg (neg a) ≡ a
  neg_neg a = sym (neg_unique (neg a) a (neg_⊕ a))

  pub neg_zero : neg 𝟘 ≡ 𝟘
  neg_zero = sym (neg_unique 𝟘 𝟘 (⊕_zero 𝟘))

  pub neg_sum : (a b : K) → neg (a ⊕ b) ≡ neg a ⊕ neg b
  neg_sum a b = sym (neg_unique (a ⊕ b) (neg a ⊕ neg b) (simp (⊕_assoc, ⊕_left_comm b (neg a) (neg b), ⊕_neg, ⊕_zero)))

  pub neg_⊗ : (a b : K) → neg a ⊗ b ≡ neg (a ⊗ b)
  neg_⊗ a b = neg_unique (a ⊗ b) (neg a ⊗ b) (sym (dist_⊗ a (neg a) b) ∙ simp (⊕_neg, zero_⊗))

  pub ⊗_neg : (a b : K) → a ⊗ neg b ≡ neg (a ⊗ b)
  ⊗_neg a b = ⊗_comm a (neg b) ∙ neg_⊗ b a ∙ ap neg (⊗_comm b a)

  -- what differs by zero is equal
  pub eq_of_diff : (a b : K) → a ⊕ neg b ≡ 𝟘 → a ≡ b
  eq_of_diff a b e = neg_unique (neg b) a (⊕_comm (neg b) a ∙ e) ∙ neg_neg b

  -- the laws of the structure, under names of their own for simp and rw
  pub add_assoc : (a b c : K) → (a ⊕ b) ⊕ c ≡ a ⊕ (b ⊕ c)
  add_assoc = ⊕_assoc

  pub add_comm : (a b : K) → a ⊕ b ≡ b ⊕ a
  add_comm = ⊕_comm

  pub mul_assoc : (a b c : K) → (a ⊗ b) ⊗ c ≡ a ⊗ (b ⊗ c)
  mul_assoc = ⊗_assoc

  pub mul_comm : (a b : K) → a ⊗ b ≡ b ⊗ a
  mul_comm = ⊗_comm

  pub mul_add : (a b c : K) → a ⊗ (b ⊕ c) ≡ a ⊗ b ⊕ a ⊗ c
  mul_add = ⊗_dist

  pub add_zero : (a : K) → a ⊕ 𝟘 ≡ a
  add_zero = ⊕_zero

  pub mul_one : (a : K) → a ⊗ 𝟙 ≡ a
  mul_one = ⊗_one

  pub add_neg : (a : K) → a ⊕ neg a ≡ 𝟘
  add_neg = ⊕_neg

-- for simp: the order and grouping of sums and products
pub ruleset ac = (add_assoc, add_comm, ⊕_left_comm, mul_assoc, mul_comm, ⊗_left_comm)

-- for simp: multiplies out, and drops zeros, ones and opposites that cancel
pub ruleset ring_simp = (mul_add, dist_⊗, neg_sum, neg_⊗, ⊗_neg, neg_neg, neg_zero, add_zero, zero_⊕, mul_one, one_⊗, ⊗_zero, zero_⊗, add_neg, neg_⊕, neg_cancel, cancel_neg, ac)
