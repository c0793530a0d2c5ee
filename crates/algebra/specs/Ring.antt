-- Commutative rings with one, rings with a decided equality, and fields.
use Rattle.std.specs.Prelude.{◌≡◌, ◌≢◌}

-- A commutative ring with one on K.
pub record Ring (K : Type 0) : Type 0 where
  infixl 65 ◌⊕◌
  infixl 70 ◌⊗◌
  pub 𝟘 : K
  pub 𝟙 : K
  pub ◌⊕◌ : K → K → K
  pub ◌⊗◌ : K → K → K
  pub neg : K → K
  pub is_set : IsSet K
  pub ⊕_assoc : (a b c : K) → (a ⊕ b) ⊕ c ≡ a ⊕ (b ⊕ c)
  pub ⊕_comm : (a b : K) → a ⊕ b ≡ b ⊕ a
  pub ⊕_zero : (a : K) → a ⊕ 𝟘 ≡ a
  pub ⊕_neg : (a : K) → a ⊕ neg a ≡ 𝟘
  pub ⊗_assoc : (a b c : K) → (a ⊗ b) ⊗ c ≡ a ⊗ (b ⊗ c)
  pub ⊗_comm : (a b : K) → a ⊗ b ≡ b ⊗ a
  pub ⊗_one : (a : K) → a ⊗ 𝟙 ≡ a
  pub ⊗_dist : (a b c : K) → a ⊗ (b ⊕ c) ≡ a ⊗ b ⊕ a ⊗ c

-- What polynomials take their coefficients from: a ring in which equality is decided.
pub record Scalars (K : Type 0) : Type 0 where
  pub ring : Ring K
  pub dec : (a b : K) → Dec (a ≡ b)

-- Scalars are a field: one is not zero, and each scalar but zero has an inverse. What inv gives for zero is left open.
pub record Field {K : Type 0} (S : Scalars K) : Type 0 where
  pub inv : K → K
  pub inverse : (a : K) → (a ≢ S.ring.𝟘) → S.ring.◌⊗◌ (inv a) a ≡ S.ring.𝟙
  pub apart : S.ring.𝟙 ≡ S.ring.𝟘 → ⊥
