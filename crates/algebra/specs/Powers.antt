-- Powers, multiples by numbers and products of lists in a ring; the characteristic of a ring; prime numbers.
use Rattle.std.specs.Prelude.{◌≡◌, ℕ, zero, suc, ◌*◌, ◌≤◌, ◌⊎◌, List, [], ◌∷◌}
use Rattle.algebra.specs.Ring.{Ring}

module _ {K : Type 0} (R : Ring K) where
  infixl 65 ◌⊕◌
  infixl 70 ◌⊗◌
  open R use {𝟘, 𝟙, ◌⊕◌, ◌⊗◌}

  unfoldable pub pow : K → ℕ → K
  pow a zero = 𝟙
  pow a (suc n) = a ⊗ pow a n

  -- the sum of n times a
  unfoldable pub times : ℕ → K → K
  times zero a = 𝟘
  times (suc n) a = a ⊕ times n a

  unfoldable pub prod : List K → K
  prod [] = 𝟙
  prod (x ∷ xs) = x ⊗ prod xs

module _ {K : Type 0} (R : Ring K) where
  -- p is the smallest positive number of ones that sum to zero
  pub record Characteristic (p : ℕ) : Type 0 where
    pub positive : 1 ≤ p
    pub vanishes : times R p R.𝟙 ≡ R.𝟘
    pub least : (n : ℕ) → 1 ≤ n → times R n R.𝟙 ≡ R.𝟘 → p ≤ n

-- p divides n
abbrev pub Divisor : ℕ → ℕ → Type 0
Divisor p n = (k : ℕ) × (n ≡ k * p)

-- a number of at least 2 that divides a product only if it divides a factor
pub record Prime (p : ℕ) : Type 0 where
  pub two : 2 ≤ p
  pub euclid : (m n : ℕ) → Divisor p (m * n) → Divisor p m ⊎ Divisor p n
