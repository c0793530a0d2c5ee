-- Finite fields.
use Rattle.std.specs.Prelude.{◌≡◌, ℕ, ◌^◌}
use Rattle.algebra.specs.Ring.{Scalars, Field}
use Rattle.algebra.specs.Powers.{Characteristic}
use Rattle.algebra.specs.Lists.{Listing}

-- A field of q elements, each of them listed: p is its characteristic, and q is the j-th power of p.
pub record FiniteField {K : Type 0} (S : Scalars K) : Type 0 where
  pub field : Field S
  pub p : ℕ
  pub j : ℕ
  pub q : ℕ
  pub characteristic : Characteristic S.ring p
  pub order : q ≡ p ^ j
  pub listing : Listing K q
