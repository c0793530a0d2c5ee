-- Why no ring or field is made, in the order of checking.
use Rattle.std.specs.Prelude.{◌≡◌, ℕ, ◌^◌, Some, None, Ok, Err, Option, Result, nat_le, nat_lt}
use Rattle.field.specs.declared.fault.FieldFault.{FieldFault}
use Rattle.field.specs.declared.fault.FieldFault.TheVariants.{Modulus, NotPrime, Height, Order, Number, ModulusSplits}
use Rattle.field.specs.Checks.{unless, between, ◌or_else◌}
use Rattle.field.specs.Ring.{RingMeaning, RingLaws, greatest_order}
use Rattle.field.specs.Field.{FieldLaws}
use Rattle.field.specs.Residues.{least_modulus, greatest_modulus, is_prime, prime_field}
use Rattle.field.specs.Quotient.{least_height, greatest_height, Reduces}

abbrev pub field_number : FieldFault → ℕ
field_number Modulus = 1
field_number NotPrime = 2
field_number Height = 3
field_number Order = 4
field_number Number = 5
field_number ModulusSplits = 6

-- faults of rings and fields are of the first layer
abbrev pub field_layer : FieldFault → ℕ
field_layer e = 1

-- and none of them has an index
abbrev pub field_index : FieldFault → ℕ
field_index e = 0

-- 1 unless n is 2 to 256
abbrev pub residues_refusal : ℕ → Option FieldFault
residues_refusal n = unless (between least_modulus greatest_modulus n) Modulus

-- then 2 unless n is prime
abbrev pub prime_refusal : ℕ → Option FieldFault
prime_refusal n = residues_refusal n or_else unless (is_prime n) NotPrime

-- of the quotient of a ring, and of an extension before its modulus is judged: 3 unless k is 2 to 16, then 4 unless its order is at
-- most 65,536, then 5 unless n is below that order
abbrev pub quotient_refusal : RingMeaning → ℕ → ℕ → Option FieldFault
quotient_refusal r k n =
    unless (between least_height greatest_height k) Height
    or_else unless (nat_le (r.order ^ k) greatest_order) Order
    or_else unless (nat_lt n (r.order ^ k)) Number

-- A prime field that is well made: its modulus is not refused. So it has the field laws.
pub record PrimeMade (n : ℕ) : Type 0 where
  pub taken : prime_refusal n ≡ None
  pub laws : FieldLaws (prime_field n)

-- A quotient that is well made: its base is, and k and n are not refused.
pub record QuotientMade (base_made : Type 0) (r : RingMeaning) (k n : ℕ) : Type 0 where
  pub base : base_made
  pub in_range : quotient_refusal r k n ≡ None

-- the product of codes of every quotient that is not refused, in the subject's words
abbrev pub Reduction : Type 0
Reduction = (r : RingMeaning) → RingLaws r → (k n : ℕ) → quotient_refusal r k n ≡ None → Reduces r k n

-- a making answers its refusal, or, where there is none, something of which `Is` holds
abbrev pub Makes : {A : Type 0} → Option FieldFault → (A → Type 0) → Result A FieldFault → Type 0
Makes refusal Is (Ok x) = (refusal ≡ None) × Is x
Makes refusal Is (Err e) = refusal ≡ Some e
