-- The laws of residues, prime fields and quotients that are not refused.
-- Main statements: residues_made, prime_made, in_range, quotient_made, reduces_made; passed, first_none, second_none.
use Rattle.std.specs.Prelude.{◌≡◌, ℕ, ◌^◌, ◌<◌, ◌≤◌, Bool, true, false, Some, None, Option, nat_le, nat_lt, refl}
use Rattle.std.proofs.Common.{subst, arith, leb-true, ltb-true}
use Rattle.field.specs.declared.fault.FieldFault.{FieldFault}
use Rattle.field.specs.declared.fault.FieldFault.TheVariants.{Modulus, NotPrime, Height, Order, Number}
use Rattle.field.specs.Checks.{unless, between, ◌or_else◌}
use Rattle.field.specs.Ring.{RingMeaning, RingLaws, greatest_order}
use Rattle.field.specs.Field.{FieldLaws}
use Rattle.field.specs.Residues.{residues, is_prime, prime_field}
use Rattle.field.specs.Quotient.{least_height, greatest_height, quotient_ring, Reduces}
use Rattle.field.specs.Faults.{residues_refusal, prime_refusal, quotient_refusal}
use Rattle.field.specs.Tests.{both_left, both_right}
use Rattle.field.specs.ResidueRings.{residues_laws}
use Rattle.field.specs.PrimeFields.{prime_field_laws}
use Rattle.field.specs.QuotientRings.{quotient_laws, quotient_reduces}

-- a refusal where there is none
abbrev pub Refused : {A : Type 0} → Option A → Type 0
Refused (Some a) = Unit {0}
Refused None = ⊥

pub some_none : {A : Type 0} {a : A} → ◌≡◌ {A = Option A} (Some a) None → ⊥
some_none {A} e = subst (Refused {A = A}) e tt

pub passed : {A : Type 0} (t : Bool) (a : A) → unless t a ≡ None → t ≡ true
passed true a e = refl
passed false a e = absurd (some_none e)

pub first_none : {A : Type 0} (o p : Option A) → (o or_else p) ≡ None → o ≡ None
first_none None p e = refl
first_none (Some a) p e = absurd (some_none e)

pub second_none : {A : Type 0} (o p : Option A) → (o or_else p) ≡ None → p ≡ None
second_none None p e = e
second_none (Some a) p e = absurd (some_none e)

pub residues_made : (n : ℕ) → residues_refusal n ≡ None → RingLaws (residues n)
residues_made n e = residues_laws n (leb-true 2 n (both_left (nat_le 2 n) (nat_le n 256) t)) (leb-true n 256 (both_right (nat_le 2 n) (nat_le n 256) t))
  where
    t : between 2 256 n ≡ true
    t = passed (between 2 256 n) Modulus e

pub prime_made : (p : ℕ) → prime_refusal p ≡ None → FieldLaws (prime_field p)
prime_made p e = prime_field_laws p (passed (is_prime p) NotPrime (second_none (residues_refusal p) (unless (is_prime p) NotPrime) e))
    (leb-true p 256 (both_right (nat_le 2 p) (nat_le p 256) (passed (between 2 256 p) Modulus (first_none (residues_refusal p) (unless (is_prime p) NotPrime) e))))

-- what a quotient that is not refused says of its numbers
pub record InRange (r : RingMeaning) (k n : ℕ) : Type 0 where
  pub low : least_height ≤ k
  pub top : k ≤ greatest_height
  pub high : r.order ^ k ≤ greatest_order
  pub code : n < r.order ^ k

pub in_range : (r : RingMeaning) (k n : ℕ) → quotient_refusal r k n ≡ None → InRange r k n
in_range r k n e = record {
  low = leb-true least_height k (both_left (nat_le least_height k) (nat_le k greatest_height) height);
  top = leb-true k greatest_height (both_right (nat_le least_height k) (nat_le k greatest_height) height);
  high = leb-true (r.order ^ k) greatest_order (passed (nat_le (r.order ^ k) greatest_order) Order (first_none order number rest));
  code = ltb-true n (r.order ^ k) (passed (nat_lt n (r.order ^ k)) Number (second_none order number rest));
}
  where
    order : Option FieldFault
    order = unless (nat_le (r.order ^ k) greatest_order) Order

    number : Option FieldFault
    number = unless (nat_lt n (r.order ^ k)) Number

    height : between least_height greatest_height k ≡ true
    height = passed (between least_height greatest_height k) Height (first_none (unless (between least_height greatest_height k) Height) (order or_else number) e)

    rest : (order or_else number) ≡ None
    rest = second_none (unless (between least_height greatest_height k) Height) (order or_else number) e

pub quotient_made : (r : RingMeaning) → RingLaws r → (k n : ℕ) → quotient_refusal r k n ≡ None → RingLaws (quotient_ring r k n)
quotient_made r L k n e = let i = in_range r k n e in quotient_laws r L k n (omega (arith, i.low)) i.high

pub reduces_made : (r : RingMeaning) → RingLaws r → (k n : ℕ) → quotient_refusal r k n ≡ None → Reduces r k n
reduces_made r L k n e = let i = in_range r k n e in quotient_reduces r L k n (omega (arith, i.low))
