-- What each call on polynomials answers, and what the caller's buffers then hold.
use Rattle.std.specs.Prelude.{◌≡◌, ℕ, ◌<◌, ◌≤◌, ◌⊎◌, List, ◌++◌, length, drop, Some, None, Ok, Err, Option, Result, ◌≢◌}
use Rattle.field.specs.Ring.{RingMeaning}
use Rattle.field.specs.Field.{FieldMeaning, FieldLaws}
use Rattle.field.specs.Polynomial.{sum, product, derivative, value, zero_polynomial, Canonical, IsDivision, IsCommonDivisor}
use Rattle.poly.specs.declared.fault.PolyFault.{PolyFault}
use Rattle.poly.specs.declared.fault.PolyFault.TheVariants.{Short}
use Rattle.poly.specs.Faults.{operand_refusal, operands_refusal, factors_refusal, division_refusal, point_refusal}

-- a check answers its refusal, or, where there is none, nothing more
abbrev pub Passes : {A : Type 0} → Option PolyFault → Result A PolyFault → Type 0
Passes refusal (Ok x) = refusal ≡ None
Passes refusal (Err e) = refusal ≡ Some e

-- a buffer with a result from index 0 on, the rest as before
abbrev pub written : List ℕ → List ℕ → List ℕ
written r buffer = r ++ drop (length r) buffer

-- A call that puts one polynomial, the one for which `Is` holds, into a buffer. `refusal` is what its operands get.
-- The answer is the length. The buffer is refused if it is shorter than the result, and any refusal leaves it as it was.
abbrev pub Writes : Option PolyFault → (List ℕ → Type 0) → List ℕ → Result ℕ PolyFault → List ℕ → Type 0
Writes (Some e) Is before (Ok n) after = ⊥
Writes (Some e) Is before (Err a) after = (a ≡ e) × (after ≡ before)
Writes None Is before (Ok n) after = (r : List ℕ) × Is r × (length r ≤ length before) × (n ≡ length r) × (after ≡ written r before)
Writes None Is before (Err a) after = (r : List ℕ) × Is r × (length before < length r) × (a ≡ Short) × (after ≡ before)

abbrev pub Sums : RingMeaning → List ℕ → List ℕ → List ℕ → Result ℕ PolyFault → List ℕ → Type 0
Sums m f g = Writes (operands_refusal m f g) (λ r. r ≡ sum m f g)

abbrev pub Multiplies : RingMeaning → List ℕ → List ℕ → List ℕ → Result ℕ PolyFault → List ℕ → Type 0
Multiplies m f g = Writes (factors_refusal m f g) (λ r. r ≡ product m f g)

abbrev pub Derives : RingMeaning → List ℕ → List ℕ → Result ℕ PolyFault → List ℕ → Type 0
Derives m f = Writes (operand_refusal m f) (λ r. r ≡ derivative m f)

-- the answer of a call that gives a code
abbrev pub gives : Option PolyFault → ℕ → Result ℕ PolyFault
gives (Some e) a = Err e
gives None a = Ok a

abbrev pub evaluates : RingMeaning → List ℕ → ℕ → Result ℕ PolyFault
evaluates m f x = gives (point_refusal m f x) (value m f x)

abbrev pub CommonDivisor : RingMeaning → List ℕ → List ℕ → List ℕ → Result ℕ PolyFault → List ℕ → Type 0
CommonDivisor m f g = Writes (operands_refusal m f g) (IsCommonDivisor m f g)

-- the two buffers of a division
pub record Buffers : Type 0 where
  pub quotient : List ℕ
  pub remainder : List ℕ

-- A call that puts two polynomials, for which `Are` holds, into two buffers. The answer is their lengths. A buffer is refused if it
-- is shorter than its result, and any refusal leaves both as they were.
abbrev pub WritesBoth : Option PolyFault → (List ℕ → List ℕ → Type 0) → Buffers → Result (ℕ × ℕ) PolyFault → Buffers → Type 0
WritesBoth (Some e) Are before (Ok n) after = ⊥
WritesBoth (Some e) Are before (Err a) after = (a ≡ e) × (after ≡ before)
WritesBoth None Are before (Ok n) after =
    (q : List ℕ) × (r : List ℕ) × Are q r × (length q ≤ length before.quotient) × (length r ≤ length before.remainder)
    × (n.0 ≡ length q) × (n.1 ≡ length r) × (after.quotient ≡ written q before.quotient) × (after.remainder ≡ written r before.remainder)
WritesBoth None Are before (Err a) after =
    (q : List ℕ) × (r : List ℕ) × Are q r × ((length before.quotient < length q) ⊎ (length before.remainder < length r)) × (a ≡ Short) × (after ≡ before)

abbrev pub Division : RingMeaning → List ℕ → List ℕ → Buffers → Result (ℕ × ℕ) PolyFault → Buffers → Type 0
Division m f g = WritesBoth (division_refusal m f g) (IsDivision m f g)

-- P holds of one value and of no other
pub record ExactlyOne {A : Type 0} (P : A → Type 0) : Type 0 where
  pub some : (x : A) × P x
  pub same : (x y : A) → P x → P y → x ≡ y

-- over every field, by every polynomial but zero: one quotient with one remainder
abbrev pub OneDivision : Type 0
OneDivision =
    (F : FieldMeaning) → FieldLaws F → (f g : List ℕ) → Canonical F.ring f → Canonical F.ring g → (g ≢ zero_polynomial) →
    ExactlyOne (λ (p : Buffers). IsDivision F.ring f g p.quotient p.remainder)

-- over every field: one greatest common divisor, also of zeros
abbrev pub OneCommonDivisor : Type 0
OneCommonDivisor = (F : FieldMeaning) → FieldLaws F → (f g : List ℕ) → Canonical F.ring f → Canonical F.ring g → ExactlyOne (IsCommonDivisor F.ring f g)
