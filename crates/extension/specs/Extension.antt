-- When the extension of a field F by t^k plus the polynomial of n is made: the splitting method is tried on this modulus.
use Rattle.std.specs.Prelude.{◌≡◌, ℕ, ◌<◌, ◌↔◌, List, Some, None, Ok, Err, Option, Result, ◌≢◌}
use Rattle.field.specs.declared.fault.FieldFault.{FieldFault}
use Rattle.field.specs.declared.fault.FieldFault.TheVariants.{ModulusSplits}
use Rattle.field.specs.Ring.{RingMeaning}
use Rattle.field.specs.Field.{FieldMeaning, FieldLaws}
use Rattle.field.specs.Polynomial.{degree, Splits}
use Rattle.field.specs.Quotient.{modulus, extension_field}
use Rattle.field.specs.Faults.{quotient_refusal}
use Rattle.split.specs.Splitting.{Splitting, whole, SplitsInto}

-- what a request in range with the modulus f gets: it is made if f stays whole, and refused with 6 if f splits in another way
abbrev pub Judged : FieldMeaning → List ℕ → Option FieldFault → Type 0
Judged F f None = SplitsInto F f whole
Judged F f (Some e) = (e ≡ ModulusSplits) × ((s : Splitting) × SplitsInto F f s × (s ≢ whole))

-- the refusal of the range, if there is one, and else what `Then` says
abbrev pub Ranged : Option FieldFault → (Option FieldFault → Type 0) → Option FieldFault → Type 0
Ranged None Then refusal = Then refusal
Ranged (Some e) Then refusal = refusal ≡ Some e

-- The refusal that a request for the extension of F by t^k plus the polynomial of n gets, or none, where it is made: first the range
-- of k and n is checked, then the modulus is judged.
abbrev pub Extends : FieldMeaning → ℕ → ℕ → Option FieldFault → Type 0
Extends F k n = Ranged (quotient_refusal F.ring k n) (Judged F (modulus F.ring k n))

-- An extension that is well made: its base is, with the field laws, and the request for it is not refused.
pub record ExtensionMade (base_made : Type 0) (F : FieldMeaning) (k n : ℕ) : Type 0 where
  pub base : base_made
  pub laws : FieldLaws F
  pub taken : Extends F k n None

-- the making of an extension: it is answered why there is none, or, where there is one, something of which `Is` holds
abbrev pub Extended : {A : Type 0} → FieldMeaning → ℕ → ℕ → (A → Type 0) → Result A FieldFault → Type 0
Extended F k n Is (Ok x) = Extends F k n None × Is x
Extended F k n Is (Err e) = Extends F k n (Some e)

-- two polynomials of positive degree, each of smaller degree than f, multiply to f
pub record SplitsLower (m : RingMeaning) (f : List ℕ) : Type 0 where
  pub splits : Splits m f
  pub left_lower : degree splits.left < degree f
  pub right_lower : degree splits.right < degree f

-- Over every field, a request in range is refused with 6 exactly if its modulus is a product of two polynomials of smaller positive
-- degree, and made exactly if it is none.
abbrev pub ExtensionsJudged : Type 0
ExtensionsJudged =
    (F : FieldMeaning) → FieldLaws F → (k n : ℕ) → quotient_refusal F.ring k n ≡ None → (refusal : Option FieldFault) → Extends F k n refusal →
    ((refusal ≡ Some ModulusSplits) ↔ SplitsLower F.ring (modulus F.ring k n)) × ((refusal ≡ None) ↔ (SplitsLower F.ring (modulus F.ring k n) → ⊥))

-- Over every field, an extension that is made has the field laws.
abbrev pub ExtensionsAreFields : Type 0
ExtensionsAreFields = (F : FieldMeaning) → FieldLaws F → (k n : ℕ) → Extends F k n None → FieldLaws (extension_field F k n)
