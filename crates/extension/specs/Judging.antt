-- An extension is refused for its modulus exactly where that is a product of two polynomials of smaller positive degree, and one that is
-- made has the field laws.
-- Main statements: extensions_judged, extensions_are_fields, range_refused, range_judged, range_taken, made_laws, made_range.
use Rattle.std.specs.Prelude.{◌≡◌, ℕ, ◌≤◌, ◌↔◌, List, Some, None, Option, refl}
use Rattle.std.proofs.Common.{sym, ap, subst, inl, inr, arith}
use Rattle.field.specs.declared.fault.FieldFault.{FieldFault}
use Rattle.field.specs.declared.fault.FieldFault.TheVariants.{ModulusSplits}
use Rattle.field.specs.Field.{FieldMeaning, FieldLaws}
use Rattle.field.specs.Polynomial.{degree, Splits}
use Rattle.field.specs.Quotient.{modulus, extension_field}
use Rattle.field.specs.Faults.{quotient_refusal}
use Rattle.field.specs.Ranges.{InRange, in_range, some_none}
use Rattle.field.specs.Quotients.{modulus_length}
use Rattle.field.proofs.Extensions.{extension_laws, part_degrees}
use Rattle.split.specs.Splitting.{whole, SplitsInto}
use Rattle.split.proofs.WholeSplitting.{whole_or_splits, whole_unsplittable}
use Rattle.split.specs.Calls.{Taken}
use Rattle.extension.specs.Moduli.{modulus_taken}
use Rattle.extension.specs.Extension.{Judged, Ranged, Extends, ExtensionMade, SplitsLower, ExtensionsJudged, ExtensionsAreFields}

module _ (F : FieldMeaning) (L : FieldLaws F) (k n : ℕ) (g : InRange F.ring k n) where
  some : 1 ≤ k
  some = omega (arith, g.low)

  abbrev f : List ℕ
  f = modulus F.ring k n

  taken : Taken F.ring f
  taken = modulus_taken F.ring L.ring k n g

  degree_is : degree f ≡ k
  degree_is = omega (arith, modulus_length F.ring L.ring k n some)

  -- over a field the degrees add up, so that each part has a smaller one
  lower : Splits F.ring f → SplitsLower F.ring f
  lower s = record {
    splits = s;
    left_lower = omega (arith, part_degrees F L k n some s, s.right_positive, degree_is);
    right_lower = omega (arith, part_degrees F L k n some s, s.left_positive, degree_is);
  }

  unsplit : SplitsInto F f whole → Splits F.ring f → ⊥
  unsplit w = (whole_unsplittable F L f taken.canonical taken.monic taken.positive).0 w

  judged : (a : Option FieldFault) → Judged F f a → ((a ≡ Some ModulusSplits) ↔ SplitsLower F.ring f) × ((a ≡ None) ↔ (SplitsLower F.ring f → ⊥))
  judged None w = ((λ e. absurd (some_none (sym e)), λ s. absurd (unsplit w s.splits)), (λ _ s. unsplit w s.splits, λ _. refl))
  judged (Some e) (q, (s, w, other)) = ((λ _. split, λ _. ap {B = Option FieldFault} Some q), (λ x. absurd (some_none x), λ h. absurd (h split)))
    where
      split : SplitsLower F.ring f
      split = elim (whole_or_splits F L f taken.canonical taken.monic taken.positive s w) [ inl x ↦ absurd (other x) | inr x ↦ lower x ]

  made_field : Judged F f None → FieldLaws (extension_field F k n)
  made_field w = extension_laws F L k n some g.high (unsplit w)

-- a request out of range gets that refusal, and one in range what its modulus gets
pub range_refused : (F : FieldMeaning) (k n : ℕ) (e : FieldFault) → quotient_refusal F.ring k n ≡ Some e → Extends F k n (Some e)
range_refused F k n e h = subst (λ (o : Option FieldFault). Ranged o (Judged F (modulus F.ring k n)) (Some e)) (sym h) refl

pub range_judged : (F : FieldMeaning) (k n : ℕ) (a : Option FieldFault) → quotient_refusal F.ring k n ≡ None → Judged F (modulus F.ring k n) a → Extends F k n a
range_judged F k n a h j = subst (λ (o : Option FieldFault). Ranged o (Judged F (modulus F.ring k n)) a) (sym h) j

-- a request that is made is in range
pub range_taken : (F : FieldMeaning) (k n : ℕ) → Extends F k n None → quotient_refusal F.ring k n ≡ None
range_taken F k n x = go (quotient_refusal F.ring k n) x
  where
    go : (o : Option FieldFault) → Ranged o (Judged F (modulus F.ring k n)) None → o ≡ None
    go None y = refl
    go (Some f) y = absurd (some_none (sym y))

pub extensions_judged : ExtensionsJudged
extensions_judged F L k n e refusal x =
    judged F L k n (in_range F.ring k n e) refusal (subst (λ (o : Option FieldFault). Ranged o (Judged F (modulus F.ring k n)) refusal) e x)

pub extensions_are_fields : ExtensionsAreFields
extensions_are_fields F L k n x =
    let e = range_taken F k n x in
    made_field F L k n (in_range F.ring k n e) (subst (λ (o : Option FieldFault). Ranged o (Judged F (modulus F.ring k n)) None) e x)

-- what is known of an extension that is well made
pub made_laws : (B : Type 0) (F : FieldMeaning) (k n : ℕ) → ExtensionMade B F k n → FieldLaws (extension_field F k n)
made_laws B F k n x = extensions_are_fields F x.laws k n x.taken

pub made_range : (B : Type 0) (F : FieldMeaning) (k n : ℕ) → ExtensionMade B F k n → InRange F.ring k n
made_range B F k n x = in_range F.ring k n (range_taken F k n x.taken)
