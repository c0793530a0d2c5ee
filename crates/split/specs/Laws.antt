-- The laws of a field have one proof at most, so that they may stand beside a value as a ghost field.
use Rattle.std.specs.Prelude.{◌≡◌, ℕ, ◌<◌, ◌≤◌, None, Some, Option}
use Rattle.std.proofs.Props.{props}
use mathlib.Core.HLevel.{Σ_prop_path}
use Rattle.field.specs.Ring.{RingMeaning, RingLaws, one}
use Rattle.field.specs.Field.{FieldMeaning, FieldLaws, Characteristic, Exponent, Inverses}

-- an inverse is one code only
Inverse-prop : (m : RingMeaning) (inverse : ℕ → Option ℕ) (a : ℕ) → IsProp ((b : ℕ) × (inverse a ≡ Some b) × (b < m.order) × (m.product a b ≡ one m))
Inverse-prop m inverse a u v =
    let values : Some u.0 ≡ Some v.0 = cc (u.1, v.1) in
    let codes : u.0 ≡ v.0 = cc values in
    let rest = λ (b : ℕ). (inverse a ≡ Some b) × (b < m.order) × (m.product a b ≡ one m) in
    let same : (u.0, (u.1, u.2, u.3)) ≡ (v.0, (v.1, v.2, v.3)) = Σ_prop_path {B = rest} (λ b. hlevel props) codes in
    λ i. ((same i).0, (same i).1.0, (same i).1.1, (same i).1.2)

Inverses-prop : (m : RingMeaning) (inverse : ℕ → Option ℕ) → IsProp (Inverses m inverse)
Inverses-prop m inverse x y =
    let zero_prop : IsProp (inverse 0 ≡ None) = hlevel props in
    let beyond_prop : IsProp ((a : ℕ) → m.order ≤ a → inverse a ≡ None) = hlevel props in
    λ i. record {
      some = λ a low high. Inverse-prop m inverse a (x.some a low high) (y.some a low high) i;
      none_zero = zero_prop x.none_zero y.none_zero i;
      none = beyond_prop x.none y.none i;
    }

pub FieldLaws-prop : (F : FieldMeaning) → IsProp (FieldLaws F)
FieldLaws-prop F x y =
    let ring_prop : IsProp (RingLaws F.ring) = hlevel props in
    let characteristic_prop : IsProp (Characteristic F.ring F.characteristic) = hlevel props in
    let exponent_prop : IsProp (Exponent F.ring F.characteristic F.exponent) = hlevel props in
    λ i. record {
      ring = ring_prop x.ring y.ring i;
      characteristic = characteristic_prop x.characteristic y.characteristic i;
      exponent = exponent_prop x.exponent y.exponent i;
      inverses = Inverses-prop F.ring F.inverse x.inverses y.inverses i;
    }
