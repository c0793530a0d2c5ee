-- What a field is: a ring that also tells its characteristic p, the exponent j with order p^j, and inverses.
use Rattle.std.specs.Prelude.{◌≡◌, ℕ, ◌^◌, ◌<◌, ◌≤◌, Some, None, Option, nat_eq}
use Rattle.field.specs.Checks.{first_below}
use Rattle.field.specs.Ring.{RingMeaning, RingLaws, one, multiple}

-- what a field tells beside its ring
pub record FieldExtras : Type 0 where
  pub characteristic : ℕ
  pub exponent : ℕ
  pub inverse : ℕ → Option ℕ

pub record FieldMeaning : Type 0 where
  pub ring : RingMeaning
  pub characteristic : ℕ
  pub exponent : ℕ
  pub inverse : ℕ → Option ℕ

-- the meaning of a field: that of its ring, and what it tells beside it
abbrev pub means : RingMeaning → FieldExtras → FieldMeaning
means m e = record { ring = m; characteristic = e.characteristic; exponent = e.exponent; inverse = e.inverse }

-- what the trait of fields tells of each value of a type
abbrev pub Told : Type 0 → Type 1
Told A = record { meaning : A → RingMeaning; made : A → Type 0; extras : A → FieldExtras }

-- the meaning of the field that a value is
abbrev pub field_of : {A : Type 0} → Told A → A → FieldMeaning
field_of t x = means (t.meaning x) (t.extras x)

-- p is the smallest positive count of ones whose sum is zero
pub record Characteristic (m : RingMeaning) (p : ℕ) : Type 0 where
  pub positive : 0 < p
  pub sums_to_zero : multiple m p (one m) ≡ 0
  pub smallest : (n : ℕ) → 0 < n → multiple m n (one m) ≡ 0 → p ≤ n

-- the order is p^j
pub record Exponent (m : RingMeaning) (p j : ℕ) : Type 0 where
  pub positive : 0 < j
  pub order : m.order ≡ p ^ j

-- a code but 0 has the code whose product with it is one, and no other number has an inverse
pub record Inverses (m : RingMeaning) (inverse : ℕ → Option ℕ) : Type 0 where
  pub some : (a : ℕ) → 0 < a → a < m.order → (b : ℕ) × (inverse a ≡ Some b) × (b < m.order) × (m.product a b ≡ one m)
  pub none_zero : inverse 0 ≡ None
  pub none : (a : ℕ) → m.order ≤ a → inverse a ≡ None

-- all that is known of a field
pub record FieldLaws (f : FieldMeaning) : Type 0 where
  pub ring : RingLaws f.ring
  pub characteristic : Characteristic f.ring f.characteristic
  pub exponent : Exponent f.ring f.characteristic f.exponent
  pub inverses : Inverses f.ring f.inverse

-- the first code whose product with a is one
abbrev pub inverse_in : RingMeaning → ℕ → Option ℕ
inverse_in m a = first_below m.order (λ b. nat_eq (m.product a b) (one m))
