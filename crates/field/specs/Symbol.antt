-- The field of order 256 of the CCSDS 131.0-B symbols: α is a root of t^8 + t^7 + t^2 + t + 1 over residues modulo 2,
-- and bit i of a code is the coefficient of α^i. Its products are read from two tables, of which this says what they hold.
use Rattle.std.specs.Prelude.{◌≡◌, ℕ, ◌<◌, List, length, slice_index}
use Rattle.field.specs.Ring.{RingMeaning, power}
use Rattle.field.specs.Field.{FieldMeaning, FieldExtras}
use Rattle.field.specs.Residues.{prime_field}
use Rattle.field.specs.Quotient.{quotient_ring, extension_extras, extension_field}

-- t^7 + t^2 + t + 1, the modulus without its highest power
abbrev pub symbol_modulus : ℕ
symbol_modulus = 0b1000_0111

abbrev pub symbol_field : FieldMeaning
symbol_field = extension_field (prime_field 2) 8 symbol_modulus

abbrev pub symbol_ring : RingMeaning
symbol_ring = quotient_ring (prime_field 2).ring 8 symbol_modulus

abbrev pub symbol_extras : FieldExtras
symbol_extras = extension_extras (prime_field 2) 8 symbol_modulus

-- the code of α^i: α has the code 2
abbrev pub alpha_power : ℕ → ℕ
alpha_power i = power symbol_ring 2 i

-- The tables: α^0 to α^509, each at its place, and at each code but 0 the exponent, below 255, of the power that it is.
pub record Tabulated (powers exponents : List ℕ) : Type 0 where
  pub power_count : length powers ≡ 510
  pub power_at : (i : ℕ) → i < 510 → slice_index powers i ≡ alpha_power i
  pub exponent_count : length exponents ≡ 256
  pub exponent_at : (a : ℕ) → 0 < a → a < 256 → (slice_index exponents a < 255) × (alpha_power (slice_index exponents a) ≡ a)
