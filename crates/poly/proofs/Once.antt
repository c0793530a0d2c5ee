-- Over every field there is exactly one division by a polynomial other than zero, and exactly one greatest common divisor.
-- Main statements: one_division, one_common_divisor.
use Rattle.std.proofs.Common.{◌≡◌}
use Rattle.field.proofs.Divisions.{division_exists, division_unique}
use Rattle.field.proofs.CommonDivisors.{common_any, common_one}
use Rattle.poly.specs.Calls.{Buffers, OneDivision, OneCommonDivisor}

buffers_path : (x y : Buffers) → (x.quotient ≡ y.quotient) × (x.remainder ≡ y.remainder) → x ≡ y
buffers_path x y e = λ i. record { quotient = e.0 i; remainder = e.1 i }

pub one_division : OneDivision
one_division F L f g cf cg n = record {
  some = let w = division_exists F L f g cf cg n in (record { quotient = w.0; remainder = w.1 }, w.2);
  same = λ x y a b. buffers_path x y (division_unique F L f g x.quotient x.remainder y.quotient y.remainder cg n a b);
}

pub one_common_divisor : OneCommonDivisor
one_common_divisor F L f g cf cg = record {
  some = common_any F L f g cf cg;
  same = λ d e a b. common_one F L f g d e cf cg a b;
}
