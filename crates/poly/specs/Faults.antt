-- Why a polynomial is not taken or a result not given, in the order of checking.
use Rattle.std.specs.Prelude.{ℕ, ◌+◌, Bool, not, ◌&&◌, ◌||◌, List, length, Some, None, Option, ◌==◌, nat_le, nat_lt}
use Rattle.field.specs.Checks.{unless, between, ◌or_else◌, first_below}
use Rattle.field.specs.Ring.{RingMeaning}
use Rattle.field.specs.Polynomial.{coefficient, leading, degree}
use Rattle.poly.specs.declared.fault.PolyFault.{PolyFault}
use Rattle.poly.specs.declared.fault.PolyFault.TheVariants.{Length, NotCode, LastZero, ZeroDivisor, Short, LongProduct}

-- the most codes of a polynomial in a buffer
abbrev pub most_codes : ℕ
most_codes = 128

abbrev pub poly_number : PolyFault → ℕ
poly_number Length = 10
poly_number (NotCode i) = 11
poly_number (LastZero i) = 12
poly_number ZeroDivisor = 13
poly_number Short = 14
poly_number LongProduct = 15

abbrev pub poly_index : PolyFault → ℕ
poly_index Length = 0
poly_index (NotCode i) = i
poly_index (LastZero i) = i
poly_index ZeroDivisor = 0
poly_index Short = 0
poly_index LongProduct = 0

-- faults of polynomials are of the second layer
abbrev pub poly_layer : PolyFault → ℕ
poly_layer e = 2

abbrev pub at_index : Option ℕ → Option PolyFault
at_index None = None
at_index (Some i) = Some (NotCode i)

-- the place of the first code that is none of the ring's
abbrev pub first_bad : RingMeaning → List ℕ → Option ℕ
first_bad m f = first_below (length f) (λ i. nat_le m.order (coefficient f i))

-- One operand: 10 unless it has 1 to `most_codes` codes, then 11 at the first that is none of the ring's, then 12 if the last
-- of several codes is 0.
abbrev pub operand_refusal : RingMeaning → List ℕ → Option PolyFault
operand_refusal m f =
    unless (between 1 most_codes (length f)) Length
    or_else at_index (first_bad m f)
    or_else unless (length f == 1 || not (leading f == 0)) (LastZero (degree f))

abbrev pub operands_refusal : RingMeaning → List ℕ → List ℕ → Option PolyFault
operands_refusal m f g = operand_refusal m f or_else operand_refusal m g

-- the factors of a product; the lengths are looked at last
abbrev pub factors_refusal : RingMeaning → List ℕ → List ℕ → Option PolyFault
factors_refusal m f g = operands_refusal m f g or_else unless (nat_le (length f + length g) (most_codes + 1)) LongProduct

-- whether a polynomial is the zero polynomial
abbrev pub is_zero : List ℕ → Bool
is_zero f = length f == 1 && leading f == 0

-- a dividend and a divisor, which is not the zero polynomial
abbrev pub division_refusal : RingMeaning → List ℕ → List ℕ → Option PolyFault
division_refusal m f g = operands_refusal m f g or_else unless (not (is_zero g)) ZeroDivisor

-- a polynomial and the point of its value
abbrev pub point_refusal : RingMeaning → List ℕ → ℕ → Option PolyFault
point_refusal m f x = operand_refusal m f or_else unless (nat_lt x m.order) (NotCode 0)
