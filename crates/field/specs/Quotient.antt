-- The quotient of a ring of order b by t^k plus the polynomial of m. A code is a number in base b whose digits are the
-- coefficients of its polynomial, the lowest the constant.
use Rattle.std.specs.Prelude.{◌≡◌, ℕ, zero, suc, ◌+◌, ◌-◌, ◌*◌, ◌/◌, ◌%◌, ◌^◌, ◌<◌, List, [], ◌∷◌, ◌++◌, map, length, replicate}
use Rattle.field.specs.Checks.{below}
use Rattle.field.specs.Ring.{RingMeaning, one, on_codes}
use Rattle.field.specs.Field.{FieldMeaning, FieldExtras, means, inverse_in}
use Rattle.field.specs.Polynomial.{coefficient, Canonical, sum, product, or_zero, trimmed}

-- k is 2 to 16
abbrev pub least_height : ℕ
least_height = 2

abbrev pub greatest_height : ℕ
greatest_height = 16

-- the k lowest digits of x in base b, the lowest first
unfoldable pub digits : ℕ → ℕ → ℕ → List ℕ
digits b zero x = []
digits b (suc k) x = x % b ∷ digits b k (x / b)

-- the number with these digits in base b
unfoldable pub from_digits : ℕ → List ℕ → ℕ
from_digits b [] = 0
from_digits b (d ∷ ds) = d + b * from_digits b ds

-- the polynomial of a code
abbrev pub polynomial_of : RingMeaning → ℕ → ℕ → List ℕ
polynomial_of r k x = or_zero (trimmed (digits r.order k x))

-- t^k plus the polynomial of m
abbrev pub modulus : RingMeaning → ℕ → ℕ → List ℕ
modulus r k m = digits r.order k m ++ one r ∷ []

-- a + t g, for g below t^k, less the leading coefficient of t g times the modulus
abbrev pub lowered : RingMeaning → ℕ → ℕ → ℕ → List ℕ → List ℕ
lowered r k m a g = map (λ i. r.sum (coefficient (a ∷ g) i) (r.opposite (r.product (coefficient g (k - 1)) (coefficient (modulus r k m) i)))) (below k)

-- the k coefficients of the remainder of f by the modulus
unfoldable pub reduced : RingMeaning → ℕ → ℕ → List ℕ → List ℕ
reduced r k m [] = replicate k 0
reduced r k m (a ∷ f) = lowered r k m a (reduced r k m f)

-- the codes of the remainder of f by the monic polynomial with these lower codes, of which there are as many as its degree
abbrev pub reduced_by : RingMeaning → List ℕ → List ℕ → List ℕ
reduced_by r lower f = reduced r (length lower) (from_digits r.order lower) f

-- sums and opposites digit by digit, products reduced by the modulus
abbrev pub quotient_ring : RingMeaning → ℕ → ℕ → RingMeaning
quotient_ring r k m =
    let b = r.order in
    on_codes (b ^ k)
    (λ x y. from_digits b (map (λ i. r.sum (coefficient (digits b k x) i) (coefficient (digits b k y) i)) (below k)))
    (λ x. from_digits b (map r.opposite (digits b k x)))
    (λ x y. from_digits b (reduced r k m (product r (digits b k x) (digits b k y))))

-- The product of two codes in the subject's words: with a multiple of the modulus it is the product of their polynomials.
abbrev pub Reduces : RingMeaning → ℕ → ℕ → Type 0
Reduces r k m =
    (x y : ℕ) → x < r.order ^ k → y < r.order ^ k →
    (s : List ℕ) × Canonical r s × (sum r (product r s (modulus r k m)) (polynomial_of r k ((quotient_ring r k m).product x y)) ≡ product r (polynomial_of r k x) (polynomial_of r k y))

-- the quotient of a field, with what it tells where it is a field
abbrev pub extension_extras : FieldMeaning → ℕ → ℕ → FieldExtras
extension_extras f k m = record {
  characteristic = f.characteristic;
  exponent = f.exponent * k;
  inverse = inverse_in (quotient_ring f.ring k m);
}

abbrev pub extension_field : FieldMeaning → ℕ → ℕ → FieldMeaning
extension_field f k m = means (quotient_ring f.ring k m) (extension_extras f k m)
