-- How a monic polynomial f of positive degree is split over a field of order q and characteristic p.
use Rattle.std.specs.Prelude.{◌≡◌, ℕ, ◌*◌, ◌/◌, ◌<◌, ◌≤◌, ◌↔◌, List, ◌++◌, length, drop, replicate, ◌≢◌}
use Rattle.field.specs.Ring.{RingMeaning, one, power}
use Rattle.field.specs.Field.{FieldMeaning, FieldLaws}
use Rattle.field.specs.Polynomial.{coefficient, degree, zero_polynomial, constant, polynomial, product, difference, derivative, polynomial_power, Canonical, Monic, Divides, Splits, IsCommonDivisor}

-- What f is replaced by: the polynomial whose p-th power it is; two polynomials whose product it is, found as a repeated factor or by
-- a shift; or nothing, where f stays whole.
pub data Splitting : Type 0 where
  root : List ℕ → Splitting
  repeated : List ℕ → List ℕ → Splitting
  shifted : List ℕ → List ℕ → Splitting
  whole : Splitting

-- the polynomial whose coefficient at X^i is that of f at X^(p i), raised to the power q/p
abbrev pub root_of : FieldMeaning → List ℕ → List ℕ
root_of F f = polynomial (length f) (λ i. power F.ring (coefficient f (F.characteristic * i)) (F.ring.order / F.characteristic))

-- v is of lower degree than f, and f divides v^q - v
pub record Fixed (m : RingMeaning) (f v : List ℕ) : Type 0 where
  pub canonical : Canonical m v
  pub lower : degree v < degree f
  pub divides : Divides m f (difference m (polynomial_power m v m.order) v)

-- Q is fixed and monic with the constant 0, and no fixed polynomial is of lower positive degree
pub record LeastFixed (m : RingMeaning) (f Q : List ℕ) : Type 0 where
  pub fixed : Fixed m f Q
  pub monic : Monic m Q
  pub constant_zero : coefficient Q 0 ≡ 0
  pub positive : 0 < degree Q
  pub least : (v : List ℕ) → Fixed m f v → 0 < degree v → degree Q ≤ degree v

-- h is the greatest common divisor of f and Q - w
abbrev pub ShiftDivisor : RingMeaning → List ℕ → List ℕ → ℕ → List ℕ → Type 0
ShiftDivisor m f Q w h = IsCommonDivisor m f (difference m Q (constant w)) h

-- w is the smallest code at which this is of positive degree
pub record SmallestShift (m : RingMeaning) (f Q : List ℕ) (w : ℕ) (h : List ℕ) : Type 0 where
  pub code : w < m.order
  pub divisor : ShiftDivisor m f Q w h
  pub positive : 0 < degree h
  pub smallest : (u : ℕ) → u < w → ShiftDivisor m f Q u (constant (one m))

-- f has no repeated factor: its derivative is not zero, and the greatest common divisor of both is one
abbrev pub Simple : RingMeaning → List ℕ → Type 0
Simple m f = (derivative m f ≢ zero_polynomial) × IsCommonDivisor m f (derivative m f) (constant (one m))

-- The four kinds, of which the first that fits is taken:
-- 1. the derivative is zero, and f is the p-th power of its root;
-- 2. the greatest common divisor g of f and its derivative is of positive degree, and f is g times h;
-- 3. that of f and Q - w is, for the least fixed Q and the smallest such w, and f is g times h;
-- 4. there is no fixed polynomial of positive degree, and f stays whole.
abbrev pub SplitsInto : FieldMeaning → List ℕ → Splitting → Type 0
SplitsInto F f (root r) = (derivative F.ring f ≡ zero_polynomial) × (r ≡ root_of F f)
SplitsInto F f (repeated g h) =
    (derivative F.ring f ≢ zero_polynomial)
    × IsCommonDivisor F.ring f (derivative F.ring f) g × (0 < degree g)
    × Canonical F.ring h × (product F.ring g h ≡ f)
SplitsInto F f (shifted g h) =
    Simple F.ring f
    × ((Q : List ℕ) × (w : ℕ) × LeastFixed F.ring f Q × SmallestShift F.ring f Q w g)
    × Canonical F.ring h × (product F.ring g h ≡ f)
SplitsInto F f whole = Simple F.ring f × ((v : List ℕ) → Fixed F.ring f v → 0 < degree v → ⊥)

-- what is answered: the kind, and the degrees of what f is replaced by
abbrev pub answer : FieldMeaning → List ℕ → Splitting → ℕ × ℕ × ℕ
answer F f (root r) = (1, degree f / F.characteristic, 0)
answer F f (repeated g h) = (2, degree g, degree h)
answer F f (shifted g h) = (3, degree g, degree h)
answer F f whole = (4, degree f, 0)

-- how many codes of scratch the splitting of f asks for
abbrev pub scratch_size : List ℕ → ℕ
scratch_size f = 2 * degree f * degree f

-- the first n codes set to 0, the others as they were
abbrev pub wiped : ℕ → List ℕ → List ℕ
wiped n scratch = replicate n 0 ++ drop n scratch

-- Over every field, each monic polynomial of positive degree splits in one way only.
abbrev pub OneSplitting : Type 0
OneSplitting =
    (F : FieldMeaning) → FieldLaws F → (f : List ℕ) → Canonical F.ring f → Monic F.ring f → 0 < degree f →
    (s : Splitting) × SplitsInto F f s × ((t : Splitting) → SplitsInto F f t → t ≡ s)

-- Over every field, a monic polynomial of positive degree stays whole exactly if no two polynomials of positive degree multiply to it.
abbrev pub WholeUnsplittable : Type 0
WholeUnsplittable =
    (F : FieldMeaning) → FieldLaws F → (f : List ℕ) → Canonical F.ring f → Monic F.ring f → 0 < degree f →
    SplitsInto F f whole ↔ (Splits F.ring f → ⊥)
