-- A polynomial whose zeros tell which shifts are worth a try.
use Rattle.std.specs.Prelude.{◌≡◌, ℕ, ◌+◌, ◌<◌, ◌≤◌, cond, List, ◌==◌}
use Rattle.field.specs.Ring.{RingMeaning, one}
use Rattle.field.specs.Polynomial.{coefficient, degree, constant, polynomial, polynomial_power, value, Canonical}
use Rattle.split.specs.Splitting.{ShiftDivisor}
use Rattle.split.specs.Matrix.{cell, combined}
use Rattle.split.specs.FixedRows.{EqualModulo}

-- each shift w at which f and Q - w have a common divisor of positive degree is a zero of t
abbrev pub Sieves : RingMeaning → List ℕ → List ℕ → List ℕ → Type 0
Sieves m f Q t = (w : ℕ) (h : List ℕ) → w < m.order → ShiftDivisor m f Q w h → 0 < degree h → value m t w ≡ 0

-- t is such a polynomial
pub record IsSieve (m : RingMeaning) (f Q t : List ℕ) : Type 0 where
  pub canonical : Canonical m t
  pub sieves : Sieves m f Q t

-- f and Q - u have no common divisor of positive degree for any shift u below w
abbrev pub NoneBelow : RingMeaning → List ℕ → List ℕ → ℕ → Type 0
NoneBelow m f Q w = (u : ℕ) → u < w → ShiftDivisor m f Q u (constant (one m))

-- what stands in row j of the matrix at column i, but at column 0 what stands in `constants` at j
abbrev pub restored : List ℕ → List ℕ → ℕ → ℕ → ℕ → ℕ
restored codes constants d j i = cond (i == 0) (coefficient constants j) (cell codes d j i)

-- Row j, for j from 1 to d - 1, is Q^j modulo f, with its constant moved into `constants` at j.
abbrev pub PowerRows : RingMeaning → List ℕ → List ℕ → ℕ → List ℕ → List ℕ → Type 0
PowerRows m f Q d codes constants =
    (j : ℕ) → 1 ≤ j → j < d → (cell codes d j 0 ≡ 0) × EqualModulo m f (polynomial_power m Q j) (polynomial d (restored codes constants d j))

-- The coefficients c of a combination of rows 1 to e that is zero, and before them the constant that makes it a relation of the powers.
abbrev pub relation_at : RingMeaning → List ℕ → ℕ → ℕ → List ℕ → ℕ → ℕ
relation_at m codes d e constants j = cond (j == 0) (m.opposite (combined m e (cell codes d (d + e)) (coefficient constants))) (cell codes d (d + e) j)
