-- The matrix whose dependent rows tell the fixed polynomials: row j is X^(j q) - X^j modulo f, where q is the order of the field.
use Rattle.std.specs.Prelude.{◌≡◌, ℕ, ◌*◌, ◌<◌, ◌≤◌, cond, List, [], ◌∷◌, length, ◌==◌}
use Rattle.field.specs.Ring.{RingMeaning, one}
use Rattle.field.specs.Polynomial.{coefficient, degree, polynomial, difference, polynomial_power, Divides}
use Rattle.split.specs.Matrix.{cell}

-- the polynomial X
abbrev pub variable : RingMeaning → List ℕ
variable m = 0 ∷ one m ∷ []

-- a and b are equal modulo f: f divides a - b
abbrev pub EqualModulo : RingMeaning → List ℕ → List ℕ → List ℕ → Type 0
EqualModulo m f a b = Divides m f (difference m a b)

-- a row of as many codes of the ring as f has below its leading one
pub record RowBelow (m : RingMeaning) (f row : List ℕ) : Type 0 where
  pub sized : length row ≡ degree f
  pub codes : (i : ℕ) → coefficient row i < m.order

-- such a row that is equal to a modulo f
pub record Residue (m : RingMeaning) (f a row : List ℕ) : Type 0 where
  pub sized : length row ≡ degree f
  pub codes : (i : ℕ) → coefficient row i < m.order
  pub same : EqualModulo m f a row

-- such a row for X^n
abbrev pub PowerRow : RingMeaning → List ℕ → ℕ → List ℕ → Type 0
PowerRow m f n row = Residue m f (polynomial_power m (variable m) n) row

-- X^(j q) - X^j
abbrev pub power_gap : RingMeaning → ℕ → List ℕ
power_gap m j = difference m (polynomial_power m (variable m) (j * m.order)) (polynomial_power m (variable m) j)

-- the polynomial whose coefficients are the d codes of row j
abbrev pub row_polynomial : ℕ → List ℕ → ℕ → List ℕ
row_polynomial d codes j = polynomial d (cell codes d j)

-- Row j, for j from 1 to d - 1, is X^(j q) - X^j modulo f. Here d is the degree of f, so that the rows are remainders.
abbrev pub FixedRows : RingMeaning → List ℕ → ℕ → List ℕ → Type 0
FixedRows m f d codes = (j : ℕ) → 1 ≤ j → j < d → EqualModulo m f (power_gap m j) (row_polynomial d codes j)

-- the code at column k of a row with v in place of its code at column i
abbrev pub changed_at : List ℕ → ℕ → ℕ → ℕ → ℕ
changed_at row i v k = cond (k == i) v (coefficient row k)
