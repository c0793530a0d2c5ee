use Rattle.std.proofs.Common.{◌≡◌, ℕ, ◌*◌, ◌<◌, ◌≤◌, List, get_or}
use Rattle.field.specs.Polynomial.{coefficient, degree, polynomial, polynomial_power, Canonical}
use Rattle.split.specs.Matrix.{cell, Codes}
use Rattle.split.specs.FixedRows.{EqualModulo, RowBelow, Residue}
use Rattle.split.specs.Sieve.{restored}
use Rattle.split.proofs.sieves.fill_powers.Given as goal

-- the row is the j-th power, and the rows of the matrix before row j are written
abbrev pub invariant-loop-j : goal.invariant-loop-j
invariant-loop-j g l =
    RowBelow (g.R.Ring.meaning l.modulo.ring.now) l.modulo.f.now l.row
    × ((i : ℕ) → i < l.j → coefficient l.constants i < (g.R.Ring.meaning l.modulo.ring.now).order)
    × Codes (g.R.Ring.meaning l.modulo.ring.now) (l.j * degree l.modulo.f.now) l.codes
    × ((q : List ℕ) → Canonical (g.R.Ring.meaning l.modulo.ring.now) q → Residue (g.R.Ring.meaning l.modulo.ring.now) l.modulo.f.now q l.fixed →
    Residue (g.R.Ring.meaning l.modulo.ring.now) l.modulo.f.now (polynomial_power (g.R.Ring.meaning l.modulo.ring.now) q l.j) l.row
    × ((i : ℕ) → 1 ≤ i → i < l.j → (cell l.codes (degree l.modulo.f.now) i 0 ≡ 0)
    × EqualModulo (g.R.Ring.meaning l.modulo.ring.now) l.modulo.f.now (polynomial_power (g.R.Ring.meaning l.modulo.ring.now) q i) (polynomial (degree l.modulo.f.now) (restored l.codes l.constants (degree l.modulo.f.now) i))))
    × ((k : ℕ) → degree l.modulo.f.now * degree l.modulo.f.now ≤ k → get_or l.codes k 0 ≡ get_or l.initial.codes k 0)
