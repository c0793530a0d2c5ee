use Rattle.std.proofs.Common.{◌≡◌, ℕ, ◌*◌, ◌<◌, ◌≤◌, get_or}
use Rattle.field.specs.Polynomial.{degree}
use Rattle.split.specs.Matrix.{Codes}
use Rattle.split.specs.FixedRows.{PowerRow, EqualModulo, power_gap, row_polynomial}
use Rattle.split.proofs.fixing.fill_rows.Given as goal

-- the row is X^(j q), and the rows of the matrix before row j are written
abbrev pub invariant-loop-j : goal.invariant-loop-j
invariant-loop-j g l =
    PowerRow (g.R.Ring.meaning l.modulo.ring.now) l.modulo.f.now (l.j * l.q) l.row
    × Codes (g.R.Ring.meaning l.modulo.ring.now) (l.j * degree l.modulo.f.now) l.codes
    × ((i : ℕ) → 1 ≤ i → i < l.j → EqualModulo (g.R.Ring.meaning l.modulo.ring.now) l.modulo.f.now (power_gap (g.R.Ring.meaning l.modulo.ring.now) i) (row_polynomial (degree l.modulo.f.now) l.codes i))
    × ((k : ℕ) → degree l.modulo.f.now * degree l.modulo.f.now ≤ k → get_or l.codes k 0 ≡ get_or l.initial.codes k 0)
