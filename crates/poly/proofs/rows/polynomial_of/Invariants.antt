use Rattle.std.proofs.Common.{◌≡◌, ◌<◌, ◌≤◌, length}
use Rattle.field.specs.Polynomial.{trimmed}
use Rattle.poly.proofs.rows.polynomial_of.Given as goal

abbrev pub invariant-loop-codes : goal.invariant-loop-codes
invariant-loop-codes l = record {
  some : 0 < length l.codes;
  within : length l.codes ≤ length l.row;
  same : trimmed l.codes ≡ trimmed l.row;
}

abbrev pub decreases-loop-codes : goal.decreases-loop-codes
decreases-loop-codes l = length l.codes
