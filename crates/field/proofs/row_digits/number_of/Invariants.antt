use Rattle.std.proofs.Common.{◌≡◌, ◌-◌, length, drop}
use Rattle.field.specs.Quotient.{from_digits}
use Rattle.field.proofs.row_digits.number_of.Given as goal

abbrev pub invariant-loop-d : goal.invariant-loop-d
invariant-loop-d l = l.n ≡ from_digits l.b (drop (length l.row - length l.yielded) l.row)
