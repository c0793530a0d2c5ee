use Rattle.field.specs.Polynomial.{trimmed, or_zero}
use Rattle.poly.proofs.Euclid.{Reducing, size_of}
use Rattle.poly.proofs.division.common_divisor.Given as goal

abbrev pub invariant-loop-d : goal.invariant-loop-d
invariant-loop-d g l = Reducing (g.F.Ring.meaning l.field) l.f l.g l.dividend l.divisor

abbrev pub decreases-loop-d : goal.decreases-loop-d
decreases-loop-d g l = size_of (or_zero (trimmed l.divisor))
