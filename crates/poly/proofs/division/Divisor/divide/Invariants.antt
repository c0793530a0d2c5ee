use Rattle.std.proofs.Common.{◌≡◌, length}
use Rattle.field.specs.Ring.{RingLaws}
use Rattle.poly.proofs.Dividing.{Dividing}
use Rattle.poly.proofs.division.Divisor.divide.Given as goal

abbrev pub invariant-loop-i : goal.invariant-loop-i
invariant-loop-i g l = record {
  sized : length l.quotient ≡ length l.initial.row;
  divides : (L : RingLaws (g.R.Ring.meaning l.self.ring.now)) → Dividing (g.R.Ring.meaning l.self.ring.now) L l.initial.row l.self.codes.now l.quotient l.row l.i;
}
