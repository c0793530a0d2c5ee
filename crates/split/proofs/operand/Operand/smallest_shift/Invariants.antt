use Rattle.std.proofs.Common.{◌-◌}
use Rattle.split.specs.Sieve.{NoneBelow}
use Rattle.split.proofs.operand.Operand.smallest_shift.Given as goal

abbrev pub invariant-loop-w : goal.invariant-loop-w
invariant-loop-w g l = NoneBelow (g.F.Ring.meaning l.self.field.now) l.self.f.now l.fixed l.w

abbrev pub decreases-loop-w : goal.decreases-loop-w
decreases-loop-w g l = (g.F.Ring.meaning l.self.field.now).order - l.w
