use Rattle.std.proofs.Common.{◌-◌}
use Rattle.split.specs.Kept.{Kept}
use Rattle.split.specs.Echelon.{Frame, Reduces}
use Rattle.split.proofs.elimination.Matrix.reduce.Given as goal

-- rows 1 to r - 1 are taken from row e
abbrev pub invariant-loop-r : goal.invariant-loop-r
invariant-loop-r g l =
    Kept l.initial.self l.self
    × Frame l.initial.self.d l.e l.initial.self.codes.now l.self.codes.now
    × Reduces (g.F.Ring.meaning l.initial.self.field.now) l.initial.self.d l.e l.initial.self.codes.now l.self.codes.now (l.r - 1)
