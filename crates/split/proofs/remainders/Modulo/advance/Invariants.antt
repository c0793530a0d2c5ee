use Rattle.std.proofs.Common.{ℕ, ◌+◌}
use Rattle.split.specs.FixedRows.{PowerRow}
use Rattle.split.proofs.remainders.Modulo.advance.Given as goal

abbrev pub invariant-loop : goal.invariant-loop
invariant-loop g l = (n : ℕ) → PowerRow (g.R.Ring.meaning l.self.ring.now) l.self.f.now n l.initial.row → PowerRow (g.R.Ring.meaning l.self.ring.now) l.self.f.now (n + l.counter) l.row
