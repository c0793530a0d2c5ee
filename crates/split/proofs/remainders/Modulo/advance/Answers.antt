use Rattle.std.proofs.Common.{◌≡◌, ℕ, ◌+◌, subst, add_assoc, arith}
use Rattle.field.specs.Ring.{RingMeaning}
use Rattle.split.specs.FixedRows.{PowerRow}
use Rattle.split.proofs.Residues.{power_sum}
use Rattle.split.proofs.remainders.Modulo.advance.Goals as goal

pub loop-preserved : goal.loop-preserved
loop-preserved g c n w =
    let m : RingMeaning = g.R.Ring.meaning c.args.self.now.ring.now in
    subst (λ (k : ℕ). PowerRow m c.args.self.now.f.now k c.times_x.new.row) (add_assoc n c.loop.counter 1) (c.times_x.ensures (n + c.loop.counter) (c.loop.invariant n w))

pub returns-after-loop : goal.returns-after-loop
returns-after-loop g c n w =
    let m : RingMeaning = g.R.Ring.meaning c.args.self.now.ring.now in
    let s : n + c.loop.counter ≡ n + c.args.q = omega arith in
    subst (λ (k : ℕ). PowerRow m c.args.self.now.f.now k c.loop.row) s (c.loop.invariant n w)

pub returns-else-q-row : goal.returns-else-q-row
returns-else-q-row g c n w =
    power_sum (g.R.Ring.meaning c.args.self.now.ring.now) (g.met.R.Ring.ring c.args.self.now.ring.now c.requires.made) c.args.self.now.f.now c.args.self.now.taken n c.args.q
    c.args.row.now c.args.x.now c.multiply.new.row w c.requires.power c.multiply.ensures
