use Rattle.std.proofs.Common.{◌≡◌, ℕ, ◌+◌, ◌/◌, length, set, sym, subst, arith}
use Rattle.field.specs.Ring.{RingMeaning}
use Rattle.split.specs.FixedRows.{PowerRow}
use Rattle.split.proofs.Residues.{power_sum, power_start}
use Rattle.split.proofs.remainders.Modulo.+write_power.Goals as goal

pub returns-then-n-eq0 : goal.returns-then-n-eq0
returns-then-n-eq0 g t c =
    let m : RingMeaning = g.R.Ring.meaning c.args.self.now.ring.now in
    subst (λ (k : ℕ). PowerRow m c.args.self.now.f.now k (set c.fill.new.self 0 1)) (sym c.if-n-eq0.true)
    (power_start m (g.met.R.Ring.ring c.args.self.now.ring.now c.requires.made) c.args.self.now.f.now c.args.self.now.taken (length c.args.row.now) c.fill.new.self c.requires.sized (c.fill.ensures.after (λ y h. h)))

pub returns-then-n-eq1 : goal.returns-then-n-eq1
returns-then-n-eq1 g t c =
    let m : RingMeaning = g.R.Ring.meaning c.args.self.now.ring.now in
    let half : ℕ = c.args.n / 2 in
    let s : half + half + 1 ≡ c.args.n = omega arith in
    subst (λ (k : ℕ). PowerRow m c.args.self.now.f.now k c.times_x.new.row) s
    (c.times_x.ensures (half + half)
    (power_sum m (g.met.R.Ring.ring c.args.self.now.ring.now c.requires.made) c.args.self.now.f.now c.args.self.now.taken half half
    c.write_power.new.row c.write_power.new.row c.square.new.row c.write_power.ensures c.write_power.ensures c.square.ensures))

pub returns-else-n-eq1 : goal.returns-else-n-eq1
returns-else-n-eq1 g t c =
    let m : RingMeaning = g.R.Ring.meaning c.args.self.now.ring.now in
    let half : ℕ = c.args.n / 2 in
    let s : half + half ≡ c.args.n = omega arith in
    subst (λ (k : ℕ). PowerRow m c.args.self.now.f.now k c.square.new.row) s
    (power_sum m (g.met.R.Ring.ring c.args.self.now.ring.now c.requires.made) c.args.self.now.f.now c.args.self.now.taken half half
    c.write_power.new.row c.write_power.new.row c.square.new.row c.write_power.ensures c.write_power.ensures c.square.ensures)
