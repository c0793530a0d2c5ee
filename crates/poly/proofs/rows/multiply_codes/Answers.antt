use Rattle.std.proofs.Common.{◌≡◌, ℕ, length, subst, arith}
use Rattle.field.specs.Ring.{RingMeaning}
use Rattle.poly.proofs.Products.{Partial, partial_none, partial_more, partial_all}
use Rattle.poly.proofs.rows.multiply_codes.Goals as goal

pub loop-i-init : goal.loop-i-init
loop-i-init g c =
    partial_none (g.R.Ring.meaning c.args.ring.now) (g.met.R.Ring.ring c.args.ring.now c.requires.made) c.args.f.now c.args.g.now
    c.args.row.now c.requires.zeros

pub loop-i-preserved : goal.loop-i-preserved
loop-i-preserved g c =
    partial_more (g.R.Ring.meaning c.args.ring.now) (g.met.R.Ring.ring c.args.ring.now c.requires.made) c.args.f.now c.args.g.now
    c.loop-i.row c.add_multiple.new.row c.loop-i.i (omega arith) c.loop-i.invariant (omega arith) c.add_multiple.ensures

pub returns : goal.returns
returns g c =
    let m : RingMeaning = g.R.Ring.meaning c.args.ring.now in
    let end : c.loop-i.i ≡ length c.args.f.now = omega arith in
    partial_all m (g.met.R.Ring.ring c.args.ring.now c.requires.made) c.args.f.now c.args.g.now c.loop-i.row
    (subst (λ (k : ℕ). Partial m c.args.f.now c.args.g.now k c.loop-i.row) end c.loop-i.invariant)
