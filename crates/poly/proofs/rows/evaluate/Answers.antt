use Rattle.std.proofs.Common.{ℕ, List}
use Rattle.std.proofs.lemmas.Iterator.Adapters.{YieldsList-from_rev_slice}
use Rattle.std.proofs.lemmas.Iterator.Consumers.{YieldsList-turn, YieldsList-end}
use Rattle.poly.proofs.Values.{value_from_none, value_from_more, value_from_all}
use Rattle.poly.proofs.rows.evaluate.Goals as goal

pub loop-c-init : goal.loop-c-init
loop-c-init g c = value_from_none (g.R.Ring.meaning c.args.ring.now) (g.met.R.Ring.ring c.args.ring.now c.requires.made) c.args.f.now c.args.x

pub loop-c-preserved : goal.loop-c-preserved
loop-c-preserved g c =
    let f : List ℕ = c.args.f.now in
    let turn = YieldsList-turn (YieldsList-from_rev_slice f cc) c.loop-c.yielded _ c.loop-c.yielded_by _ _ c.in-Some.c c.in-Some.is c.next.ensures.steps in
    value_from_more (g.R.Ring.meaning c.args.ring.now) (g.met.R.Ring.ring c.args.ring.now c.requires.made) f c.args.x c.loop-c.yielded c.in-Some.c c.in-Some.c.now c.loop-c.sum c.product.result c.sum-sum.result
    c.requires.codes c.requires.point turn.0 turn.1 c.loop-c.invariant c.product.ensures c.sum-sum.ensures

pub returns : goal.returns
returns g c =
    let f : List ℕ = c.args.f.now in
    let end = YieldsList-end (YieldsList-from_rev_slice f cc) c.loop-c.yielded _ c.loop-c.yielded_by _ _ c.in-None.is c.next.ensures.steps in
    value_from_all (g.R.Ring.meaning c.args.ring.now) f c.args.x c.loop-c.yielded c.loop-c.sum end.1 c.loop-c.invariant
