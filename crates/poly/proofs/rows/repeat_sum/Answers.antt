use Rattle.std.proofs.Common.{ℕ, sym, ap, ◌∙◌}
use Rattle.field.proofs.Totals.{total_none, multiple_more}
use Rattle.poly.proofs.rows.repeat_sum.Goals as goal

pub loop-init : goal.loop-init
loop-init g c = sym (total_none (g.R.Ring.meaning c.args.ring.now) (λ _. c.args.a))

pub loop-preserved : goal.loop-preserved
loop-preserved g c =
    c.sum-sum.ensures ∙ ap (λ (x : ℕ). (g.R.Ring.meaning c.args.ring.now).sum x c.args.a) c.loop.invariant
    ∙ multiple_more (g.R.Ring.meaning c.args.ring.now) c.loop.counter c.args.a
