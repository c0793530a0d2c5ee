use Rattle.std.proofs.Common.{◌+◌, ◌∙◌, ap₂, arith}
use Rattle.field.proofs.Writing.{written_none, written_more}
use Rattle.poly.proofs.rows.add_multiple.Goals as goal

pub loop-i-init : goal.loop-i-init
loop-i-init g c = written_none c.args.row.now c.args.place _

pub loop-i-preserved : goal.loop-i-preserved
loop-i-preserved g c =
    written_more c.args.row.now c.loop-i.row c.args.place c.loop-i.i c.sum.result _ c.loop-i.invariant (omega arith)
    (c.sum.ensures ∙ ap₂ (g.R.Ring.meaning c.args.ring.now).sum (c.loop-i.invariant.after (c.args.place + c.loop-i.i) (omega arith)) c.product.ensures)
