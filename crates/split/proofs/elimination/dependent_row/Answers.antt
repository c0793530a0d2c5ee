use Rattle.std.proofs.Common.{◌+◌, ◌-◌, ◌*◌, rules, arith}
use borrow.Rule.Slice.PartMut.{put_mid}
use Rattle.split.proofs.Rows.{row_end}
use Rattle.split.proofs.Filled.{before_part, answer_same}
use Rattle.split.proofs.elimination.dependent_row.Goals as goal

pub returns-clause-answer : goal.returns-clause-answer
returns-clause-answer g c =
    let d = c.args.d in
    let n = d * d in
    let old = c.args.codes.now in
    let L = g.met.F.Ring.ring c.args.field.now c.requires.made in
    let start = put_mid n (2 * n - n) old c.fill.new.self in
    let told = answer_same (g.F.Ring.meaning c.args.field.now) L d old start (λ j i h k. before_part old c.fill.new.self n (2 * n - n) (j * d + i) (omega (arith, row_end d j d h)) (omega (arith, c.requires.space)))
    c.search.result c.search.new.self.codes.now c.search.ensures.answer in
    search (rules, told)
