use Rattle.std.proofs.Common.{ℕ, ◌+◌, ◌*◌, ◌<◌, get_or, subst, ap, ◌∙◌, arith}
use Rattle.split.specs.Matrix.{cell}
use Rattle.field.specs.Ring.{RingMeaning}
use Rattle.field.specs.Rows.{Written}
use Rattle.split.specs.Echelon.{Subtracted, less}
use Rattle.split.proofs.Leads.{row_first}
use Rattle.split.proofs.Frames.{along, subtracted}
use Rattle.split.proofs.elimination.Matrix.clear_at_pivot.Goals as goal

pub bounds-row-column : goal.bounds-row-column
bounds-row-column g c =
    let q = row_first c.args.self.now.codes.now c.row.result.now c.args.self.now.d c.args.r _ c.row.ensures c.pivot-column.ensures in
    omega (arith, q.is_pivot, c.requires.pivot, c.row-2.ensures.sized)

pub returns-clause-subtracted : goal.returns-clause-subtracted
returns-clause-subtracted g c =
    let m = g.F.Ring.meaning c.args.self.now.field.now in
    let old = c.args.self.now.codes.now in
    let d = c.args.self.now.d in
    let q = row_first old c.row.result.now d c.args.r _ c.row.ensures c.pivot-column.ensures in
    let e = c.args.e in
    let r = c.args.r in
    let high : c.pivot-column.result < d = omega (arith, q.is_pivot, c.requires.pivot) in
    let t = get_or c.row-2.result.now c.pivot-column.result 0 in
    let mid = c.subtract.new.self.codes.now in
    let new = c.subtract-2.new.self.codes.now in
    let kept = c.subtract.ensures.kept in
    let v = along (λ (x : RingMeaning) (n : ℕ). Written mid new ((d + e) * n) n (λ i. less x t (cell mid n (d + e) i) (cell mid n (d + r) i))) (ap (λ b. g.F.Ring.meaning b.now) kept.1) kept.2 c.subtract-2.ensures.written in
    subst (λ (x : ℕ). Subtracted m d r e x old new) (c.row-2.ensures.at _ high ∙ ap (cell old d e) q.is_pivot)
    (subtracted m d r e t c.requires.above c.requires.row c.subtract.ensures.written v)
