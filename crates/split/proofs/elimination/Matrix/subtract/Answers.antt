use Rattle.std.proofs.Common.{◌*◌, arith, rules}
use Rattle.split.proofs.Rows.{row_inside}
use Rattle.split.proofs.Frames.{written_codes, subtracted_row}
use Rattle.split.proofs.elimination.Matrix.subtract.Goals as goal

pub overflow_mul-e : goal.overflow_mul-e
overflow_mul-e g c = let f = row_inside c.args.self.now.d c.args.e c.requires.row in search rules

pub split_at_mut-before-requires : goal.split_at_mut-before-requires
split_at_mut-before-requires g c = let f = row_inside c.args.self.now.d c.args.e c.requires.row in omega arith

pub slice_bounds-subtract_multiple-end-2 : goal.slice_bounds-subtract_multiple-end-2
slice_bounds-subtract_multiple-end-2 g c = let f = row_inside c.args.self.now.d c.args.e c.requires.row in search rules

pub invariant_of-self-clause-below : goal.invariant_of-self-clause-below
invariant_of-self-clause-below g c =
    let m = g.F.Ring.meaning c.args.self.now.field.now in
    let d = c.args.self.now.d in
    let cut = c.split_at_mut-before.ensures in
    let w = subtracted_row m c.args.self.now.codes.now _ _ c.subtract_multiple.new.into d c.args.r c.args.e c.args.t c.requires.above c.requires.row c.args.self.now.space cut.front cut.back c.subtract_multiple.ensures in
    written_codes m (2 * (d * d)) (c.args.e * d) d w (λ i h. (g.met.F.Ring.ring c.args.self.now.field.now c.requires.made).sum_code _ _) c.args.self.now.below

pub returns-clause-written : goal.returns-clause-written
returns-clause-written g c =
    let cut = c.split_at_mut-before.ensures in
    subtracted_row (g.F.Ring.meaning c.args.self.now.field.now) c.args.self.now.codes.now _ _ c.subtract_multiple.new.into c.args.self.now.d c.args.r c.args.e c.args.t c.requires.above c.requires.row c.args.self.now.space cut.front cut.back c.subtract_multiple.ensures
