use Rattle.std.proofs.Common.{◌*◌, rules}
use Rattle.split.proofs.Rows.{row_inside}
use Rattle.split.proofs.Frames.{written_codes, scaled_row}
use Rattle.split.proofs.elimination.Matrix.scale.Goals as goal

pub overflow_mul-at : goal.overflow_mul-at
overflow_mul-at g c = let f = row_inside c.args.self.now.d c.args.e c.requires.row in search rules

pub overflow_add-at : goal.overflow_add-at
overflow_add-at g c = let f = row_inside c.args.self.now.d c.args.e c.requires.row in search rules

pub offset_bounds-self-at : goal.offset_bounds-self-at
offset_bounds-self-at g c = let f = row_inside c.args.self.now.d c.args.e c.requires.row in search rules

pub slice_bounds-scale-end : goal.slice_bounds-scale-end
slice_bounds-scale-end g c = let f = row_inside c.args.self.now.d c.args.e c.requires.row in search rules

pub invariant_of-self-clause-below : goal.invariant_of-self-clause-below
invariant_of-self-clause-below g c =
    let m = g.F.Ring.meaning c.args.self.now.field.now in
    let d = c.args.self.now.d in
    let w = scaled_row m c.args.self.now.codes.now c.scale.new.row d c.args.e c.args.u c.requires.row c.args.self.now.space c.scale.ensures in
    written_codes m (2 * (d * d)) (c.args.e * d) d w (λ i h. (g.met.F.Ring.ring c.args.self.now.field.now c.requires.made).product_code _ _) c.args.self.now.below

pub returns-clause-written : goal.returns-clause-written
returns-clause-written g c =
    scaled_row (g.F.Ring.meaning c.args.self.now.field.now) c.args.self.now.codes.now c.scale.new.row c.args.self.now.d c.args.e c.args.u c.requires.row c.args.self.now.space c.scale.ensures
