use Rattle.std.proofs.Common.{ℕ, ◌+◌, length, get_or, replicate, refl, ap, ◌∙◌, arith}
use borrow.Rule.Slice.PartMut.{post_of}
use Rattle.field.specs.Ring.{RingMeaning}
use Rattle.field.specs.Polynomial.{degree}
use Rattle.split.proofs.SimpleKinds.{combination_within, combination_row}
use Rattle.split.proofs.Relations.{relation_written}
use Rattle.split.proofs.Carrier.{combined_of_row}
use Rattle.split.proofs.operand.Operand.relation.Goals as goal

pub slice_bounds-combination-end : goal.slice_bounds-combination-end
slice_bounds-combination-end g c = combination_within (degree c.args.self.now.f.now) c.args.e (length c.args.codes.now) c.requires.row c.requires.space

pub combine_constants-total-requires : goal.combine_constants-total-requires
combine_constants-total-requires g c =
    let row = combination_row c.args.codes.now _ (degree c.args.self.now.f.now) c.args.e c.requires.row c.requires.space refl in
    record { made = c.requires.made; some = omega (arith, row.sized); room = omega (arith, row.sized, c.requires.row, c.requires.constants) }

pub returns : goal.returns
returns g c =
    let m : RingMeaning = g.F.Ring.meaning c.args.self.now.field.now in
    let d : ℕ = degree c.args.self.now.f.now in
    let row = combination_row c.args.codes.now _ d c.args.e c.requires.row c.requires.space refl in
    relation_written m c.args.codes.now c.args.constants.now c.copy_from_slice.new.self (post_of 0 (c.args.e + 1) (replicate 128 0)) d c.args.e c.opposite.result c.requires.row c.requires.space
    c.copy_from_slice.ensures.after (c.opposite.ensures ∙ ap m.opposite (c.combine_constants-total.ensures ∙ combined_of_row m c.args.e _ _ (λ i. get_or c.args.constants.now i 0) row)) c.new.result c.new.ensures
