use Rattle.std.proofs.Common.{◌+◌, ◌*◌, ◌<◌, eqb}
use Rattle.std.proofs.lemmas.Bool.{cond_both}
use Rattle.field.specs.Scalars.{zero_is_code}
use Rattle.split.proofs.Frames.{written_codes, unit_row}
use Rattle.split.proofs.elimination.Matrix.start_combination.Goals as goal

pub invariant_of-self-clause-below : goal.invariant_of-self-clause-below
invariant_of-self-clause-below g c =
    let m = g.F.Ring.meaning c.args.self.now.field.now in
    let L = g.met.F.Ring.ring c.args.self.now.field.now c.requires.made in
    let d = c.args.self.now.d in
    let e = c.args.e in
    let w = unit_row c.args.self.now.codes.now c.fill.new.self d e c.requires.row c.args.self.now.space (c.fill.ensures.after (λ y h. h)) in
    written_codes m (2 * (d * d)) ((d + e) * d) d w (λ i h. cond_both (eqb i e) 1 0 (λ x. x < m.order) (λ _. L.one_code.1) (λ _. zero_is_code m L)) c.args.self.now.below

pub returns-clause-written : goal.returns-clause-written
returns-clause-written g c =
    unit_row c.args.self.now.codes.now c.fill.new.self c.args.self.now.d c.args.e c.requires.row c.args.self.now.space (c.fill.ensures.after (λ y h. h))
