use Rattle.std.proofs.Common.{ℕ, ◌+◌, ◌*◌, ap, ◌∙◌, arith}
use Rattle.field.specs.Ring.{RingMeaning}
use Rattle.field.specs.Rows.{Written}
use Rattle.field.specs.Inverting.{inverse_found, inverse_stands}
use Rattle.split.specs.Matrix.{cell}
use Rattle.split.proofs.Rows.{scratch_code}
use Rattle.split.proofs.Frames.{along}
use Rattle.split.proofs.Steps.{scaled}
use Rattle.split.proofs.elimination.Matrix.scale_to_one.Goals as goal

pub unreachable-requires : goal.unreachable-requires
unreachable-requires g c =
    let m = g.F.Ring.meaning c.args.self.now.field.now in
    let told = c.in-None.ensures in
    inverse_stands m (g.F.Field.extras c.args.self.now.field.now).inverse told.laws (cell c.args.self.now.codes.now c.args.self.now.d c.args.e c.args.pivot)
    (omega (arith, c.requires.here)) (scratch_code m c.args.self.now.d c.args.e c.args.pivot c.args.self.now.codes.now c.args.self.now.below c.requires.row c.requires.column) (told.value ∙ ap (g.F.Field.extras c.args.self.now.field.now).inverse (c.row.ensures.at c.args.pivot c.requires.column))

pub returns-clause-scaled : goal.returns-clause-scaled
returns-clause-scaled g c =
    let m = g.F.Ring.meaning c.args.self.now.field.now in
    let L = g.met.F.Ring.ring c.args.self.now.field.now c.requires.made in
    let d = c.args.self.now.d in
    let e = c.args.e in
    let codes = c.args.self.now.codes.now in
    let mid = c.scale.new.self.codes.now in
    let new = c.scale-in-Some.new.self.codes.now in
    let u = c.in-Some.u in
    let told = c.in-Some.ensures in
    let kept = c.scale.ensures.kept in
    let i = inverse_found m (g.F.Field.extras c.args.self.now.field.now).inverse told.laws (cell codes d e c.args.pivot)
    (omega (arith, c.requires.here)) (scratch_code m d e c.args.pivot codes c.args.self.now.below c.requires.row c.requires.column) u (told.value ∙ ap (g.F.Field.extras c.args.self.now.field.now).inverse (c.row.ensures.at c.args.pivot c.requires.column)) in
    let v = along (λ (x : RingMeaning) (n : ℕ). Written mid new ((d + e) * n) n (λ k. x.product u (cell mid n (d + e) k))) (ap (λ b. g.F.Ring.meaning b.now) kept.1) kept.2 c.scale-in-Some.ensures.written in
    (u, scaled m L d e u c.args.pivot c.requires.row c.args.self.now.below c.requires.before c.requires.column i.0 i.1 c.scale.ensures.written v)
