use Rattle.std.proofs.Common.{◌≡◌, ℕ, ◌-◌, Some, Option, sym, ap, ◌∙◌, arith}
use Rattle.field.specs.Ring.{RingMeaning, power}
use Rattle.field.specs.Field.{FieldMeaning, FieldLaws, means}
use Rattle.field.specs.Quotient.{extension_field}
use Rattle.extension.specs.Judging.{made_laws}
use Rattle.field.proofs.PowerInverses.{inverse_is_power}
use Rattle.extension.proofs.layers.inverse_code.Goals as goal
use Rattle.extension.proofs.layers.inverse_code.Goals.{then-a-eq0-via-then-a-eq0, then-a-eq0-via-else-a-eq0+then-from-q}

pub returns-then-a-eq0 : goal.returns-then-a-eq0
returns-then-a-eq0 g c =
    let F : FieldMeaning = means (g.F.Ring.meaning c.args.x.now.base) (g.F.Field.extras c.args.x.now.base) in
    let E : FieldMeaning = extension_field F c.args.x.now.k c.args.x.now.m in
    let L : FieldLaws E = made_laws _ F c.args.x.now.k c.args.x.now.m c.requires in
    elim c.then-a-eq0.branch [
      | then-a-eq0-via-then-a-eq0 w ↦ sym (ap E.inverse w.if-a-eq0.true ∙ L.inverses.none_zero)
      | then-a-eq0-via-else-a-eq0+then-from-q w ↦
          sym (L.inverses.none c.args.a (omega (arith, ap (λ (r : RingMeaning). r.order) c.quotient-ring.ensures.1, c.order-q.ensures, w.from.ensures, w.if-from-q.true)))
    ]

pub returns : goal.returns
returns g c =
    let F : FieldMeaning = means (g.F.Ring.meaning c.args.x.now.base) (g.F.Field.extras c.args.x.now.base) in
    let E : FieldMeaning = extension_field F c.args.x.now.k c.args.x.now.m in
    let L : FieldLaws E = made_laws _ F c.args.x.now.k c.args.x.now.m c.requires in
    let a : ℕ = c.args.a in
    let same = c.quotient-ring.ensures.1 in
    let order : c.order-q.result ≡ E.ring.order = c.order-q.ensures ∙ ap (λ (r : RingMeaning). r.order) same in
    ap {B = Option ℕ} Some (c.power_code.ensures ∙ ap (λ (r : RingMeaning). power r a (c.order-q.result - 2)) same ∙ ap (λ (q : ℕ). power E.ring a (q - 2)) order)
    ∙ sym (inverse_is_power E L a (omega (arith, c.if-a-eq0.false)) (omega (arith, order, c.from.ensures, c.if-from-q.false)))
