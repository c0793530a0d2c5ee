use Rattle.std.proofs.Common.{ℕ, ◌<◌, sym, ◌∙◌, subst, arith}
use Rattle.field.proofs.Squaring.{power_start, power_even, power_odd, power_end}
use Rattle.field.proofs.powers.power_code.Goals as goal
use Rattle.field.proofs.powers.power_code.Goals.{then-rest-eq1, else-rest-eq1}

pub loop-rest-init : goal.loop-rest-init
loop-rest-init g c =
    let L = g.met.R.Ring.ring c.args.ring.now c.requires in
    (L.one_code.1, power_start (g.R.Ring.meaning c.args.ring.now) L c.args.a c.args.n)

pub loop-rest-preserved : goal.loop-rest-preserved
loop-rest-preserved g c =
    let m = g.R.Ring.meaning c.args.ring.now in
    let L = g.met.R.Ring.ring c.args.ring.now c.requires in
    let b = c.loop-rest.base in
    let r = c.loop-rest.result in
    let n = c.loop-rest.rest in
    let inv = c.loop-rest.invariant in
    let square = c.product-base.ensures in
    elim c.if-rest-eq1.branch [
      | then-rest-eq1 w ↦
          let times = w.result-is ∙ w.product-result.ensures in
          (subst (λ (x : ℕ). x < m.order) (sym times) (L.product_code r b), power_odd m L r b n _ _ inv.0 w.if-rest-eq1.true times square ∙ inv.1)
      | else-rest-eq1 w ↦
          (subst (λ (x : ℕ). x < m.order) (sym w.result-is) inv.0, power_even m L r b n _ _ (omega (arith, w.if-rest-eq1.false)) w.result-is square ∙ inv.1)
    ]

pub returns : goal.returns
returns g c =
    let inv = c.loop-rest.invariant in
    sym (power_end (g.R.Ring.meaning c.args.ring.now) (g.met.R.Ring.ring c.args.ring.now c.requires) c.loop-rest.result c.loop-rest.base c.loop-rest.rest inv.0 (omega arith))
    ∙ inv.1
