use Rattle.std.proofs.Common.{ℕ, ap, ◌∙◌, arith}
use Rattle.field.specs.Ring.{RingMeaning, RingLaws}
use Rattle.field.specs.Quotient.{digits}
use Rattle.field.proofs.RowCodes.{row_codes, opposite_number}
use Rattle.field.proofs.polynomial_quotient.QuotientRing.opposite.Goals as goal

pub code-requires-clause-digits : goal.code-requires-clause-digits
code-requires-clause-digits g c =
    let r : RingMeaning = g.R.Ring.meaning c.args.self.now.base in
    let L : RingLaws r = g.met.R.Ring.ring c.args.self.now.base c.requires.base in
    let k : ℕ = c.args.self.now.k in
    row_codes r L k _ _ _ c.oppose_row.ensures (λ i. L.opposite_code _)

pub returns : goal.returns
returns g c =
    let r : RingMeaning = g.R.Ring.meaning c.args.self.now.base in
    let L : RingLaws r = g.met.R.Ring.ring c.args.self.now.base c.requires.base in
    let k : ℕ = c.args.self.now.k in
    c.code.ensures
    ∙ opposite_number r L k c.args.self.now.m c.args.a _ c.digits-row.result.now c.oppose_row.new.row
    (c.digits-row.ensures.value ∙ ap (digits r.order k) c.from-a.ensures) c.oppose_row.ensures c.digits-row.ensures.sized (omega (arith, c.order.ensures, c.from-a.ensures, c.if-a-order.false))
