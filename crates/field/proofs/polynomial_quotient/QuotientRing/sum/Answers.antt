use Rattle.std.proofs.Common.{ℕ, ap, ◌∙◌, arith}
use Rattle.field.specs.Ring.{RingMeaning, RingLaws}
use Rattle.field.specs.Quotient.{digits}
use Rattle.field.proofs.RowCodes.{row_codes, sum_number}
use Rattle.field.proofs.polynomial_quotient.QuotientRing.sum.Goals as goal

pub code-requires-clause-digits : goal.code-requires-clause-digits
code-requires-clause-digits g c =
    let r : RingMeaning = g.R.Ring.meaning c.args.self.now.base in
    let L : RingLaws r = g.met.R.Ring.ring c.args.self.now.base c.requires.base in
    let k : ℕ = c.args.self.now.k in
    row_codes r L k _ _ _ c.add_row.ensures (λ i. L.sum_code _ _)

pub returns : goal.returns
returns g c =
    let r : RingMeaning = g.R.Ring.meaning c.args.self.now.base in
    let L : RingLaws r = g.met.R.Ring.ring c.args.self.now.base c.requires.base in
    let k : ℕ = c.args.self.now.k in
    c.code.ensures
    ∙ sum_number r L k c.args.self.now.m c.args.a c.args.b _ c.digits-row.result.now c.digits.result.now c.add_row.new.row
    (c.digits-row.ensures.value ∙ ap (digits r.order k) c.from-a.ensures) (c.digits.ensures.value ∙ ap (digits r.order k) c.from-b.ensures) c.add_row.ensures c.digits-row.ensures.sized
    (omega (arith, c.order-q.ensures, c.from-a.ensures, c.if-a-q.false)) (omega (arith, c.order-q.ensures, c.from-b.ensures, c.if-b-q.false))
