use Rattle.std.proofs.Common.{ℕ, ap, ◌∙◌, arith}
use Rattle.field.specs.Ring.{RingMeaning, RingLaws}
use Rattle.field.specs.Quotient.{digits}
use Rattle.field.specs.Ranges.{in_range}
use Rattle.field.proofs.RowCodes.{zeros_long, digits_suit, product_codes, product_number}
use Rattle.field.proofs.polynomial_quotient.QuotientRing.product.Goals as goal

pub multiply_rows-requires-clause-suits : goal.multiply_rows-requires-clause-suits
multiply_rows-requires-clause-suits g c =
    let r : RingMeaning = g.R.Ring.meaning c.args.self.now.base in
    let L : RingLaws r = g.met.R.Ring.ring c.args.self.now.base c.requires.base in
    let k : ℕ = c.args.self.now.k in
    let i = in_range r k c.args.self.now.m c.requires.in_range in
    digits_suit r L k c.args.self.now.m _ c.digits-lower.ensures.value c.args.a c.args.b _ _ _ (omega (arith, i.low))
    (c.digits-one.ensures.value ∙ ap (digits r.order k) c.from-a.ensures) (c.digits-other.ensures.value ∙ ap (digits r.order k) c.from-b.ensures) (zeros_long c.from.result k c.from.ensures i.top)

pub code-requires-clause-digits : goal.code-requires-clause-digits
code-requires-clause-digits g c =
    let r : RingMeaning = g.R.Ring.meaning c.args.self.now.base in
    let L : RingLaws r = g.met.R.Ring.ring c.args.self.now.base c.requires.base in
    let k : ℕ = c.args.self.now.k in
    product_codes r L k _ _ c.digits-lower.ensures.value _ c.multiply_rows.new.row c.multiply_rows.ensures

pub returns : goal.returns
returns g c =
    let r : RingMeaning = g.R.Ring.meaning c.args.self.now.base in
    let L : RingLaws r = g.met.R.Ring.ring c.args.self.now.base c.requires.base in
    let k : ℕ = c.args.self.now.k in
    let i = in_range r k c.args.self.now.m c.requires.in_range in
    c.code.ensures
    ∙ product_number r L k c.args.self.now.m _ c.digits-lower.ensures.value c.args.a c.args.b c.digits-one.result.now c.digits-other.result.now c.multiply_rows.new.row
    (c.digits-one.ensures.value ∙ ap (digits r.order k) c.from-a.ensures) (c.digits-other.ensures.value ∙ ap (digits r.order k) c.from-b.ensures) c.multiply_rows.ensures i.code
    (omega (arith, c.order-q.ensures, c.from-a.ensures, c.if-a-q.false)) (omega (arith, c.order-q.ensures, c.from-b.ensures, c.if-b-q.false))
