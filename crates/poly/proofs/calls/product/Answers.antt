use Rattle.std.proofs.Common.{ℕ, ◌+◌, ◌-◌, List, length, ◌∙◌, rules, arith}
use Rattle.field.specs.Ring.{RingMeaning}
use Rattle.field.proofs.Rows.{row_polynomial, zeros_row}
use Rattle.poly.proofs.Operands.{taken_is_canonical}
use Rattle.poly.proofs.Products.{product_shorter}
use Rattle.poly.proofs.calls.product.Goals as goal

pub multiply_codes-requires-clause-some : goal.multiply_codes-requires-clause-some
multiply_codes-requires-clause-some g c = (taken_is_canonical (g.R.Ring.meaning c.args.ring.now) c.args.g.now c.in_ok-check-2.ensures).0.some_code

pub multiply_codes-requires-clause-zeros : goal.multiply_codes-requires-clause-zeros
multiply_codes-requires-clause-zeros g c = zeros_row (length c.args.f.now + length c.args.g.now - 1) 128 (omega arith)

pub returns : goal.returns
returns g c =
    let m : RingMeaning = g.R.Ring.meaning c.args.ring.now in
    let f : List ℕ = c.args.f.now in
    let h : List ℕ = c.args.g.now in
    let product = row_polynomial c.multiply_codes.new.row (length f + length h - 1) _ c.multiply_codes.ensures
    ∙ product_shorter m (g.met.R.Ring.ring c.args.ring.now c.requires) f h
    (taken_is_canonical m f c.in_ok-check.ensures).0.some_code (taken_is_canonical m h c.in_ok-check-2.ensures).0.some_code in
    search rules
