use Rattle.std.proofs.Common.{◌≡◌, ℕ, max, List, length, replicate, ◌∙◌, rules, arith}
use Rattle.std.proofs.lemmas.List.{length-take-le}
use Rattle.field.specs.Ring.{RingMeaning}
use Rattle.field.proofs.Rows.{row_polynomial_of}
use Rattle.poly.proofs.Operands.{taken_is_canonical}
use Rattle.poly.proofs.calls.sum.Goals as goal

pub returns : goal.returns
returns g c =
    let m : RingMeaning = g.R.Ring.meaning c.args.ring.now in
    let f : List ℕ = c.args.f.now in
    let h : List ℕ = c.args.g.now in
    let row : List ℕ = c.add_codes.new.row in
    let short-f = (taken_is_canonical m f c.in_ok-check.ensures).1 in
    let short-h = (taken_is_canonical m h c.in_ok-check-2.ensures).1 in
    let long : length row ≡ max (length f) (length h) = c.add_codes.ensures.sized ∙ length-take-le c.max.result (replicate 128 0) (omega arith) ∙ c.max.ensures in
    let sum = row_polynomial_of row _ (max (length f) (length h)) _ c.add_codes.ensures long in
    search rules
