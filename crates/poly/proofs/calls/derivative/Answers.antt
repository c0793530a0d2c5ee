use Rattle.std.proofs.Common.{◌≡◌, ℕ, ◌-◌, ◌≤◌, max, List, length, replicate, ◌∙◌, rules, arith}
use Rattle.std.proofs.lemmas.List.{length-take-le}
use Rattle.field.specs.Ring.{RingMeaning}
use Rattle.field.specs.Polynomial.{Canonical}
use Rattle.field.proofs.Rows.{row_polynomial_of}
use Rattle.poly.proofs.Operands.{taken_is_canonical}
use Rattle.poly.proofs.Derivatives.{derivative_longer}
use Rattle.poly.proofs.calls.derivative.Goals as goal

pub returns : goal.returns
returns g c =
    let m : RingMeaning = g.R.Ring.meaning c.args.ring.now in
    let f : List ℕ = c.args.f.now in
    let row : List ℕ = c.derive_codes.new.row in
    let taken : Canonical m f × (length f ≤ 128) = taken_is_canonical m f c.in_ok-check.ensures in
    let long : length row ≡ max (length f - 1) 1 = c.derive_codes.ensures.sized ∙ length-take-le c.max.result (replicate 128 0) (omega arith) ∙ c.max.ensures in
    let derivative = row_polynomial_of row _ (max (length f - 1) 1) _ c.derive_codes.ensures long
    ∙ derivative_longer m (g.met.R.Ring.ring c.args.ring.now c.requires) f taken.0.some_code in
    search rules
