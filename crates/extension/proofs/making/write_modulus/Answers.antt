use Rattle.std.proofs.Common.{◌≡◌, ℕ, suc, ◌-◌, List, length, set, ap, ◌∙◌, ap₂, arith}
use Rattle.field.specs.Quotient.{digits}
use Rattle.extension.specs.Moduli.{digits_set}
use Rattle.extension.proofs.making.write_modulus.Goals as goal

pub returns : goal.returns
returns g c =
    let b : ℕ = (g.R.Ring.meaning c.args.ring.now).order in
    let k : ℕ = length c.args.row.now - 1 in
    let counts : length c.args.row.now ≡ suc k = omega (arith, c.requires.some) in
    let place : length c.write_polynomial.new.row - 1 ≡ k = ap (λ (n : ℕ). n - 1) c.write_polynomial.auto.row in
    ap₂ (λ (r : List ℕ) (i : ℕ). set r i 1) (c.write_polynomial.ensures ∙ ap (λ (n : ℕ). digits b n c.args.m) counts) place ∙ digits_set b k c.args.m 1
