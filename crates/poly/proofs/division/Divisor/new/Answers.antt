use Rattle.std.proofs.Common.{ℕ, List, arith, rules}
use Rattle.field.specs.Ring.{RingMeaning}
use Rattle.field.specs.Polynomial.{degree, leading}
use Rattle.field.proofs.RowPolynomials.{leading_zero}
use Rattle.field.proofs.Divisions.{inverse_none, inverse_some}
use Rattle.poly.proofs.division.Divisor.new.Goals as goal

pub returns-in_err-inverse-clause-none : goal.returns-in_err-inverse-clause-none
returns-in_err-inverse-clause-none g c =
    let m : RingMeaning = g.F.Ring.meaning c.args.field.now in
    let f : List ℕ = c.args.codes.now in
    let zero = leading_zero m (g.met.F.Ring.ring c.args.field.now c.requires.made) f c.requires.canonical
    (inverse_none m (g.F.Field.extras c.args.field.now).inverse c.inverse.ensures.laws (leading f) (c.requires.canonical.codes (degree f) (omega (arith, c.requires.canonical.some_code))) (search rules)) in
    search rules

pub invariant_of-result-clause-inverts : goal.invariant_of-result-clause-inverts
invariant_of-result-clause-inverts g c =
    let m : RingMeaning = g.F.Ring.meaning c.args.field.now in
    let f : List ℕ = c.args.codes.now in
    inverse_some m (g.F.Field.extras c.args.field.now).inverse c.inverse.ensures.laws (leading f) (c.requires.canonical.codes (degree f) (omega (arith, c.requires.canonical.some_code))) c.in_ok-inverse.inverse (search rules)
