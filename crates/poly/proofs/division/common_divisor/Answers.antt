use Rattle.std.proofs.Common.{◌<◌, List, ℕ, replicate, sym, ◌∙◌, subst, arith}
use Rattle.field.specs.Ring.{RingMeaning}
use Rattle.field.specs.Polynomial.{trimmed, or_zero, Canonical, IsDivision}
use Rattle.field.specs.Rows.{IsRow}
use Rattle.field.proofs.Rows.{zeros_row}
use Rattle.poly.proofs.Euclid.{size_of, same_division, reducing_none, reducing_more, reducing_less, divisor_canonical}
use Rattle.poly.proofs.division.common_divisor.Given as given
use Rattle.poly.proofs.division.common_divisor.Goals as goal

pub loop-d-init : goal.loop-d-init
loop-d-init g c =
    reducing_none (g.F.Ring.meaning c.args.field.now) (g.met.F.Ring.ring c.args.field.now c.requires.made) c.args.f.now c.args.g.now
    c.padded-dividend.result c.padded-divisor.result c.requires.first c.requires.second c.padded-dividend.ensures c.padded-divisor.ensures

pub new-requires-clause-canonical : goal.new-requires-clause-canonical
new-requires-clause-canonical g c =
    let m : RingMeaning = g.F.Ring.meaning c.args.field.now in
    subst (Canonical m) (sym c.polynomial_of.ensures)
    (divisor_canonical m (g.met.F.Ring.ring c.args.field.now c.requires.made) c.args.f.now c.args.g.now c.loop-d.dividend c.loop-d.divisor c.loop-d.invariant)

pub divide-requires-clause-zeros : goal.divide-requires-clause-zeros
divide-requires-clause-zeros g c = subst (λ (n : ℕ). IsRow (replicate 128 0) n (λ _. 0)) (sym c.loop-d.invariant.dividend_sized) (zeros_row 128 128 (omega arith))

-- the turn's division
divided : (g : given.Over) (c : goal.After-swap g) → IsDivision (g.F.Ring.meaning c.args.field.now) (or_zero (trimmed c.loop-d.dividend)) (or_zero (trimmed c.loop-d.divisor)) (or_zero (trimmed c.divide.new.quotient)) (or_zero (trimmed c.divide.new.row))
divided g c =
    let d = c.in-Some.d in
    same_division g.F.Ring.meaning d.ring.now c.args.field.now c.in-Some.ensures.some.0 d.codes.now (or_zero (trimmed c.loop-d.divisor)) (c.in-Some.ensures.some.1 ∙ c.polynomial_of.ensures)
    (or_zero (trimmed c.loop-d.dividend)) (or_zero (trimmed c.divide.new.quotient)) (or_zero (trimmed c.divide.new.row)) c.divide.ensures

pub loop-d-smaller : goal.loop-d-smaller
loop-d-smaller g c =
    subst (λ (y : List ℕ). size_of (or_zero (trimmed y)) < size_of (or_zero (trimmed c.loop-d.divisor))) (sym c.swap.ensures.y_after)
    (reducing_less (g.F.Ring.meaning c.args.field.now) (g.met.F.Ring.ring c.args.field.now c.requires.made) c.args.f.now c.args.g.now c.loop-d.dividend c.loop-d.divisor c.loop-d.invariant
    c.divide.new.row (or_zero (trimmed c.divide.new.quotient)) c.divide.auto.row (divided g c) (λ z. c.in-Some.ensures.some.2 (c.polynomial_of.ensures ∙ z)))

pub loop-d-preserved : goal.loop-d-preserved
loop-d-preserved g c =
    rw (c.swap.ensures.x_after, c.swap.ensures.y_after)
    (reducing_more (g.F.Ring.meaning c.args.field.now) (g.met.F.Ring.ring c.args.field.now c.requires.made) c.args.f.now c.args.g.now c.loop-d.dividend c.loop-d.divisor c.loop-d.invariant
    c.divide.new.row (or_zero (trimmed c.divide.new.quotient)) c.divide.auto.row (divided g c))
