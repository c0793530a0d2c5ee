use Rattle.std.proofs.Common.{◌≡◌, ℕ, List, sym, ◌∙◌, subst}
use Rattle.field.specs.Ring.{RingMeaning}
use Rattle.field.specs.Polynomial.{zero_polynomial, trimmed, or_zero, Canonical, IsCommonDivisor}
use Rattle.field.proofs.RowPolynomials.{trimmed_canonical}
use Rattle.field.proofs.Divisions.{common_row, common_none}
use Rattle.poly.proofs.Euclid.{same_inverse}
use Rattle.poly.proofs.division.make_monic.Goals as goal

pub new-requires : goal.new-requires
new-requires g c =
    let m : RingMeaning = g.F.Ring.meaning c.args.field.now in
    record {
      made = c.requires.made;
      canonical = subst (Canonical m) (sym c.polynomial_of.ensures) (trimmed_canonical m (g.met.F.Ring.ring c.args.field.now c.requires.made) c.args.row.now c.requires.codes);
    }

pub returns-in-Some : goal.returns-in-Some
returns-in-Some g c =
    let m : RingMeaning = g.F.Ring.meaning c.args.field.now in
    let d = c.in-Some.divisor in
    let unit = same_inverse g.F.Ring.meaning d.ring.now c.args.field.now c.in-Some.ensures.some.0 d.codes.now (or_zero (trimmed c.args.row.now)) (c.in-Some.ensures.some.1 ∙ c.polynomial_of.ensures) d.inverse d.inverts in
    common_row m (g.met.F.Ring.ring c.args.field.now c.requires.made) c.args.row.now c.scale.new.row d.inverse c.requires.codes unit c.scale.ensures

pub returns-in_default : goal.returns-in_default
returns-in_default g c =
    let m : RingMeaning = g.F.Ring.meaning c.args.field.now in
    let zero : or_zero (trimmed c.args.row.now) ≡ zero_polynomial = sym c.polynomial_of.ensures ∙ c.in_default.ensures.none in
    subst (λ (f : List ℕ). IsCommonDivisor m f zero_polynomial f) (sym zero) (common_none m (g.met.F.Ring.ring c.args.field.now c.requires.made))
