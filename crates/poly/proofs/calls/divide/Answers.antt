use Rattle.std.proofs.Common.{◌≡◌, ℕ, ◌<◌, ◌≤◌, ◌≢◌, List, length, take, replicate, sym, ◌∙◌, ap, subst, rules}
use Rattle.field.specs.Ring.{RingMeaning, RingLaws}
use Rattle.field.specs.Polynomial.{coefficient, zero_polynomial, trimmed, or_zero, Canonical, IsDivision}
use Rattle.field.specs.Rows.{IsRow}
use Rattle.field.specs.Polynomials.{code_at}
use Rattle.field.proofs.Rows.{zeros_row}
use Rattle.field.proofs.RowPolynomials.{leading_zero, trimmed_same}
use Rattle.poly.proofs.Operands.{taken_is_canonical, divisor_taken}
use Rattle.poly.proofs.Euclid.{same_division}
use Rattle.poly.proofs.calls.divide.Goals as goal

pub divide-requires-clause-codes : goal.divide-requires-clause-codes
divide-requires-clause-codes g c =
    let m : RingMeaning = g.F.Ring.meaning c.args.field.now in
    let d = c.in_ok-divisor.divisor in
    let f : Canonical m c.args.f.now × (length c.args.f.now ≤ 128) = taken_is_canonical m c.args.f.now c.in_ok-check.ensures in
    let same : d.ring.now ≡ c.args.field.now = search rules in
    let row : c.copy_from_slice.new.self ≡ c.args.f.now = search rules in
    λ i. subst (λ (x : List ℕ). coefficient x i < (g.F.Ring.meaning d.ring.now).order) (sym row)
    (subst (λ x. coefficient c.args.f.now i < (g.F.Ring.meaning x).order) (sym same)
    (code_at m (g.met.F.Ring.ring c.args.field.now c.requires) c.args.f.now f.0 i))

pub divide-requires-clause-zeros : goal.divide-requires-clause-zeros
divide-requires-clause-zeros g c =
    let f : List ℕ = c.args.f.now in
    let row : c.copy_from_slice.new.self ≡ f = search rules in
    subst (λ (n : ℕ). IsRow (take (length f) (replicate 128 0)) n (λ _. 0)) (sym (ap length row)) (zeros_row (length f) 128 (taken_is_canonical (g.F.Ring.meaning c.args.field.now) f c.in_ok-check.ensures).1)

pub returns-clause-result : goal.returns-clause-result
returns-clause-result g c =
    let m : RingMeaning = g.F.Ring.meaning c.args.field.now in
    let L : RingLaws m = g.met.F.Ring.ring c.args.field.now c.requires in
    let d = c.in_ok-divisor.divisor in
    let f : Canonical m c.args.f.now × (length c.args.f.now ≤ 128) = taken_is_canonical m c.args.f.now c.in_ok-check.ensures in
    let h : List ℕ = c.args.g.now in
    let same : d.ring.now ≡ c.args.field.now = search rules in
    let by : d.codes.now ≡ h = search rules in
    let some : h ≢ zero_polynomial = search rules in
    let row : c.copy_from_slice.new.self ≡ c.args.f.now = search rules in
    let own : or_zero (trimmed c.copy_from_slice.new.self) ≡ c.args.f.now =
    ap (λ (x : List ℕ). or_zero (trimmed x)) row ∙ trimmed_same m L c.args.f.now f.0 in
    let quotients : List ℕ = or_zero (trimmed c.divide.new.quotient) in
    let rests : List ℕ = or_zero (trimmed c.divide.new.row) in
    let taken = divisor_taken m c.args.f.now h c.in_ok-check.ensures c.in_ok-check-2.ensures (λ z. some (leading_zero m L h (taken_is_canonical m h c.in_ok-check-2.ensures).0 z)) in
    let division = subst (λ (x : List ℕ). IsDivision m x h quotients rests) own
    (same_division g.F.Ring.meaning d.ring.now c.args.field.now same d.codes.now h by (or_zero (trimmed c.copy_from_slice.new.self)) quotients rests c.divide.ensures) in
    search rules
