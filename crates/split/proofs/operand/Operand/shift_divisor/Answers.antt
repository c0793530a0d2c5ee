use Rattle.std.proofs.Common.{◌≡◌, ℕ, List, set, ap, ◌∙◌, subst, ap₂}
use Rattle.field.specs.Ring.{RingMeaning}
use Rattle.field.specs.Polynomial.{coefficient, IsCommonDivisor}
use Rattle.split.proofs.Shifting.{shifted_is}
use Rattle.split.proofs.operand.Operand.shift_divisor.Goals as goal

pub returns : goal.returns
returns g c =
    let t = c.args.self.now in
    let m : RingMeaning = g.F.Ring.meaning t.field.now in
    let Q : List ℕ = c.args.fixed.now in
    let k = c.requires.least in
    let e : set c.copy_from_slice.new.self 0 c.sum.result ≡ set Q 0 (m.sum (coefficient Q 0) (m.opposite c.args.w)) =
    ap₂ (λ (xs : List ℕ) (x : ℕ). set xs 0 x) c.copy_from_slice.ensures.after (c.sum.ensures ∙ ap (m.sum (coefficient Q 0)) c.opposite.ensures) in
    subst (λ (x : List ℕ). IsCommonDivisor m t.f.now x c.common_divisor.result) (e ∙ shifted_is m t.laws.ring Q k.fixed.canonical k.positive c.args.w) c.common_divisor.ensures
