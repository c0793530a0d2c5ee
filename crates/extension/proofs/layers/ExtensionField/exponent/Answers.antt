use Rattle.std.proofs.Common.{◌≡◌, ℕ, ◌*◌, ◌≤◌, sym, subst, ap₂, mul-le-mul, arith}
use Rattle.field.specs.Field.{FieldMeaning, Exponent, means}
use Rattle.field.specs.Quotient.{quotient_ring}
use Rattle.extension.specs.Judging.{made_laws, made_range}
use Rattle.field.proofs.PowerInverses.{exponent_small}
use Rattle.extension.proofs.layers.ExtensionField.exponent.Goals as goal

-- both factors are at most 16
pub overflow_mul-result : goal.overflow_mul-result
overflow_mul-result g c =
    let F : FieldMeaning = means (g.F.Ring.meaning c.args.self.now.base) (g.F.Field.extras c.args.self.now.base) in
    let j : c.exponent.result ≤ 16 = omega (arith, c.exponent.ensures.value, exponent_small F c.requires.laws) in
    let k : c.from.result ≤ 16 = omega (arith, c.from.ensures, (made_range _ F c.args.self.now.k c.args.self.now.m c.requires).top) in
    omega (arith, mul-le-mul j k)

pub returns : goal.returns
returns g c =
    let F : FieldMeaning = means (g.F.Ring.meaning c.args.self.now.base) (g.F.Field.extras c.args.self.now.base) in
    let k : ℕ = c.args.self.now.k in
    let n : ℕ = c.args.self.now.m in
    let e : c.exponent.result * c.from.result ≡ F.exponent * k = ap₂ ◌*◌ c.exponent.ensures.value c.from.ensures in
    record { value = e; laws = subst (Exponent (quotient_ring F.ring k n) F.characteristic) (sym e) (made_laws _ F k n c.requires).exponent }
