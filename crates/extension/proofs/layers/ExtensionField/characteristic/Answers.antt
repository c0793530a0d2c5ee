use Rattle.std.proofs.Common.{ℕ, sym, subst}
use Rattle.field.specs.Field.{FieldMeaning, Characteristic, means}
use Rattle.field.specs.Quotient.{quotient_ring}
use Rattle.extension.specs.Judging.{made_laws}
use Rattle.extension.proofs.layers.ExtensionField.characteristic.Goals as goal

pub returns : goal.returns
returns g c =
    let F : FieldMeaning = means (g.F.Ring.meaning c.args.self.now.base) (g.F.Field.extras c.args.self.now.base) in
    let k : ℕ = c.args.self.now.k in
    let n : ℕ = c.args.self.now.m in
    let p = c.characteristic.ensures.value in
    record { value = p; laws = subst (Characteristic (quotient_ring F.ring k n)) (sym p) (made_laws _ F k n c.requires).characteristic }
