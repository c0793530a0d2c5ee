use Rattle.field.specs.Field.{FieldMeaning, means}
use Rattle.extension.specs.Judging.{made_laws}
use Rattle.extension.proofs.layers.ExtensionField.inverse.Goals as goal

pub returns : goal.returns
returns g c =
    let F : FieldMeaning = means (g.F.Ring.meaning c.args.self.now.base) (g.F.Field.extras c.args.self.now.base) in
    record { value = c.inverse_code.ensures; laws = (made_laws _ F c.args.self.now.k c.args.self.now.m c.requires).inverses }
