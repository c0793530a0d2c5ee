use Rattle.std.proofs.Common.{Some, None, refl}
use Rattle.std.proofs.lemmas.Result.{err_from_is_err_and}
use Rattle.field.specs.declared.fault.FieldFault.TheVariants.{ModulusSplits}
use Rattle.field.specs.Field.{FieldMeaning, means}
use Rattle.extension.specs.Extension.{Extends}
use Rattle.extension.specs.Judging.{range_refused, range_judged, extensions_judged, extensions_are_fields}
use Rattle.extension.proofs.layers.Extension.new.Goals as goal

pub returns-in_err-new : goal.returns-in_err-new
returns-in_err-new g c =
    let F : FieldMeaning = means (g.F.Ring.meaning c.args.base) (g.F.Field.extras c.args.base) in
    let p = err_from_is_err_and c.from_residual.result c.from_residual.ensures.1 in
    record { makes = rw (p.1, p.2) (range_refused F c.args.k c.args.m _ c.in_err-new.ensures.makes); judged = extensions_judged; fields = extensions_are_fields }

pub returns-then-modulus_splits : goal.returns-then-modulus_splits
returns-then-modulus_splits g c =
    let F : FieldMeaning = means (g.F.Ring.meaning c.args.base) (g.F.Field.extras c.args.base) in
    record {
      makes = range_judged F c.args.k c.args.m (Some ModulusSplits) c.in_ok-new.ensures.makes.0 (refl, c.if-modulus_splits.ensures);
      judged = extensions_judged;
      fields = extensions_are_fields;
    }

pub returns : goal.returns
returns g c =
    let F : FieldMeaning = means (g.F.Ring.meaning c.args.base) (g.F.Field.extras c.args.base) in
    let taken : Extends F c.args.k c.args.m None = range_judged F c.args.k c.args.m None c.in_ok-new.ensures.makes.0 c.if-modulus_splits.ensures in
    record {
      makes = (taken, (record { base = c.requires; laws = c.ask.ensures; taken = taken }, refl, refl));
      judged = extensions_judged;
      fields = extensions_are_fields;
    }
