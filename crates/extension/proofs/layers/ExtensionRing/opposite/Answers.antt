use Rattle.std.proofs.Common.{ap, ◌∙◌}
use Rattle.field.specs.Ring.{RingMeaning}
use Rattle.extension.proofs.layers.ExtensionRing.opposite.Goals as goal

pub returns : goal.returns
returns g c = c.opposite.ensures ∙ ap (λ (r : RingMeaning). r.opposite c.args.a) c.quotient.ensures.1
