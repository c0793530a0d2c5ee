use Rattle.std.proofs.Common.{ap, ◌∙◌}
use Rattle.field.specs.Ring.{RingMeaning}
use Rattle.extension.proofs.layers.ExtensionRing.product.Goals as goal

pub returns : goal.returns
returns g c = c.product.ensures ∙ ap (λ (r : RingMeaning). r.product c.args.a c.args.b) c.quotient.ensures.1
