use Rattle.std.proofs.Common.{ap, ◌∙◌}
use Rattle.field.specs.Ring.{RingMeaning}
use Rattle.extension.proofs.layers.ExtensionRing.sum.Goals as goal

pub returns : goal.returns
returns g c = c.sum.ensures ∙ ap (λ (r : RingMeaning). r.sum c.args.a c.args.b) c.quotient.ensures.1
