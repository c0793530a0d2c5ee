use Rattle.extension.specs.Judging.{extensions_judged, extensions_are_fields}
use Rattle.extension.proofs.theorems.law_of_extensions.Goals as goal

pub returns : goal.returns
returns c = record { judged = extensions_judged; fields = extensions_are_fields }
