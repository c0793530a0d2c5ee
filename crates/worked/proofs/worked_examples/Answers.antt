use Rattle.worked.proofs.Examples.{examples}
use Rattle.worked.proofs.SmallCases.{small_cases}
use Rattle.worked.proofs.worked_examples.Goals as goal

pub returns : goal.returns
returns c = record { examples = examples; cases = small_cases }
