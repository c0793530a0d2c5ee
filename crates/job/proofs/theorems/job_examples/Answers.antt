use Rattle.job.proofs.TextExamples.{text_examples}
use Rattle.job.proofs.theorems.job_examples.Goals as goal

pub returns : goal.returns
returns c = text_examples
