use Rattle.worksheet.proofs.Answering.{one_step}
use Rattle.worksheet.proofs.theorems.one_step.Goals as goal

pub returns : goal.returns
returns c = one_step
