use Rattle.worksheet.proofs.Runs.{call_good}
use Rattle.worksheet.proofs.theorems.calls_keep.Goals as goal

pub returns : goal.returns
returns c = call_good
