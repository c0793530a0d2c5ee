use Rattle.worksheet.proofs.Law.{law}
use Rattle.worksheet.proofs.theorems.law_of_splitting.Goals as goal

pub returns : goal.returns
returns c = law
