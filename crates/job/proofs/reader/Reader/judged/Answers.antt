use Rattle.std.proofs.Common.{rules}
use Rattle.job.proofs.ReadingBytes.{judged_there, judged_not}
use Rattle.job.proofs.reader.Reader.judged.Goals as goal

pub returns-then-not-contains-clause-value : goal.returns-then-not-contains-clause-value
returns-then-not-contains-clause-value c = judged_not _ _ _ _ _ c.in_ok-b.ensures.value (search rules)

pub returns-clause-value : goal.returns-clause-value
returns-clause-value c = judged_there _ _ _ _ _ c.in_ok-b.ensures.value (search rules) (search rules)
