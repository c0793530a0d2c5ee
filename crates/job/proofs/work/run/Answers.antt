use Rattle.job.proofs.OneOutcome.{one_outcome}
use Rattle.job.proofs.Promise.{listings_split}
use Rattle.job.proofs.work.run.Goals as goal

pub returns : goal.returns
returns c = record { gives = c.start.ensures.gives; once = one_outcome; splits = listings_split }
