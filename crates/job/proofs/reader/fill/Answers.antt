use Rattle.std.proofs.Common.{ap, ◌∙◌, arith}
use Rattle.job.specs.Reading.{word}
use Rattle.job.proofs.ReadingBytes.{words_are}
use Rattle.job.proofs.reader.fill.Goals as goal

pub returns : goal.returns
returns c = words_are c.args.bytes.now _ 0 _ (omega arith) (λ k h. c.loop-i.invariant k (omega arith) ∙ ap (word c.args.bytes.now) (omega arith))
