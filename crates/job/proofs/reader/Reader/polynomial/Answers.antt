use Rattle.std.proofs.Common.{ℕ, ◌+◌, ◌*◌, List, Ok, Err, ap, ◌∙◌, arith}
use Rattle.std.proofs.lemmas.List.{length-take-le, take_at}
use Rattle.job.specs.Reading.{words}
use Rattle.job.proofs.ReadingBytes.{passed, judged_after, counted, moved_short, moved_there, taken_moved, words_taken}
use Rattle.job.proofs.reader.Reader.polynomial.Goals as goal

pub returns-in_err-judged-clause-value : goal.returns-in_err-judged-clause-value
returns-in_err-judged-clause-value c = passed _ _ c.from_residual.ensures.1 ∙ judged_after Err _ _ _ 1 128 _ (Err _) c.in_err-judged.ensures.value

pub returns-in_err-take-clause-value : goal.returns-in_err-take-clause-value
returns-in_err-take-clause-value c =
    let read = c.in_ok-judged.ensures in
    let n = counted _ _ _ _ _ read.value in
    let few = c.in_err-take.ensures.few in
    passed _ _ c.from_residual-in_err-take.ensures.1 ∙ moved_short _ _ _ read.moved (omega (arith, n.0, c.from-n.ensures)) _ few.0 few.1 ∙ judged_after Err _ _ _ 1 128 _ (Ok _) read.value

pub returns-clause-value : goal.returns-clause-value
returns-clause-value c =
    let read = c.in_ok-judged.ensures in
    let n = counted _ _ _ _ _ read.value in
    ap Ok (c.from-n.ensures ∙ n.0) ∙ moved_there _ _ (Ok _) read.moved (omega (arith, n.0, c.from-n.ensures)) c.in_ok-take.ensures.enough ∙ judged_after Err _ _ _ 1 128 _ (Ok _) read.value

pub returns-clause-codes : goal.returns-clause-codes
returns-clause-codes c =
    let bytes : List ℕ = c.args.self.now.bytes.now in
    let i : ℕ = c.args.self.now.at in
    let k : ℕ = c.from-n.result in
    let read = c.in_ok-judged.ensures in
    let long = length-take-le k c.args.codes.now (omega (arith, read.allowed.1, c.from-n.ensures)) in
    let taken = c.in_ok-take.ensures.taken ∙ taken_moved read.moved (2 * k) in
    take_at c.fill.new.row _ k (c.fill.auto.row ∙ long) ∙ c.fill.ensures ∙ ap (words c.in_ok-take.field-0.now 0) long ∙ words_taken bytes _ (i + 1) k (2 * k) taken (omega arith)
