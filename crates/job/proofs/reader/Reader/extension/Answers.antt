use Rattle.std.proofs.Common.{ℕ, ◌+◌, List, Ok, Err, Result, ◌∙◌, ap₂, arith}
use Rattle.job.specs.declared.fault.JobFault.{JobFault}
use Rattle.job.proofs.ReadingBytes.{passed, judged_after, moved_short, moved_there, taken_moved, byte_taken, word_taken}
use Rattle.job.proofs.reader.Reader.extension.Goals as goal

pub returns-in_err-judged-clause-value : goal.returns-in_err-judged-clause-value
returns-in_err-judged-clause-value c = passed _ _ c.from_residual.ensures.1 ∙ judged_after Err _ _ _ 3 3 _ (Err _) c.in_err-judged.ensures.value

pub returns-in_err-bytes-clause-value : goal.returns-in_err-bytes-clause-value
returns-in_err-bytes-clause-value c =
    let kind = c.in_ok-judged.ensures in
    let few = c.in_err-bytes.ensures.few in
    passed _ _ c.from_residual-in_err-bytes.ensures.1 ∙ moved_short 3 _ _ kind.moved (omega arith) _ few.0 few.1 ∙ judged_after Err _ _ _ 3 3 _ (Ok _) kind.value

pub returns-clause-value : goal.returns-clause-value
returns-clause-value c =
    let bytes : List ℕ = c.args.self.now.bytes.now in
    let i : ℕ = c.args.self.now.at in
    let kind = c.in_ok-judged.ensures in
    let taken = c.in_ok-bytes.ensures.taken ∙ taken_moved kind.moved 3 in
    let k = byte_taken bytes _ (i + 1) 3 taken 0 (i + 1) (omega arith) (omega arith) in
    let m = word_taken bytes c.in_ok-bytes.bytes.now (i + 1) 3 taken 1 (i + 2) (omega arith) (omega arith) in
    let answer : ℕ → ℕ → Result (ℕ × ℕ) JobFault = λ k m. Ok (k, m) in
    ap₂ answer k (omega (arith, c.from_le_bytes.ensures, m)) ∙ moved_there 3 (i + 4) _ kind.moved (omega arith) c.in_ok-bytes.ensures.enough ∙ judged_after Err _ bytes i 3 3 _ (Ok _) kind.value
