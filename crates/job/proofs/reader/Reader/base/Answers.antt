use Rattle.std.proofs.Common.{Ok, Err, ◌∙◌, arith}
use Rattle.job.proofs.ReadingBytes.{passed, judged_after, given_moved, base_prime, base_symbols}
use Rattle.job.proofs.reader.Reader.base.Goals as goal

pub returns-in_err-judged-clause-value : goal.returns-in_err-judged-clause-value
returns-in_err-judged-clause-value c = passed _ _ c.from_residual.ensures.1 ∙ judged_after Err _ _ _ 1 2 _ (Err _) c.in_err-judged.ensures.value

pub returns-in_err-byte-in-1-clause-value : goal.returns-in_err-byte-in-1-clause-value
returns-in_err-byte-in-1-clause-value c =
    let kind = c.in_ok-judged.ensures in
    passed _ _ c.from_residual-in_err-byte-in-1.ensures.1
    ∙ base_prime _ _ _ kind.value c.in-1.is (Err _) (c.in_err-byte-in-1.ensures.value ∙ given_moved kind.moved _ (omega arith))

pub returns-in_ok-byte-in-1-clause-value : goal.returns-in_ok-byte-in-1-clause-value
returns-in_ok-byte-in-1-clause-value c =
    let kind = c.in_ok-judged.ensures in
    base_prime _ _ _ kind.value c.in-1.is (Ok _) (c.in_ok-byte-in-1.ensures.value ∙ given_moved kind.moved _ (omega arith))

pub returns-in_default-clause-value : goal.returns-in_default-clause-value
returns-in_default-clause-value c = base_symbols _ _ _ c.in_ok-judged.ensures.value (λ e. omega (arith, e))
