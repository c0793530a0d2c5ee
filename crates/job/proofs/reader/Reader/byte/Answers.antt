use Rattle.std.proofs.Common.{ℕ, ◌+◌, List, Ok, Err, sym, ap, ◌∙◌, arith}
use Rattle.job.specs.Reading.{byte as byte_at}
use Rattle.job.proofs.ReadingBytes.{given_there, byte_taken}
use Rattle.job.proofs.reader.Reader.byte.Goals as goal

pub returns-clause-value : goal.returns-clause-value
returns-clause-value c =
    let bytes : List ℕ = c.args.self.now.bytes.now in
    let i : ℕ = c.args.self.now.at in
    let h = c.in_ok-take.ensures in
    ap Ok (byte_taken bytes _ i 1 h.taken 0 i (omega arith) (omega arith)) ∙ sym (given_there Err bytes (Ok (byte_at bytes i)) (i + 1) h.enough)
