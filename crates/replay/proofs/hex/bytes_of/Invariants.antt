use Rattle.std.proofs.Common.{◌≡◌}
use Rattle.std.specs.Slice.Iter.{chunks_rest, chunks_size}
use Rattle.replay.specs.Hex.{text_value}
use Rattle.replay.proofs.Digits.{behind}
use Rattle.replay.proofs.hex.bytes_of.Given as goal

abbrev pub invariant-loop-pair : goal.invariant-loop-pair
invariant-loop-pair l = record {
  pairs : chunks_size l.pair-iterator ≡ 2;
  so_far : behind l.bytes.items (text_value (chunks_rest l.pair-iterator)) ≡ text_value l.text;
}
