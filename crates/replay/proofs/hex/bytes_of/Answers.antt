use Rattle.std.proofs.Common.{◌∙◌, sym}
use Rattle.std.specs.Slice.Iter.{chunks_rest}
use Rattle.replay.proofs.Digits.{one_more}
use Rattle.replay.proofs.hex.bytes_of.Goals as goal

pub loop-pair-preserved : goal.loop-pair-preserved
loop-pair-preserved c =
    let s = c.in-Some.ensures.steps in
    let found = sym c.in_ok-b.ensures.ok_part ∙ c.byte_of.ensures in
    record {
      pairs = s.0 ∙ c.loop-pair.invariant.pairs;
      so_far = cc (one_more c.loop-pair.bytes.items (chunks_rest c.loop-pair.pair-iterator) c.in-Some.pair.now (chunks_rest c.next.new.self) c.in_ok-b.b s.1.0 found, c.loop-pair.invariant.so_far, c.in_ok-push.ensures.items);
    }
