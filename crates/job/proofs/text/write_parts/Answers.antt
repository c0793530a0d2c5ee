use Rattle.std.proofs.Common.{get_or, refl, arith}
use Rattle.std.proofs.lemmas.List.{get_or_default}
use Rattle.std.proofs.Output.{has_written_of_eq, has_written_append}
use Rattle.job.proofs.Texts.{put_none, lines_more, lines_none}
use Rattle.job.proofs.text.write_parts.Goals as goal

pub loop-part-init : goal.loop-part-init
loop-part-init g c plain = has_written_of_eq g.W.Write.write_str_gives _ _ _ _ lines_none (put_none g.W.Write.write_str_gives _ plain)

pub loop-part-preserved : goal.loop-part-preserved
loop-part-preserved g c plain =
    let xs = c.args.parts.now in
    let i = c.loop-part.part-index in
    let so_far = c.loop-part.invariant plain in
    let next = c.in_ok-write_part.ensures so_far.plain refl in
    has_written_of_eq g.W.Write.write_str_gives _ _ _ _ (lines_more xs i (get_or xs i _) (omega arith) (get_or_default xs i _ _ (omega arith)))
    (has_written_append g.W.Write.write_str_gives _ _ _ _ _ so_far next)
