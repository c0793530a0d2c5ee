use Rattle.std.proofs.Common.{get_or, refl, arith}
use Rattle.std.proofs.lemmas.List.{get_or_default}
use Rattle.std.proofs.Output.{has_written_of_eq, has_written_append}
use Rattle.job.proofs.Texts.{put_none, spaced_more, spaced_none}
use Rattle.job.proofs.text.write_codes.Goals as goal

pub loop-code-init : goal.loop-code-init
loop-code-init g c plain = has_written_of_eq g.W.Write.write_str_gives _ _ _ _ spaced_none (put_none g.W.Write.write_str_gives _ plain)

pub loop-code-preserved : goal.loop-code-preserved
loop-code-preserved g c plain =
    let xs = c.args.codes.now in
    let i = c.loop-code.code-index in
    let so_far = c.loop-code.invariant plain in
    let next = c.in_ok-write.ensures.writes so_far.plain refl in
    has_written_of_eq g.W.Write.write_str_gives _ _ _ _ (spaced_more xs i (get_or xs i 0) (omega arith) (get_or_default xs i 0 (get_or xs i 0) (omega arith)))
    (has_written_append g.W.Write.write_str_gives _ _ _ _ _ so_far next)
