use Rattle.std.proofs.Common.{◌∙◌, ap₂, Some, None, arith}
use Rattle.replay.specs.Hex.{both}
use Rattle.replay.proofs.Digits.{digit_known, pair_known}
use Rattle.replay.proofs.hex.byte_of.Goals as goal

pub returns-in_err-low : goal.returns-in_err-low
returns-in_err-low c =
    c.from_residual-in_err-low.ensures
    ∙ ap₂ both (digit_known c.from.result (Some c.in_ok-high.high) c.in_ok-high.ensures.value) (digit_known c.from-2.result None c.in_err-low.ensures.value)
    ∙ pair_known c.args.pair.now _ _ (omega arith) (omega arith) c.from.ensures c.from-2.ensures

pub returns : goal.returns
returns c =
    ap₂ both (digit_known c.from.result (Some c.in_ok-high.high) c.in_ok-high.ensures.value) (digit_known c.from-2.result (Some c.in_ok-low.low) c.in_ok-low.ensures.value)
    ∙ pair_known c.args.pair.now _ _ (omega arith) (omega arith) c.from.ensures c.from-2.ensures
