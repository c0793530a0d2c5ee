use Rattle.std.proofs.Common.{◌≡◌, ◌-◌, length, take, ◌∙◌, ap, arith, rules}
use Rattle.std.proofs.lemmas.List.{length-take-le}
use Rattle.field.specs.Polynomial.{or_zero}
use Rattle.poly.proofs.Trimming.{trimmed_front, trimmed_short, trimmed_whole}
use Rattle.poly.proofs.rows.polynomial_of.Goals as goal

pub loop-codes-preserved : goal.loop-codes-preserved
loop-codes-preserved c =
    let codes = c.loop-codes.codes.now in
    let front : length (take (length codes - 1) codes) ≡ length codes - 1 = length-take-le (length codes - 1) codes (omega arith) in
    record {
      some = omega (arith, front, c.in-0.len_at_least);
      within = omega (arith, front, c.loop-codes.invariant.within);
      same = trimmed_front codes (search rules) ∙ c.loop-codes.invariant.same;
    }

pub returns-in_default : goal.returns-in_default
returns-in_default c = trimmed_short c.loop-codes.codes.now c.loop-codes.invariant.some (omega (arith, c.in_default.len_below)) ∙ ap or_zero c.loop-codes.invariant.same

pub returns-in_default-2 : goal.returns-in_default-2
returns-in_default-2 c = trimmed_whole c.loop-codes.codes.now c.loop-codes.invariant.some (search rules) ∙ ap or_zero c.loop-codes.invariant.same
