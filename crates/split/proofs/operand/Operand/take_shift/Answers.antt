use Rattle.std.proofs.Common.{◌≡◌, subst}
use Rattle.split.specs.Splitting.{SmallestShift}
use Rattle.split.proofs.Shifting.{same_divisor}
use Rattle.split.proofs.operand.Operand.take_shift.Goals as goal

pub returns : goal.returns
returns g c =
    let t = c.args.self.now in
    let s = c.smallest_shift-w in
    let d = c.shift_divisor-divisor in
    let same : s.ensures.0 ≡ d.result = same_divisor _ t.laws _ _ t.taken c.requires.least s.result s.ensures.0 d.result s.ensures.1.divisor d.ensures in
    (d.result, s.result, subst (SmallestShift (g.F.Ring.meaning t.field.now) t.f.now c.args.fixed.now s.result) same s.ensures.1, c.write_pair.ensures)
