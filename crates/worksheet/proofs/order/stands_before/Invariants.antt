use Rattle.std.proofs.Common.{◌≡◌, length}
use Rattle.worksheet.proofs.FromTheTop.{from_top}
use Rattle.worksheet.proofs.order.stands_before.Given as goal

abbrev pub invariant-loop-i : goal.invariant-loop-i
invariant-loop-i l = from_top (length l.a) l.a l.b ≡ from_top l.i l.a l.b
