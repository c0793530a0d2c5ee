use Rattle.std.proofs.Common.{◌-◌, ◌≤◌, length, drop}
use Rattle.field.specs.Ring.{RingLaws}
use Rattle.field.proofs.RowProducts.{Reduced}
use Rattle.field.proofs.row_products.multiply_rows.Given as goal

-- the row is the product with the codes that were read
abbrev pub invariant-loop-code : goal.invariant-loop-code
invariant-loop-code g l =
    (L : RingLaws (g.R.Ring.meaning l.ring)) (some : 1 ≤ length l.lower) → Reduced (g.R.Ring.meaning l.ring) L l.lower some (drop (length l.left - length l.yielded) l.left) l.right l.row
