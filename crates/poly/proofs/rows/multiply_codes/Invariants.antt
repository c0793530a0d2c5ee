use Rattle.poly.proofs.Products.{Partial}
use Rattle.poly.proofs.rows.multiply_codes.Given as goal

abbrev pub invariant-loop-i : goal.invariant-loop-i
invariant-loop-i g l = Partial (g.R.Ring.meaning l.ring) l.f l.g l.i l.row
