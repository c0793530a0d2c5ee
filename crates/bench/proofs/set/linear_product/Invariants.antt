use Rattle.std.proofs.Common.{◌≡◌, ◌-◌, ◌≤◌, length, take}
use Rattle.field.specs.Polynomial.{product_of}
use Rattle.bench.specs.Drawn.{linear_factors}
use Rattle.bench.proofs.set.linear_product.Given as goal

abbrev pub invariant-loop-a : goal.invariant-loop-a
invariant-loop-a g l = record {
  length_fits : l.n ≤ 128;
  product_so_far : take l.n l.codes ≡ product_of (g.R.Ring.meaning l.ring) (linear_factors (g.R.Ring.meaning l.ring) (l.a - 1));
  whole_buffer : length l.codes ≡ 128;
}
