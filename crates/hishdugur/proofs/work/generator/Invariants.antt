use Rattle.std.proofs.Common.{◌≡◌, ◌-◌, ◌≤◌, length, take}
use Rattle.field.specs.Polynomial.{product_of}
use Rattle.hishdugur.specs.Generator.{linear_factors}
use Rattle.hishdugur.proofs.work.generator.Given as goal

abbrev pub invariant-loop-i : goal.invariant-loop-i
invariant-loop-i g l = record {
  length_fits : l.n ≤ 128;
  product_so_far : take l.n l.out ≡ product_of (g.R.Ring.meaning l.ring) (linear_factors (g.R.Ring.meaning l.ring) (l.i - 112));
  whole_buffer : length l.out ≡ 128;
}
