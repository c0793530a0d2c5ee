use Rattle.std.proofs.Common.{◌≡◌, ℕ, ◌<◌, get_or}
use Rattle.bench.specs.Drawn.{number, drawn_code}
use Rattle.bench.proofs.set.draw.Given as goal

abbrev pub invariant-loop-c : goal.invariant-loop-c
invariant-loop-c g l = record {
  reached : l.x ≡ number l.c-index;
  so_far : (k : ℕ) → k < l.c-index → get_or l.codes k 0 ≡ drawn_code (g.R.Ring.meaning l.ring) k;
}
