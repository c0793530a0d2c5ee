use Rattle.std.proofs.Common.{◌≡◌, ℕ, ◌+◌, ◌-◌, ◌*◌, ◌<◌, ◌≤◌, sym, ap, ◌∙◌, subst, arith}
use Rattle.field.specs.Ring.{RingMeaning}
use Rattle.split.specs.Matrix.{cell, Codes}
use Rattle.split.specs.Echelon.{Partly, Subtracted, pivot_of}
use Rattle.split.proofs.Frames.{along, frame_both, frame_pivot}
use Rattle.split.proofs.Steps.{echelon_frame, partly_more}
use Rattle.split.proofs.elimination.Matrix.reduce.Goals as goal

pub clear_at_pivot-requires-clause-pivot : goal.clear_at_pivot-requires-clause-pivot
clear_at_pivot-requires-clause-pivot g c =
    let d = c.args.self.now.d in
    let e = c.args.e in
    let r = c.loop-r.r in
    let inv = c.loop-r.invariant in
    let first : 1 ≤ r = omega (arith, c.loop-r.auto.r) in
    let pivot : pivot_of c.loop-r.self.codes.now d r < d =
    subst (λ (x : ℕ). x < d) (sym (frame_pivot d e r inv.1 (omega arith) (omega arith))) (c.requires.pivots r first c.loop-r-test.true) in
    subst (λ (n : ℕ). pivot_of c.loop-r.self.codes.now n r < n) (sym inv.0.2) pivot

pub loop-r-preserved : goal.loop-r-preserved
loop-r-preserved g c =
    let m = g.F.Ring.meaning c.args.self.now.field.now in
    let L = g.met.F.Ring.ring c.args.self.now.field.now c.requires.made in
    let d = c.args.self.now.d in
    let e = c.args.e in
    let r = c.loop-r.r in
    let codes = c.loop-r.self.codes.now in
    let new = c.clear_at_pivot.new.self.codes.now in
    let inv = c.loop-r.invariant in
    let kept = c.clear_at_pivot.ensures.kept in
    let same = ap (λ b. g.F.Ring.meaning b.now) inv.0.1 in
    let hcodes = along (λ (x : RingMeaning) (n : ℕ). Codes x (2 * (n * n)) codes) same inv.0.2 c.loop-r.self.below in
    let sub = along (λ (x : RingMeaning) (n : ℕ). Subtracted x n r e (cell codes n e (pivot_of codes n r)) codes new) same inv.0.2 c.clear_at_pivot.ensures.subtracted in
    let s : r ≡ r + 1 - 1 = omega arith in (
      (kept.0 ∙ inv.0.0, kept.1 ∙ inv.0.1, kept.2 ∙ inv.0.2),
      frame_both inv.1 sub.frame,
      λ old b ech part.
          subst (λ (x : ℕ). Partly m d old new e x) s
          (partly_more m L d e c.requires.low c.requires.row old codes new r (omega (arith, c.loop-r.auto.r)) c.loop-r-test.true b hcodes
          (echelon_frame m L d e c.requires.low c.requires.row old c.args.self.now.codes.now codes (e - 1) (omega arith) inv.1 ech) sub (inv.2 old b ech part)),
    )
