use Rattle.std.proofs.Common.{ℕ, ◌-◌, ◌<◌, sym, ap, subst, arith}
use Rattle.field.specs.Ring.{RingMeaning}
use Rattle.split.specs.Echelon.{Frame, Reduces, pivot_of}
use Rattle.split.proofs.Frames.{along, frame_one, frame_pivot}
use Rattle.split.proofs.Steps.{echelon_frame, partly_none}
use Rattle.split.proofs.elimination.Matrix.clear_row.Goals as goal

pub reduce-requires-clause-pivots : goal.reduce-requires-clause-pivots
reduce-requires-clause-pivots g c r h k =
    let d = c.args.self.now.d in
    let e = c.args.e in
    let w = c.start_combination.ensures.written in
    let kept = c.start_combination.ensures.kept in
    subst (λ (n : ℕ). pivot_of c.start_combination.new.self.codes.now n r < n) (sym kept.2)
    (subst (λ (x : ℕ). x < d) (sym (frame_pivot d e r (frame_one d e w) (omega arith) (omega arith))) (c.requires.pivots r h k))

pub returns-clause-cleared : goal.returns-clause-cleared
returns-clause-cleared g c old b ech same =
    let m = g.F.Ring.meaning c.args.self.now.field.now in
    let L = g.met.F.Ring.ring c.args.self.now.field.now c.requires.made in
    let d = c.args.self.now.d in
    let e = c.args.e in
    let start = c.args.self.now.codes.now in
    let ready = c.start_combination.new.self.codes.now in
    let new = c.reduce.new.self.codes.now in
    let w = c.start_combination.ensures.written in
    let kept = c.start_combination.ensures.kept in
    let f : Frame d e ready new = subst (λ (n : ℕ). Frame n e ready new) kept.2 c.reduce.ensures.frame in
    let reduced = along (λ (x : RingMeaning) (n : ℕ). Reduces x n e ready new (e - 1)) (ap (λ b. g.F.Ring.meaning b.now) kept.1) kept.2 c.reduce.ensures.reduced in
    let lt : e - 1 < e = let h = c.requires.low in omega arith in
    let ech' = echelon_frame m L d e c.requires.low c.requires.row old start ready (e - 1) lt (frame_one d e w) ech in (
      echelon_frame m L d e c.requires.low c.requires.row old ready new (e - 1) lt f ech',
      reduced old b ech' (partly_none m L d e c.requires.low c.requires.row old start ready b w same),
    )
