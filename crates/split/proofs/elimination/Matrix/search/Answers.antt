use Rattle.std.proofs.Common.{◌≡◌, ℕ, ◌+◌, ◌-◌, ◌*◌, ◌<◌, ◌≤◌, List, sym, ap, ◌∙◌, subst, arith}
use Rattle.field.specs.Ring.{RingMeaning}
use Rattle.split.specs.Echelon.{Echelon, Frame, Clears, Scaled}
use Rattle.split.specs.Matrix.{Independent, Codes, cell}
use Rattle.split.proofs.Rows.{combination_code}
use Rattle.split.proofs.Frames.{along, frame_row, frame_past, frame_both}
use Rattle.split.proofs.Steps.{echelon_more}
use Rattle.split.proofs.Independence.{independent, independent_all, same_combination}
use Rattle.split.proofs.elimination.Matrix.search.Goals as goal

-- Row e is the next of the echelon form.
pub rows-preserved : goal.rows-preserved
rows-preserved g c =
    let m = g.F.Ring.meaning c.args.self.now.field.now in
    let L = g.met.F.Ring.ring c.args.self.now.field.now c.requires.made in
    let d = c.args.self.now.d in
    let e = c.rows.e in
    let old = c.args.self.now.codes.now in
    let start = c.rows.self.codes.now in
    let ready = c.clear_row.new.self.codes.now in
    let found = c.loop-column.self.codes.now in
    let inv = c.rows.invariant in
    let low : 1 ≤ e = omega (arith, c.rows.auto.e) in
    let high : e < d = c.rows-test.true in
    let told = c.clear_row.ensures in
    let same = c.loop-column.invariant.0 in
    let lent = ap (λ x. x.codes.ghost_name) same ∙ told.kept.0 ∙ inv.0.0 in
    let field = ap (λ x. x.field) same ∙ told.kept.1 ∙ inv.0.1 in
    let long = ap (λ x. x.d) same ∙ told.kept.2 ∙ inv.0.2 in
    let back : ready ≡ found = sym (ap (λ x. x.codes.now) same) in
    let hold : Codes m (d * d) old = λ k h. c.args.self.now.below k (omega arith) in
    let hfound = along (λ (x : RingMeaning) (n : ℕ). Codes x (2 * (n * n)) found) (ap (λ b. g.F.Ring.meaning b.now) field) long c.loop-column.self.below in
    let clears = along (λ (x : RingMeaning) (n : ℕ). Frame n e start found × Clears x n e start found) (ap (λ b. g.F.Ring.meaning b.now) inv.0.1) inv.0.2
    (subst (λ (x : List ℕ). Frame c.rows.self.d e start x) back told.frame, subst (λ (x : List ℕ). Clears (g.F.Ring.meaning c.rows.self.field.now) c.rows.self.d e start x) back told.cleared) in
    let cleared = clears.1 old hold inv.1 (λ i h. inv.2 e i (omega arith) high h) in
    let new = c.scale_to_one.new.self.codes.now in
    let kept = c.scale_to_one.ensures.kept in
    let u = c.scale_to_one.ensures.scaled.0 in
    let scaled = along (λ (x : RingMeaning) (n : ℕ). Scaled x n e u found new) (ap (λ b. g.F.Ring.meaning b.now) field) long c.scale_to_one.ensures.scaled.1 in
    let frame = frame_both clears.0 scaled.frame in
    let s : e ≡ e + 1 - 1 = omega arith in (
      (kept.0 ∙ lent, kept.1 ∙ field, kept.2 ∙ long),
      subst (λ (x : ℕ). Echelon m d old new x) s (echelon_more m L d e low high old found new u hold hfound cleared.0 cleared.1 scaled),
      λ j i h k l. frame_row d e j i frame (omega arith) (omega arith) l ∙ inv.2 j i (omega arith) k l,
      λ k h. frame_past d e k high frame h ∙ inv.3 k h,
    )

-- Row e is zero.
pub returns-in-rows-clause-answer : goal.returns-in-rows-clause-answer
returns-in-rows-clause-answer g c =
    let m = g.F.Ring.meaning c.args.self.now.field.now in
    let L = g.met.F.Ring.ring c.args.self.now.field.now c.requires.made in
    let d = c.args.self.now.d in
    let e = c.rows.e in
    let old = c.args.self.now.codes.now in
    let start = c.rows.self.codes.now in
    let ready = c.clear_row.new.self.codes.now in
    let found = c.loop-column.self.codes.now in
    let inv = c.rows.invariant in
    let low : 1 ≤ e = omega (arith, c.rows.auto.e) in
    let high : e < d = c.rows-test.true in
    let told = c.clear_row.ensures in
    let same = c.loop-column.invariant.0 in
    let field = ap (λ x. x.field) same ∙ told.kept.1 ∙ inv.0.1 in
    let long = ap (λ x. x.d) same ∙ told.kept.2 ∙ inv.0.2 in
    let back : ready ≡ found = sym (ap (λ x. x.codes.now) same) in
    let hold : Codes m (d * d) old = λ k h. c.args.self.now.below k (omega arith) in
    let hfound = along (λ (x : RingMeaning) (n : ℕ). Codes x (2 * (n * n)) found) (ap (λ b. g.F.Ring.meaning b.now) field) long c.loop-column.self.below in
    let clears = along (λ (x : RingMeaning) (n : ℕ). Frame n e start found × Clears x n e start found) (ap (λ b. g.F.Ring.meaning b.now) inv.0.1) inv.0.2
    (subst (λ (x : List ℕ). Frame c.rows.self.d e start x) back told.frame, subst (λ (x : List ℕ). Clears (g.F.Ring.meaning c.rows.self.field.now) c.rows.self.d e start x) back told.cleared) in
    let cleared = clears.1 old hold inv.1 (λ i h. inv.2 e i (omega arith) high h) in
    let hstart = along (λ (x : RingMeaning) (n : ℕ). Codes x (2 * (n * n)) start) (ap (λ b. g.F.Ring.meaning b.now) inv.0.1) inv.0.2 c.rows.self.below in
    let part = cleared.1 in
    let least : Independent m d (e - 1) old = independent m L d (e - 1) old start (omega arith) hold hstart inv.1 in
    let vanishes = λ (i : ℕ) (h : i < d). sym (part.made i h) ∙ c.loop-column.invariant.1 i (omega arith) in
    record {
      low = low;
      high = high;
      unit = part.unit;
      none_first = part.none_first;
      none_beyond = part.none_beyond;
      vanishes = vanishes;
      least = least;
      only = λ b hb unit none zero.
          same_combination m L d e old low high hold least b (cell found d (d + e)) hb (λ j h. combination_code m d e j found hfound high h) unit part.unit none part.none_beyond zero vanishes;
    }

-- All rows are in echelon form.
pub returns-clause-answer : goal.returns-clause-answer
returns-clause-answer g c =
    let m = g.F.Ring.meaning c.args.self.now.field.now in
    let L = g.met.F.Ring.ring c.args.self.now.field.now c.requires.made in
    let d = c.args.self.now.d in
    let old = c.args.self.now.codes.now in
    let inv = c.rows.invariant in
    let codes = along (λ (x : RingMeaning) (n : ℕ). Codes x (2 * (n * n)) c.rows.self.codes.now) (ap (λ b. g.F.Ring.meaning b.now) inv.0.1) inv.0.2 c.rows.self.below in
    independent_all m L d c.rows.e old c.rows.self.codes.now (omega (arith, c.rows.auto.e)) c.rows-test.false c.rows.auto.e-end (λ k h. c.args.self.now.below k (omega arith)) codes inv.1
