use Rattle.std.proofs.Common.{◌≡◌, ℕ, ◌+◌, ◌*◌, ◌<◌, ◌≤◌, List, length, sym, refl, ap, ◌∙◌, subst, add-mul, one-mul, zero-mul, arith}
use Rattle.field.specs.Ring.{RingMeaning, one}
use Rattle.field.specs.Polynomial.{coefficient, degree}
use Rattle.field.specs.Rows.{Written}
use Rattle.split.specs.FixedRows.{PowerRow, changed_at}
use Rattle.split.proofs.Rows.{row_end}
use Rattle.split.proofs.MatrixRows.{changed_code, row_codes, row_past, row_put_rows}
use Rattle.split.proofs.fixing.fill_rows.Goals as goal

pub put_row-requires : goal.put_row-requires
put_row-requires g c =
    let d : ℕ = degree c.args.modulo.now.f.now in
    let long : length c.loop-j.row ≡ d = c.loop-j.invariant.0.sized in
    let h : c.loop-j.j < d = omega (arith, c.requires.start.sized) in
    record {
      column = omega arith;
      within = subst (λ (x : ℕ). c.loop-j.j * x + x ≤ length c.loop-j.codes) (sym long) (omega (arith, row_end d c.loop-j.j d h, c.requires.space));
    }

pub loop-j-init : goal.loop-j-init
loop-j-init g c =
    let m : RingMeaning = g.R.Ring.meaning c.args.modulo.now.ring.now in (
      subst (λ (k : ℕ). PowerRow m c.args.modulo.now.f.now k c.args.row.now) (sym (zero-mul c.args.q)) c.requires.start,
      λ k h. absurd (omega (arith, zero-mul (degree c.args.modulo.now.f.now))),
      λ i a b. absurd (omega arith),
      λ k h. refl,
    )

pub loop-j-preserved : goal.loop-j-preserved
loop-j-preserved g c =
    let m : RingMeaning = g.R.Ring.meaning c.args.modulo.now.ring.now in
    let L = g.met.R.Ring.ring c.args.modulo.now.ring.now c.requires.made in
    let f : List ℕ = c.args.modulo.now.f.now in
    let j : ℕ = c.loop-j.j in
    let q : ℕ = c.args.q in
    let row : List ℕ = c.loop-j.row in
    let old : List ℕ = c.loop-j.codes in
    let new : List ℕ = c.put_row.new.codes in
    let inv = c.loop-j.invariant in
    let high : j < degree f = omega (arith, c.requires.start.sized) in
    let v : ℕ = c.sum-less_one.result in
    let less : v ≡ m.sum (coefficient row j) (m.opposite (one m)) = c.sum-less_one.ensures ∙ ap (m.sum (coefficient row j)) c.opposite.ensures in
    let code : v < m.order = subst (λ (x : ℕ). x < m.order) (sym c.sum-less_one.ensures) (L.sum_code _ _) in
    let put : Written old new (j * degree f) (degree f) (changed_at row j v) = subst (λ (x : ℕ). Written old new (j * x) x (changed_at row j v)) inv.0.sized c.put_row.ensures in
    let s : j * q + q ≡ (j + 1) * q = omega (arith, add-mul j 1 q, one-mul q) in (
      subst (λ (k : ℕ). PowerRow m f k c.advance.new.row) s (c.advance.ensures (j * q) inv.0),
      row_codes m (degree f) j old new _ put (changed_code m row j v code inv.0.codes) inv.1,
      row_put_rows m L f c.args.modulo.now.taken q j v c.requires.order high row old new inv.0 less put inv.2,
      λ k h. row_past (degree f) j old new _ high put k h ∙ inv.3 k h,
    )

pub returns : goal.returns
returns g c =
    let d : ℕ = degree c.args.modulo.now.f.now in
    let e : d ≡ c.loop-j.j = omega (arith, c.requires.start.sized, c.loop-j-test.false, c.loop-j.auto.j-end) in
    let inv = c.loop-j.invariant in
    record {
      below = λ k h. inv.1 k (subst (λ (x : ℕ). k < x * d) e h);
      rows = λ i a b. inv.2 i a (omega arith);
      past = inv.3;
    }
