use Rattle.std.proofs.Common.{◌≡◌, ℕ, ◌+◌, ◌*◌, ◌<◌, ◌≤◌, List, length, sym, refl, ◌∙◌, subst, zero-mul, arith}
use Rattle.field.specs.Ring.{RingMeaning}
use Rattle.field.specs.Polynomial.{degree}
use Rattle.field.specs.Rows.{Written}
use Rattle.split.specs.FixedRows.{changed_at}
use Rattle.field.specs.Scalars.{zero_is_code}
use Rattle.split.proofs.Rows.{row_end}
use Rattle.split.proofs.PowerFilling.{power_none_of, power_next_of, power_put_rows, constants_coded, constants_all}
use Rattle.split.proofs.MatrixRows.{changed_code, row_codes, row_past}
use Rattle.split.proofs.sieves.fill_powers.Goals as goal

pub loop-j-init : goal.loop-j-init
loop-j-init g c =
    let m : RingMeaning = g.R.Ring.meaning c.args.modulo.now.ring.now in
    let s = c.requires.start in (
      record { sized = s.sized; codes = s.codes },
      λ i h. absurd (omega arith),
      λ k h. absurd (omega (arith, zero-mul (degree c.args.modulo.now.f.now))),
      λ q cq r. (power_none_of m (g.met.R.Ring.ring c.args.modulo.now.ring.now c.requires.made) c.args.modulo.now.f.now c.args.modulo.now.taken q c.args.row.now s, λ i a b. absurd (omega arith)),
      λ k h. refl,
    )

pub put_row-requires : goal.put_row-requires
put_row-requires g c =
    let d : ℕ = degree c.args.modulo.now.f.now in
    let h : c.loop-j.j < d = omega (arith, c.requires.constants) in
    record {
      column = omega (arith, c.loop-j.invariant.0.sized);
      within = subst (λ (x : ℕ). c.loop-j.j * x + x ≤ length c.loop-j.codes) (sym c.loop-j.invariant.0.sized) (omega (arith, row_end d c.loop-j.j d h, c.requires.space));
    }

pub loop-j-preserved : goal.loop-j-preserved
loop-j-preserved g c =
    let m : RingMeaning = g.R.Ring.meaning c.args.modulo.now.ring.now in
    let L = g.met.R.Ring.ring c.args.modulo.now.ring.now c.requires.made in
    let f : List ℕ = c.args.modulo.now.f.now in
    let t = c.args.modulo.now.taken in
    let j : ℕ = c.loop-j.j in
    let row : List ℕ = c.loop-j.row in
    let old : List ℕ = c.loop-j.codes in
    let new : List ℕ = c.put_row.new.codes in
    let constants : List ℕ = c.loop-j.constants in
    let inv = c.loop-j.invariant in
    let high : j < degree f = omega (arith, c.requires.constants) in
    let room : degree f ≤ length constants = omega (arith, c.requires.constants) in
    let put : Written old new (j * degree f) (degree f) (changed_at row 0 0) = subst (λ (x : ℕ). Written old new (j * x) x (changed_at row 0 0)) inv.0.sized c.put_row.ensures in
    let n = c.multiply.ensures in (
      record { sized = n.sized; codes = n.codes },
      constants_coded m L f t j high row constants old new inv.0 room put inv.1,
      row_codes m (degree f) j old new _ put (changed_code m row 0 0 (zero_is_code m L) inv.0.codes) inv.2,
      λ q cq r. let k = inv.3 q cq r in
          (power_next_of m L f t q row c.args.fixed.now c.multiply.new.row j cq k.0 r n, power_put_rows m L f t j high row constants old new inv.0 room put q k.0 k.1),
      λ i h. row_past (degree f) j old new _ high put i h ∙ inv.4 i h,
    )

pub returns : goal.returns
returns g c =
    let d : ℕ = degree c.args.modulo.now.f.now in
    let e : d ≡ c.loop-j.j = omega (arith, c.requires.start.sized, c.loop-j-test.false, c.loop-j.auto.j-end) in
    let inv = c.loop-j.invariant in
    record {
      constants = constants_all (g.R.Ring.meaning c.args.modulo.now.ring.now) (g.met.R.Ring.ring c.args.modulo.now.ring.now c.requires.made) c.loop-j.constants c.loop-j.j (omega arith) inv.1;
      below = λ k h. inv.2 k (subst (λ (x : ℕ). k < x * d) e h);
      rows = λ q cq r i a b. (inv.3 q cq r).1 i a (omega arith);
      past = inv.4;
    }
