use Rattle.std.proofs.Common.{◌≡◌, ℕ, ◌+◌, ◌-◌, ◌≤◌, suc, [], ◌∷◌, refl, sym, ap, ◌∙◌, ap₂, arith}
use Rattle.field.specs.Ring.{RingMeaning, one}
use Rattle.field.specs.Polynomial.{product, product_of}
use Rattle.poly.proofs.Results.{accepted}
use Rattle.bench.specs.Drawn.{linear_factors}
use Rattle.bench.proofs.set.linear_product.Goals as goal

-- the factors with one code more
one_more : (m : RingMeaning) (a : ℕ) → 1 ≤ a → linear_factors m (a + 1 - 1) ≡ (m.opposite a ∷ one m ∷ []) ∷ linear_factors m (a - 1)
unfolding linear_factors
one_more m a h =
    let e : a + 1 - 1 ≡ suc (a - 1) = omega arith in
    let back : suc (a - 1) ≡ a = omega arith in
    ap (linear_factors m) e ∙ ap (λ (k : ℕ). (m.opposite k ∷ one m ∷ []) ∷ linear_factors m (a - 1)) back

pub loop-a-init : goal.loop-a-init
unfolding product_of linear_factors
loop-a-init g c = record { length_fits = omega arith; product_so_far = refl; whole_buffer = refl }

pub loop-a-preserved : goal.loop-a-preserved
unfolding product_of
loop-a-preserved g c =
    let m : RingMeaning = g.R.Ring.meaning c.args.ring.now in
    let w = accepted _ _ _ _ _ c.in_ok-n.ensures in
    let factor = ap (λ (x : ℕ). x ∷ 1 ∷ []) c.opposite.ensures in
    record {
      length_fits = omega (arith, w.2, c.loop-a.invariant.whole_buffer);
      product_so_far =
          w.3 ∙ w.1 ∙ ap₂ (product m) factor c.loop-a.invariant.product_so_far ∙ ap (product_of m) (sym (one_more m c.loop-a.a (omega arith)));
      whole_buffer = c.product.auto.out ∙ c.loop-a.invariant.whole_buffer;
    }
