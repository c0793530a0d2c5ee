use Rattle.std.proofs.Common.{◌≡◌, ℕ, ◌+◌, ◌-◌, ◌<◌, ◌≤◌, suc, List, [], ◌∷◌, length, take, set, sym, refl, ap, ◌∙◌, ap₂, arith, rules}
use Rattle.field.specs.Ring.{RingMeaning}
use Rattle.field.specs.Polynomial.{product, product_of}
use Rattle.poly.proofs.Results.{accepted}
use Rattle.hishdugur.specs.Generator.{linear_at, linear_factors}
use Rattle.hishdugur.proofs.work.generator.Goals as goal

first_set : (xs : List ℕ) (v : ℕ) → 0 < length xs → take 1 (set xs 0 v) ≡ v ∷ []
first_set [] v h = absurd (omega arith)
first_set (x ∷ xs) v h = refl

-- the factors with one root more
one_more : (m : RingMeaning) (i : ℕ) → 112 ≤ i → linear_factors m (i + 1 - 112) ≡ linear_at m i ∷ linear_factors m (i - 112)
unfolding linear_factors
one_more m i h =
    let e : i + 1 - 112 ≡ suc (i - 112) = omega arith in
    let back : 112 + (i - 112) ≡ i = omega arith in
    ap (linear_factors m) e ∙ ap (λ (k : ℕ). linear_at m k ∷ linear_factors m (i - 112)) back

pub loop-i-init : goal.loop-i-init
unfolding product_of linear_factors
loop-i-init g c = record {
  length_fits = omega arith;
  product_so_far = first_set c.args.out.now 1 (search rules);
  whole_buffer = search rules;
}

pub loop-i-preserved : goal.loop-i-preserved
unfolding product_of
loop-i-preserved g c =
    let m : RingMeaning = g.R.Ring.meaning c.args.ring.now in
    let w = accepted _ _ _ _ _ c.in_ok-n.ensures in
    let factor = ap (λ (x : ℕ). x ∷ 1 ∷ []) (c.opposite.ensures ∙ ap m.opposite c.root.ensures) in
    record {
      length_fits = omega (arith, w.2, c.loop-i.invariant.whole_buffer);
      product_so_far =
          w.3 ∙ w.1 ∙ ap₂ (product m) factor c.loop-i.invariant.product_so_far ∙ ap (product_of m) (sym (one_more m c.loop-i.i (omega arith)));
      whole_buffer = c.product.auto.out ∙ c.loop-i.invariant.whole_buffer;
    }
