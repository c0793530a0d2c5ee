use Rattle.std.proofs.Common.{◌≡◌, ℕ, ◌-◌, length, take, drop, sym, refl, ap, ◌∙◌, arith}
use Rattle.std.specs.Iterator.Adapters.{zip_first, zip_second}
use Rattle.std.specs.Slice.Iter.{iter_rest}
use Rattle.std.proofs.lemmas.List.{length_push}
use Rattle.std.proofs.lemmas.Slice.Zip.{zip_turn, zip_end}
use Rattle.field.specs.Polynomial.{coefficient}
use Rattle.split.specs.Matrix.{combined}
use Rattle.split.proofs.Carrier.{combined_none, combined_more}
use Rattle.split.proofs.Parts.{part_length, part_at}
use Rattle.split.proofs.sieves.combine_constants.Goals as goal

pub loop-c-init : goal.loop-c-init
loop-c-init g c = combined_none (g.R.Ring.meaning c.args.ring.now) (coefficient c.args.combination.now) (coefficient c.args.constants.now)

pub loop-c-preserved : goal.loop-c-preserved
loop-c-preserved g c =
    let m = g.R.Ring.meaning c.args.ring.now in
    let a = c.args.combination.now in
    let b = c.args.constants.now in
    let n = length c.loop-c.yielded in
    let first : iter_rest (zip_first c.into_iter-c-iterator.result) ≡ take (length a - 1) (drop 1 a) = cc in
    let second : iter_rest (zip_second c.into_iter-c-iterator.result) ≡ take (length b - 1) (drop 1 b) = cc in
    let t = zip_turn _ _ c.loop-c.yielded c.into_iter-c-iterator.result c.loop-c.c-iterator c.next.new.self c.next.result first second c.loop-c.yielded_by (c.in-Some.c, c.in-Some.v) c.in-Some.is c.next.ensures.steps in
    let la = part_length a 1 (length a - 1) (length a - 1) refl (omega (arith, c.requires.some)) in
    let lb = part_length b 1 (length b - 1) (length b - 1) refl (omega (arith, c.requires.some, c.requires.room)) in
    combined_more m n (coefficient a) (coefficient b) c.sum-sum.ensures c.loop-c.invariant c.product.ensures
    (t.2 0 ∙ part_at a 1 (length a - 1) (length a - 1) n refl (omega (arith, t.0, la)))
    (t.3 0 ∙ part_at b 1 (length b - 1) (length b - 1) n refl (omega (arith, t.1, lb)))
    ∙ ap (λ (k : ℕ). combined m k (coefficient a) (coefficient b)) (sym (length_push c.loop-c.yielded _))

pub returns : goal.returns
returns g c =
    let m = g.R.Ring.meaning c.args.ring.now in
    let a = c.args.combination.now in
    let b = c.args.constants.now in
    let first : iter_rest (zip_first c.into_iter-c-iterator.result) ≡ take (length a - 1) (drop 1 a) = cc in
    let second : iter_rest (zip_second c.into_iter-c-iterator.result) ≡ take (length b - 1) (drop 1 b) = cc in
    let n = zip_end _ _ c.loop-c.yielded c.into_iter-c-iterator.result c.loop-c.c-iterator c.next.new.self c.next.result first second c.loop-c.yielded_by c.in-None.is c.next.ensures.steps in
    let la = part_length a 1 (length a - 1) (length a - 1) refl (omega (arith, c.requires.some)) in
    let lb = part_length b 1 (length b - 1) (length b - 1) refl (omega (arith, c.requires.some, c.requires.room)) in
    let s : length c.loop-c.yielded ≡ length a - 1 = omega (arith, n, la, lb, c.requires.room) in
    c.loop-c.invariant ∙ ap (λ (k : ℕ). combined m k (coefficient a) (coefficient b)) s
