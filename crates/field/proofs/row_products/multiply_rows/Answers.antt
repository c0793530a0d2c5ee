use Rattle.std.proofs.Common.{◌≡◌, ℕ, ◌≤◌, length, replicate, sym, ap, ◌∙◌, arith, rules}
use Rattle.std.proofs.lemmas.List.{length_push}
use Rattle.field.specs.Ring.{RingMeaning, RingLaws}
use Rattle.field.proofs.Remainders.{suited, row_coded}
use Rattle.field.proofs.RowSteps.{rev_turn, rev_end}
use Rattle.field.proofs.RowProducts.{horner_none, horner_more, horner_moved, horner_all}
use Rattle.field.proofs.row_products.multiply_rows.Goals as goal

pub loop-code-init : goal.loop-code-init
loop-code-init g c = λ L some.
    let r : RingMeaning = g.R.Ring.meaning c.args.ring.now in
    let s = suited r c.args.lower.now c.args.left.now c.args.right.now c.args.row.now c.requires.suits in
    horner_none r L c.args.lower.now some (row_coded r L _ s.lower_codes) c.args.right.now (row_coded r L _ s.right_codes) (s.right_long ∙ sym s.lower_long)
    c.args.left.now (row_coded r L _ s.left_codes) c.fill.new.self (let z : c.fill.new.self ≡ replicate (length c.args.row.now) 0 = search rules in z ∙ ap (λ (j : ℕ). replicate j 0) (sym s.lower_long))

pub loop-code-preserved : goal.loop-code-preserved
loop-code-preserved g c = λ L some.
    let r : RingMeaning = g.R.Ring.meaning c.args.ring.now in
    let s = suited r c.args.lower.now c.args.left.now c.args.right.now c.args.row.now c.requires.suits in
    horner_more r L c.args.lower.now some (row_coded r L _ s.lower_codes) c.args.right.now (row_coded r L _ s.right_codes) (s.right_long ∙ sym s.lower_long)
    c.args.left.now (row_coded r L _ s.left_codes) _ _ _ c.loop-code.row c.step_row.new.row
    (rev_turn c.args.left.now c.into_iter-code-iterator.result (cc) c.loop-code.yielded _ c.loop-code.yielded_by _ _ c.in-Some.code c.in-Some.is c.next.ensures.steps)
    (length_push c.loop-code.yielded c.in-Some.code) (c.loop-code.invariant L some) c.step_row.ensures

pub loop-code-preserved-then-row-eq0 : goal.loop-code-preserved-then-row-eq0
loop-code-preserved-then-row-eq0 g c = λ L some.
    let r : RingMeaning = g.R.Ring.meaning c.args.ring.now in
    let s = suited r c.args.lower.now c.args.left.now c.args.right.now c.args.row.now c.requires.suits in
    horner_moved r L c.args.lower.now some (row_coded r L _ s.lower_codes) c.args.right.now (row_coded r L _ s.right_codes) (s.right_long ∙ sym s.lower_long)
    c.args.left.now (row_coded r L _ s.left_codes) _ _ _ c.loop-code.row c.rotate_right.new.self
    (rev_turn c.args.left.now c.into_iter-code-iterator.result (cc) c.loop-code.yielded _ c.loop-code.yielded_by _ _ c.in-Some.code c.in-Some.is c.next.ensures.steps)
    (length_push c.loop-code.yielded c.in-Some.code) c.if-code-eq0.true c.if-row-eq0.true (c.loop-code.invariant L some) c.rotate_right.ensures.len c.rotate_right.ensures.by_index

pub returns : goal.returns
returns g c =
    let r : RingMeaning = g.R.Ring.meaning c.args.ring.now in
    let L : RingLaws r = g.met.R.Ring.ring c.args.ring.now c.requires.made in
    let s = suited r c.args.lower.now c.args.left.now c.args.right.now c.args.row.now c.requires.suits in
    let some : 1 ≤ length c.args.lower.now = omega (arith, s.some, s.lower_long) in
    horner_all r L c.args.lower.now some (row_coded r L _ s.lower_codes) c.args.right.now (row_coded r L _ s.right_codes) (s.right_long ∙ sym s.lower_long)
    c.args.left.now (row_coded r L _ s.left_codes) _ c.loop-code.row
    (rev_end c.args.left.now c.into_iter-code-iterator.result (cc) c.loop-code.yielded _ c.loop-code.yielded_by _ _ c.in-None.is c.next.ensures.steps)
    (c.loop-code.invariant L some)
