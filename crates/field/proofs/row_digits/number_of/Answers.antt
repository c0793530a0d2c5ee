use Rattle.std.proofs.Common.{ℕ, ◌+◌, ◌*◌, ◌-◌, length, ap, ◌∙◌, arith}
use Rattle.std.proofs.lemmas.List.{length_push}
use Rattle.field.proofs.RowSteps.{FromTop, rev_turn}
use Rattle.field.proofs.RowDigits.{number_none, number_more, number_small, number_fits}
use Rattle.field.proofs.row_digits.number_of.Goals as goal

pub loop-d-init : goal.loop-d-init
loop-d-init c = number_none c.args.b c.args.row.now

pub overflow_mul-n : goal.overflow_mul-n
overflow_mul-n c =
    let t : FromTop c.args.row.now (length c.loop-d.yielded) c.in-Some.d.now = rev_turn c.args.row.now c.into_iter-d-iterator.result (cc) c.loop-d.yielded _ c.loop-d.yielded_by _ _ c.in-Some.d c.in-Some.is c.next.ensures.steps in
    omega (arith, number_fits c.args.b c.loop-d.n _ _ c.args.row.now t c.requires.small c.requires.digits c.loop-d.invariant)

pub overflow_add-n : goal.overflow_add-n
overflow_add-n c =
    let t : FromTop c.args.row.now (length c.loop-d.yielded) c.in-Some.d.now = rev_turn c.args.row.now c.into_iter-d-iterator.result (cc) c.loop-d.yielded _ c.loop-d.yielded_by _ _ c.in-Some.d c.in-Some.is c.next.ensures.steps in
    omega (arith, c.from.ensures, number_fits c.args.b c.loop-d.n _ _ c.args.row.now t c.requires.small c.requires.digits c.loop-d.invariant)

pub loop-d-preserved : goal.loop-d-preserved
loop-d-preserved c =
    let t : FromTop c.args.row.now (length c.loop-d.yielded) c.in-Some.d.now = rev_turn c.args.row.now c.into_iter-d-iterator.result (cc) c.loop-d.yielded _ c.loop-d.yielded_by _ _ c.in-Some.d c.in-Some.is c.next.ensures.steps in
    ap (λ (x : ℕ). x + c.args.b * c.loop-d.n) c.from.ensures ∙ number_more c.args.b c.loop-d.n _ _ _ c.args.row.now t (length_push c.loop-d.yielded c.in-Some.d) c.loop-d.invariant

pub overflow_cast-result : goal.overflow_cast-result
overflow_cast-result c = omega (arith, c.loop-d.invariant, number_small c.args.b (length c.args.row.now - length c.loop-d.yielded) c.args.row.now c.requires.small c.requires.digits)
