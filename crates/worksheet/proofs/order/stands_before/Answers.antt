use Rattle.std.proofs.Common.{◌≡◌, sym, ap, ◌∙◌, arith}
use Rattle.worksheet.proofs.FromTheTop.{from_top, top_same, top_apart, top_none, before_equals, before_lengths}
use Rattle.worksheet.proofs.order.stands_before.Goals as goal

pub returns-then-a-b : goal.returns-then-a-b
returns-then-a-b c = sym (before_lengths c.args.a.now c.args.b.now c.if-a-b.true)

pub returns-then-a-i : goal.returns-then-a-i
returns-then-a-i c =
    let a = c.args.a.now in
    let b = c.args.b.now in
    sym (before_equals a b (omega arith) ∙ c.loop-i.invariant ∙ top_apart a b c.loop-i.i (omega arith) (omega arith) (omega arith) c.if-a-i.true)

pub loop-i-preserved : goal.loop-i-preserved
loop-i-preserved c =
    c.loop-i.invariant ∙ top_same c.args.a.now c.args.b.now c.loop-i.i (omega arith) (omega arith) (omega arith) c.if-a-i.false

pub returns : goal.returns
returns c =
    let a = c.args.a.now in
    let b = c.args.b.now in
    let z : c.loop-i.i ≡ 0 = omega arith in
    sym (before_equals a b c.if-a-b.false ∙ c.loop-i.invariant ∙ ap (λ n. from_top n a b) z ∙ top_none a b)
