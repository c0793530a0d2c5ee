use Rattle.std.proofs.Common.{ℕ, ◌+◌, ◌<◌, arith, rules}
use Rattle.field.specs.Ring.{RingMeaning, one}
use Rattle.field.specs.Polynomial.{constant}
use Rattle.split.specs.Splitting.{ShiftDivisor}
use Rattle.split.specs.Sieve.{NoneBelow}
use Rattle.split.proofs.Shifting.{none_dropped, none_more, shift_left, shift_found}
use Rattle.split.proofs.operand.Operand.smallest_shift.Given as given
use Rattle.split.proofs.operand.Operand.smallest_shift.Goals as goal
use Rattle.split.proofs.operand.Operand.smallest_shift.Goals.{else-is_zero_at-via-then-is_zero_at+else-shares, else-is_zero_at-via-else-is_zero_at}

pub is_zero_at-requires-clause-code : goal.is_zero_at-requires-clause-code
is_zero_at-requires-clause-code g c =
    let s = c.args.self.now in
    shift_left _ s.laws _ _ s.taken c.requires.least c.loop-w.w c.loop-w.invariant

-- none is found up to w
next : (g : given.Over) (c : goal.Joined-else-is_zero_at g) → NoneBelow (g.F.Ring.meaning c.args.self.now.field.now) c.args.self.now.f.now c.args.fixed.now (c.loop-w.w + 1)
next g c =
    let s = c.args.self.now in
    let m : RingMeaning = g.F.Ring.meaning s.field.now in
    let w : ℕ = c.loop-w.w in
    let code : w < m.order = shift_left _ s.laws _ _ s.taken c.requires.least w c.loop-w.invariant in
    let here : ShiftDivisor m s.f.now c.args.fixed.now w (constant (one m)) = elim c.else-is_zero_at.branch [
      | else-is_zero_at-via-then-is_zero_at+else-shares v ↦ v.if-shares.ensures
      | else-is_zero_at-via-else-is_zero_at v ↦ none_dropped _ s.laws _ _ s.taken c.requires.least c.args.sieve.now c.requires.sieve.sieves w code v.if-is_zero_at.ensures
    ] in
    none_more _ s.laws _ _ s.taken c.requires.least w c.loop-w.invariant here

-- so one is left
left : (g : given.Over) (c : goal.Joined-else-is_zero_at g) → c.loop-w.w + 1 < (g.F.Ring.meaning c.args.self.now.field.now).order
left g c =
    let s = c.args.self.now in
    shift_left _ s.laws _ _ s.taken c.requires.least (c.loop-w.w + 1) (next g c)

pub overflow_add-w : goal.overflow_add-w
overflow_add-w g c =
    let within = left g c in
    let high = c.args.self.now.laws.ring.order_high in
    search rules

pub loop-w-smaller : goal.loop-w-smaller
loop-w-smaller g c = omega (arith, left g c)

pub loop-w-preserved : goal.loop-w-preserved
loop-w-preserved g c = next g c

pub returns : goal.returns
returns g c =
    let s = c.args.self.now in
    let h = c.if-shares.ensures in
    (h.0, shift_found _ s.laws _ _ s.taken c.requires.least c.loop-w.w h.0 c.loop-w.invariant h.1 h.2)
