use Rattle.std.proofs.Common.{◌≡◌, ◌≢◌, ℕ, ◌+◌, ◌/◌, ◌%◌, ◌<◌, length, refl, sym, ◌∙◌, ap, ap₂, add-one, arith, get_or-set_other, get_or-set_same, below_more}
use Rattle.bench.specs.Drawn.{next_number, number}
use Rattle.bench.proofs.set.draw.Goals as goal

-- the next number is the one at the next place
number_after : (x k : ℕ) → x ≡ number k → next_number x ≡ number (k + 1)
unfolding number
number_after x k e = ap next_number e ∙ ap number (sym (add-one k))

pub loop-c-init : goal.loop-c-init
unfolding number
loop-c-init g c = record { reached = refl; so_far = λ k h. absurd (omega arith) }

pub loop-c-preserved : goal.loop-c-preserved
loop-c-preserved g c =
    let reached = c.next-x.ensures ∙ number_after _ _ c.loop-c.invariant.reached in
    record {
      reached = reached;
      so_far = below_more _ _
          (λ k h. let ne : k ≢ c.loop-c.c-index = omega arith in rw get_or-set_other (c.loop-c.invariant.so_far k h))
          (let lt : c.loop-c.c-index < length c.loop-c.codes = omega arith in
          rw get_or-set_same (ap₂ (λ (x q : ℕ). x / 65536 % q) (reached ∙ ap number (add-one c.loop-c.c-index)) c.order-order.ensures));
    }
