use Rattle.std.proofs.Common.{◌≡◌, ℕ, ◌-◌, ◌*◌, length, ◌∙◌, mul_assoc, arith}
use Rattle.split.proofs.Buffers.{wiped_same}
use Rattle.split.proofs.OneSplitting.{one_splitting}
use Rattle.split.proofs.WholeSplitting.{whole_unsplittable}
use Rattle.split.proofs.calls.split.Goals as goal

pub returns-in_err-operand-clause-once : goal.returns-in_err-operand-clause-once
returns-in_err-operand-clause-once g c = one_splitting

pub returns-in_err-operand-clause-whole : goal.returns-in_err-operand-clause-whole
returns-in_err-operand-clause-whole g c = whole_unsplittable

pub returns : goal.returns
returns g c =
    let d : ℕ = length c.args.f.now - 1 in
    let s : 2 * d * d ≡ 2 * (d * d) = mul_assoc 2 d d in
    let o = c.in_ok-operand in
    let past = rw o.ensures.1 at c.split.ensures.past in
    record {
      works = (
        rw (o.ensures.0, o.ensures.1) at o.operand.taken,
        o.ensures.2,
        rw (o.ensures.0, o.ensures.1) at c.split.ensures.split,
        c.drop-guard.ensures ∙ wiped_same (2 * d * d) c.args.scratch.now c.split.new.codes c.split.auto.codes (λ k h. past k (omega arith)),
      );
      once = one_splitting;
      whole = whole_unsplittable;
    }
