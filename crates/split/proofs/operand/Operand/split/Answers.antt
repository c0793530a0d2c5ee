use Rattle.std.proofs.Common.{ℕ, List, ◌∙◌, sym, ap, subst, arith}
use Rattle.field.specs.Polynomial.{Canonical, IsCommonDivisor}
use Rattle.field.specs.Polynomials.{derivative_canonical}
use Rattle.split.specs.Splitting.{repeated}
use Rattle.split.proofs.SimpleKinds.{divisor_one}
use Rattle.split.proofs.operand.Operand.split.Goals as goal

pub common_divisor-divisor-requires-clause-other : goal.common_divisor-divisor-requires-clause-other
common_divisor-divisor-requires-clause-other g c =
    let m = g.F.Ring.meaning c.args.self.now.field.now in
    let t = c.args.self.now in
    subst (Canonical m) (sym (c.as_slice.ensures.value ∙ c.derivative-derived.ensures)) (derivative_canonical m t.laws.ring t.f.now)

pub returns-then-degree-gt0-clause-split : goal.returns-then-degree-gt0-clause-split
returns-then-degree-gt0-clause-split g c =
    let m = g.F.Ring.meaning c.args.self.now.field.now in
    let f = c.args.self.now.f.now in
    let h = c.common_divisor-divisor in
    let w = c.write_pair-a.ensures in
    record {
      into = repeated h.result w.other;
      splits = (
        λ z. c.if-is_zero.ensures (c.derivative-derived.ensures ∙ z),
        subst (λ (x : List ℕ). IsCommonDivisor m f x h.result) (c.as_slice.ensures.value ∙ c.derivative-derived.ensures) h.ensures,
        omega arith,
        w.canonical,
        w.multiplies,
      );
      answers = ap (λ (x : ℕ × ℕ). (2, x.0, x.1)) w.answers;
      pieces = (w.in_first, w.in_second);
    }

pub split_simple-requires-clause-simple : goal.split_simple-requires-clause-simple
split_simple-requires-clause-simple g c =
    let t = c.args.self.now in
    let h = c.common_divisor-divisor in (
      λ z. c.if-is_zero.ensures (c.derivative-derived.ensures ∙ z),
      divisor_one _ t.laws _ _ h.result t.taken
          (subst (λ (x : List ℕ). IsCommonDivisor (g.F.Ring.meaning t.field.now) t.f.now x h.result) (c.as_slice.ensures.value ∙ c.derivative-derived.ensures) h.ensures) (omega arith),
    )
