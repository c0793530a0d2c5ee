-- Division of a polynomial by one of its divisors, and how long a divisor is.
-- Main statements: divisor_short, divided, cofactor_read.
use Rattle.std.proofs.Common.{◌≡◌, ℕ, zero, suc, ◌<◌, ◌≤◌, ◌≢◌, List, length, take, None, Ok, Result, IsOk, sym, refl, ap, ◌∙◌, arith}
use native.Mathlib.Decide.{dec_lt}
use lib.ListN.{get_or-eq_default}
use Rattle.algebra.specs.Ring.{Ring}
use Rattle.algebra.proofs.Laws.{mul_comm, add_zero}
use Rattle.algebra.proofs.Poly.{Polys, size, zero_size}
use Rattle.field.specs.Ring.{RingMeaning}
use Rattle.field.specs.Field.{FieldMeaning, FieldLaws}
use Rattle.field.specs.Polynomial.{coefficient, degree, leading, zero_polynomial, product, Canonical, Divides, IsDivision}
use Rattle.field.specs.Scalars.{CodeScalars}
use Rattle.field.specs.Polynomials.{P, poly_of, canonical_unique, positive_size, poly_product, poly_zero, zero_canonical}
use Rattle.field.proofs.Factors.{product_degree}
use Rattle.field.proofs.Divisions.{division_from, division_unique}
use Rattle.poly.specs.declared.fault.PolyFault.{PolyFault}
use Rattle.poly.specs.Faults.{most_codes, division_refusal}
use Rattle.poly.specs.Calls.{Buffers, Division}
use Rattle.poly.proofs.Operands.{canonical_is_taken, divisor_taken}
use Rattle.split.specs.Calls.{Taken}
use Rattle.split.proofs.Unrefused.{both_ok, read_quotient}

module _ (F : FieldMeaning) (L : FieldLaws F) (f g : List ℕ) (t : Taken F.ring f) (cg : Canonical F.ring g) (d : Divides F.ring g f) where
  abbrev m : RingMeaning
  m = F.ring

  abbrev poly : List ℕ → P m L.ring
  poly = poly_of m L.ring

  abbrev Ps : Ring (P m L.ring)
  Ps = Polys (CodeScalars m L.ring)

  degrees : (h : List ℕ) → Canonical m h → product m g h ≡ f → length h ≤ length f
  degrees h ch e =
      let w = product_degree F L f g h t.canonical cg ch (omega (arith, positive_size m L.ring f t.canonical t.positive)) e in
      omega (arith, w.0, t.positive)

  some_size : 1 ≤ size (poly g)
  some_size = (product_degree F L f g d.quotient t.canonical cg d.canonical (omega (arith, positive_size m L.ring f t.canonical t.positive)) d.multiplies).1

  pub divisor_short : length g ≤ length f
  divisor_short =
      let w = product_degree F L f g d.quotient t.canonical cg d.canonical (omega (arith, positive_size m L.ring f t.canonical t.positive)) d.multiplies in
      omega (arith, w.0, t.positive)

  not_zero : g ≡ zero_polynomial → ⊥
  not_zero e = absurd (omega (arith, some_size, ap (λ (x : List ℕ). size (poly x)) e ∙ ap size (poly_zero m L.ring) ∙ zero_size (CodeScalars m L.ring)))

  divisor_leads : leading g ≢ 0
  divisor_leads z = elim (dec_lt 1 (length g)) [
    | yes h ↦ cg.leads h z
    | no h ↦ not_zero (canonical_unique m g zero_polynomial cg (zero_canonical m L.ring) (at h))
  ]
    where
      at : (1 < length g → ⊥) → (i : ℕ) → coefficient g i ≡ coefficient zero_polynomial i
      at h zero = let s : 0 ≡ degree g = omega (arith, h) in ap (coefficient g) s ∙ z
      at h (suc i) = get_or-eq_default g 0 (omega (arith, h))

  -- the division with the remainder zero
  exact : IsDivision m f g d.quotient zero_polynomial
  exact = division_from m L.ring f g d.quotient zero_polynomial t.canonical cg d.canonical (zero_canonical m L.ring)
      (ap poly (sym d.multiplies) ∙ poly_product m L.ring g d.quotient cg d.canonical ∙ mul_comm Ps _ _
      ∙ sym (ap (Ps.◌⊕◌ (Ps.◌⊗◌ (poly d.quotient) (poly g))) (poly_zero m L.ring) ∙ add_zero Ps _))
      (λ i _. none i)
    where
      none : (i : ℕ) → coefficient zero_polynomial i ≡ 0
      none zero = refl
      none (suc i) = refl

  module _ (q r : List ℕ) (w : IsDivision m f g q r) where
    same : (q ≡ d.quotient) × (r ≡ zero_polynomial)
    same = division_unique F L f g q r d.quotient zero_polynomial cg not_zero w exact

    exact_quotient : product m g q ≡ f
    exact_quotient = ap (product m g) same.0 ∙ d.multiplies

    exact_short : length q ≤ length f
    exact_short = degrees q w.quotient_canonical exact_quotient

    exact_rest : length r ≡ 1
    exact_rest = ap length same.1

  unrefused : division_refusal m f g ≡ None
  unrefused = divisor_taken m f g (canonical_is_taken m f t.canonical t.short) (canonical_is_taken m g cg (omega (arith, divisor_short, t.short))) divisor_leads

  -- the call that divides, where both buffers have room
  module _ (before after : Buffers) (call : Result (ℕ × ℕ) PolyFault) (w : Division m f g before call after) where
    pub divided : most_codes ≤ length before.quotient → 0 < length before.remainder → IsOk call
    divided room some = both_ok (division_refusal m f g) unrefused (IsDivision m f g) before after call
        (λ q r k. (omega (arith, exact_short q r k, t.short), omega (arith, exact_rest q r k))) w

    pub cofactor_read : (n : ℕ × ℕ) → call ≡ Ok n → (p : List ℕ) → p ≡ take n.0 after.quotient → Canonical m p × (product m g p ≡ f)
    cofactor_read n e p q =
        let k = read_quotient (division_refusal m f g) unrefused (IsDivision m f g) before after call n e w p q in
        (k.1.quotient_canonical, exact_quotient p k.0 k.1)
