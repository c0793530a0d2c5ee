-- What an accepted call has put into its buffer, or into its two.
-- Main statements: accepted, accepted_both.
use Rattle.std.proofs.Common.{◌≡◌, ℕ, ◌≤◌, List, length, take, Some, None, Ok, Option, sym, refl, ◌∙◌, subst, ap₂, arith}
use Rattle.std.proofs.lemmas.List.{take_at}
use Rattle.poly.specs.declared.fault.PolyFault.{PolyFault}
use Rattle.poly.specs.Calls.{Writes, Buffers, WritesBoth}

-- the result stands at the front of the buffer
pub accepted : (refusal : Option PolyFault) (Is : List ℕ → Type 0) (before : List ℕ) (n : ℕ) (after : List ℕ) →
    Writes refusal Is before (Ok n) after → (r : List ℕ) × Is r × (n ≤ length before) × (take n after ≡ r)
accepted (Some e) Is before n after w = absurd w
accepted None Is before n after w = (w.0, w.1, omega (arith, w.2, w.3), ap₂ take w.3 w.4 ∙ take_at w.0 _ _ refl)

-- both results do
pub accepted_both : (refusal : Option PolyFault) (Are : List ℕ → List ℕ → Type 0) (before : Buffers) (n : ℕ × ℕ) (after : Buffers) → WritesBoth refusal Are before (Ok n) after →
    (n.0 ≤ length before.quotient) × (n.1 ≤ length before.remainder) × Are (take n.0 after.quotient) (take n.1 after.remainder)
accepted_both (Some e) Are before n after w = absurd w
accepted_both None Are before n after w = (
  omega (arith, w.3, w.5),
  omega (arith, w.4, w.6),
  subst (λ (x : List ℕ). Are x (take n.1 after.remainder)) (sym (ap₂ take w.5 w.7 ∙ take_at w.0 _ _ refl))
      (subst (Are w.0) (sym (ap₂ take w.6 w.8 ∙ take_at w.1 _ _ refl)) w.2),
)
