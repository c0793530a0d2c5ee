-- Calls on polynomials that are not refused: what they leave in their buffer.
-- Main statements: written_ok, read_back, both_ok, read_quotient, derivative_short, operands_taken,
-- point_taken, gives_ok.
use Rattle.std.proofs.Common.{◌≡◌, ℕ, suc, ◌<◌, ◌≤◌, Bool, true, false, cond, eqb, List, [], ◌∷◌, map, length, take, None, Ok, Err, Option, Result, is_ok, IsOk, sym, refl, ap, ◌∙◌, subst, ap₂, ⊎_elim, arith, lt-ltb}
use lib.ListN.{length-map}
use Rattle.field.specs.Checks.{below}
use Rattle.field.specs.Ring.{RingMeaning, multiple}
use Rattle.field.specs.Polynomial.{coefficient, degree, polynomial, derivative, trimmed, or_zero, before_trimmed, Canonical}
use Rattle.field.specs.Coefficients.{below_length}
use Rattle.poly.specs.declared.fault.PolyFault.{PolyFault}
use Rattle.poly.specs.declared.fault.PolyFault.TheVariants.{NotCode}
use Rattle.poly.specs.Faults.{most_codes, operand_refusal, operands_refusal, point_refusal}
use Rattle.poly.specs.Calls.{Writes, WritesBoth, Buffers, gives}
use Rattle.poly.proofs.Operands.{canonical_is_taken, both_none, passes}
use Rattle.split.specs.Calls.{Taken}
use Rattle.split.proofs.Buffers.{written_front}

module _ (refusal : Option PolyFault) (none : refusal ≡ None) (Is : List ℕ → Type 0) (before after : List ℕ) where
  -- a buffer that is long enough for each result is not refused
  pub written_ok : (r : Result ℕ PolyFault) → ((p : List ℕ) → Is p → length p ≤ length before) → Writes refusal Is before r after → IsOk r
  written_ok (Ok n) fits w = refl
  written_ok (Err e) fits w =
      let k = subst (λ (o : Option PolyFault). Writes o Is before (Err e) after) none w in
      absurd (omega (arith, k.2, fits k.0 k.1))

  -- what is then read back
  pub read_back : (r : Result ℕ PolyFault) (n : ℕ) → r ≡ Ok n → Writes refusal Is before r after → (p : List ℕ) → p ≡ take n after → Is p
  read_back r n e w p q =
      let k = subst (λ (o : Option PolyFault). Writes o Is before (Ok n) after) none (subst (λ (x : Result ℕ PolyFault). Writes refusal Is before x after) e w) in
      subst Is (sym (q ∙ ap₂ take k.3 k.4 ∙ written_front k.0 before)) k.1

before_trimmed_short : (a : ℕ) (f : List ℕ) → length (before_trimmed a f) ≤ suc (length f)
before_trimmed_short a [] = go (eqb a 0)
  where
    go : (b : Bool) → length (cond b [] (a ∷ [])) ≤ 1
    go true = omega arith
    go false = omega arith
before_trimmed_short a (b ∷ f) = omega arith

trimmed_short : (xs : List ℕ) → length (trimmed xs) ≤ length xs
unfolding trimmed
trimmed_short [] = omega arith
trimmed_short (a ∷ xs) = omega (arith, before_trimmed_short a (trimmed xs), trimmed_short xs)

or_zero_short : (xs : List ℕ) → length (or_zero xs) ≤ suc (length xs)
or_zero_short [] = omega arith
or_zero_short (a ∷ xs) = omega arith

-- a polynomial that is given by n coefficients
polynomial_short : (n : ℕ) (c : ℕ → ℕ) → length (polynomial n c) ≤ suc n
polynomial_short n c = omega (arith, or_zero_short (trimmed (map c (below n))), trimmed_short (map c (below n)), length-map (below n) c, below_length n)

pub derivative_short : (m : RingMeaning) (f : List ℕ) → length (derivative m f) ≤ suc (degree f)
derivative_short m f = polynomial_short (degree f) (λ i. multiple m (suc i) (coefficient f (suc i)))

-- the same of two results in two buffers
module _ (refusal : Option PolyFault) (none : refusal ≡ None) (Are : List ℕ → List ℕ → Type 0) (before after : Buffers) where
  pub both_ok : (r : Result (ℕ × ℕ) PolyFault) → ((q r : List ℕ) → Are q r → (length q ≤ length before.quotient) × (length r ≤ length before.remainder))
      → WritesBoth refusal Are before r after → IsOk r
  both_ok (Ok n) fits w = refl
  both_ok (Err e) fits w =
      let k = subst (λ (o : Option PolyFault). WritesBoth o Are before (Err e) after) none w in
      absurd (⊎_elim (λ (l : length before.quotient < length k.0). omega (arith, (fits k.0 k.1 k.2).0)) (λ (l : length before.remainder < length k.1). omega (arith, (fits k.0 k.1 k.2).1)) k.3)

  pub read_quotient : (r : Result (ℕ × ℕ) PolyFault) (n : ℕ × ℕ) → r ≡ Ok n → WritesBoth refusal Are before r after → (p : List ℕ) → p ≡ take n.0 after.quotient → (s : List ℕ) × Are p s
  read_quotient r n e w p q =
      let k = subst (λ (o : Option PolyFault). WritesBoth o Are before (Ok n) after) none (subst (λ (x : Result (ℕ × ℕ) PolyFault). WritesBoth refusal Are before x after) e w) in
      (k.1, subst (λ (x : List ℕ). Are x k.1) (sym (q ∙ ap₂ take k.5 k.7 ∙ written_front k.0 before.quotient)) k.2)

-- the operands of a greatest common divisor
pub operands_taken : (m : RingMeaning) (f g : List ℕ) → Taken m f → Canonical m g → length g ≤ most_codes → operands_refusal m f g ≡ None
operands_taken m f g t c s = both_none (operand_refusal m f) (operand_refusal m g) (canonical_is_taken m f t.canonical t.short) (canonical_is_taken m g c s)

-- a value at a code
pub point_taken : (m : RingMeaning) (f : List ℕ) (x : ℕ) → Canonical m f → length f ≤ most_codes → x < m.order → point_refusal m f x ≡ None
point_taken m f x c s h = both_none (operand_refusal m f) _ (canonical_is_taken m f c s) (passes _ (NotCode 0) (lt-ltb x m.order h))

pub gives_ok : (refusal : Option PolyFault) (a : ℕ) → refusal ≡ None → (r : Result ℕ PolyFault) → r ≡ gives refusal a → IsOk r
gives_ok refusal a none r e = ap is_ok (e ∙ ap (λ (o : Option PolyFault). gives o a) none)
