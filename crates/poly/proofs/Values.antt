-- Horner's rule: the value of the last codes of a polynomial, one code more at each turn.
-- Main statements: value_from, value_from_none, value_from_more, value_from_all.
use Rattle.std.proofs.Common.{◌≡◌, ℕ, ◌+◌, ◌-◌, ◌<◌, List, [], ◌∷◌, ◌++◌, length, get_or, reverse, drop, sym, ap, ◌∙◌, ap₂, arith}
use Rattle.std.proofs.lemmas.Grind.{get_or_default_zero}
use Rattle.std.proofs.lemmas.List.{drop_all, get_or-reverse, length_push, length-reverse}
use Rattle.field.specs.Ring.{RingMeaning, RingLaws}
use Rattle.field.specs.Polynomial.{value}
use Rattle.field.specs.Polynomials.{Coded}
use Rattle.field.proofs.Totals.{value_none, value_drop}

-- the value of the last n codes
abbrev pub value_from : RingMeaning → List ℕ → ℕ → ℕ → ℕ
value_from m f x n = value m (drop (length f - n) f) x

pub value_from_none : (m : RingMeaning) (L : RingLaws m) (f : List ℕ) (x : ℕ) → 0 ≡ value_from m f x 0
value_from_none m L f x = sym (ap (λ (xs : List ℕ). value m xs x) (drop_all (length f - 0) f (omega arith)) ∙ value_none m L x)

-- c is the code before those that were taken
pub value_from_more : (m : RingMeaning) (L : RingLaws m) (f : List ℕ) (x : ℕ) {A : Type 0} (taken : List A) (a : A) (c old p new : ℕ) → Coded m f → x < m.order →
    length taken < length (reverse f) → c ≡ get_or (reverse f) (length taken) c → old ≡ value_from m f x (length taken) → p ≡ m.product x old → new ≡ m.sum c p →
    new ≡ value_from m f x (length (taken ++ a ∷ []))
value_from_more m L f x taken a c old p new codes point l at before times plus =
    plus ∙ ap₂ m.sum here (times ∙ ap (m.product x) (before ∙ ap (λ (i : ℕ). value m (drop i f) x) back)) ∙ value_drop m L f x k codes point (omega (arith, left)) ∙ ap (λ (i : ℕ). value m (drop i f) x) next
  where
    k : ℕ
    k = length f - (length taken + 1)

    left : length taken < length f
    left = omega (arith, length-reverse f)

    place : length f - 1 - length taken ≡ k
    place = omega arith

    here : c ≡ get_or f k 0
    here = at ∙ get_or_default_zero (reverse f) (length taken) c l ∙ get_or-reverse f (length taken) 0 left ∙ ap (λ (i : ℕ). get_or f i 0) place

    back : length f - length taken ≡ k + 1
    back = omega (arith, left)

    next : k ≡ length f - length (taken ++ a ∷ [])
    next = omega (arith, length_push taken a)

pub value_from_all : (m : RingMeaning) (f : List ℕ) (x : ℕ) {A : Type 0} (taken : List A) (sum : ℕ) → length taken ≡ length (reverse f) → sum ≡ value_from m f x (length taken) → sum ≡ value m f x
value_from_all m f x taken sum e s = s ∙ ap (λ (i : ℕ). value m (drop i f) x) done
  where
    done : length f - length taken ≡ 0
    done = omega (arith, length-reverse f)
