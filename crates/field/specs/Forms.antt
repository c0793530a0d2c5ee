-- A polynomial that is given by its coefficients has the form of every polynomial.
use Rattle.std.specs.Prelude.{◌≡◌, ℕ, suc, ◌-◌, ◌<◌, Bool, true, false, cond, List, [], ◌∷◌, map, length, ◌==◌, ◌≢◌, slice_index, slice_index_or, refl}
use Rattle.std.proofs.Common.{sym, ◌∙◌, ap, subst, arith}
use Rattle.std.proofs.Math.Decide.{dec_lt}
use Rattle.std.proofs.lemmas.Bool.{eqb-false}
use Rattle.field.specs.Checks.{below}
use Rattle.field.specs.Ring.{RingMeaning}
use Rattle.field.specs.Polynomial.{coefficient, leading, polynomial, before_trimmed, trimmed, or_zero, Canonical}
use Rattle.field.specs.Coefficients.{polynomial_at, polynomial_beyond, trimmed_at, or_zero_at}

-- a list is empty or ends in a code that is not 0
abbrev Ends : List ℕ → Type 0
Ends [] = Unit {0}
Ends (a ∷ f) = leading (a ∷ f) ≡ 0 → ⊥

ends_one : (a : ℕ) (b : Bool) → (a == 0) ≡ b → Ends (cond b [] (a ∷ []))
ends_one a true e = tt
ends_one a false e = λ p. eqb-false a 0 e p

ends_more : (a : ℕ) (f : List ℕ) → Ends f → Ends (before_trimmed a f)
ends_more a [] h = ends_one a (a == 0) refl
ends_more a (b ∷ f) h = λ e. h (low ∙ high ∙ e)
  where
    n : ℕ
    n = length f

    one_less : suc n - 1 ≡ n
    one_less = omega arith

    two_less : suc n ≡ suc (suc n) - 1
    two_less = omega arith

    low : slice_index_or (b ∷ f) (suc n - 1) 0 ≡ slice_index (b ∷ f) n
    low = ap (λ i. slice_index (b ∷ f) i) one_less

    high : slice_index_or (a ∷ b ∷ f) (suc n) 0 ≡ slice_index (a ∷ b ∷ f) (suc (suc n) - 1)
    high = ap (λ i. slice_index (a ∷ b ∷ f) i) two_less

ends_trimmed : (xs : List ℕ) → Ends (trimmed xs)
unfolding trimmed
ends_trimmed [] = tt
ends_trimmed (a ∷ f) = ends_more a (trimmed f) (ends_trimmed f)

some_or_zero : (xs : List ℕ) → 0 < length (or_zero xs)
some_or_zero [] = omega arith
some_or_zero (a ∷ f) = omega arith

leads_or_zero : (xs : List ℕ) → Ends xs → 1 < length (or_zero xs) → leading (or_zero xs) ≢ 0
leads_or_zero [] h l = λ e. omega arith
leads_or_zero (a ∷ f) h l = h

pub polynomial_canonical : (m : RingMeaning) (n : ℕ) (c : ℕ → ℕ) → 0 < m.order → ((i : ℕ) → c i < m.order) → Canonical m (polynomial n c)
polynomial_canonical m n c p h = record {
  some_code = some_or_zero (trimmed (map c (below n)));
  codes = λ i l. elim (dec_lt i n) [
    | yes o ↦ subst (λ x. x < m.order) (sym (polynomial_at n c i o)) (h i)
    | no o ↦ subst (λ x. x < m.order) (sym (polynomial_beyond n c i (omega arith))) p
  ];
  leads = leads_or_zero (trimmed (map c (below n))) (ends_trimmed (map c (below n)));
}

-- a list of codes without the zeros at its end
pub list_canonical : (m : RingMeaning) (xs : List ℕ) → 0 < m.order → ((i : ℕ) → coefficient xs i < m.order) → Canonical m (or_zero (trimmed xs))
list_canonical m xs p h = record {
  some_code = some_or_zero (trimmed xs);
  codes = λ i l. subst (λ x. x < m.order) (sym (or_zero_at (trimmed xs) i ∙ trimmed_at xs i)) (h i);
  leads = leads_or_zero (trimmed xs) (ends_trimmed xs);
}
