-- The coefficients of a polynomial that is given by them.
-- Main statements: polynomial_at, polynomial_beyond; trimmed_at, or_zero_at; below_length, map_below_at.
use Rattle.std.specs.Prelude.{◌≡◌, ℕ, zero, suc, ◌<◌, ◌≤◌, Bool, true, false, cond, List, [], ◌∷◌, ◌++◌, map, length, ◌==◌, slice_index, refl}
use Rattle.std.proofs.Common.{sym, ◌∙◌, ap, inl, inr, not-suc-le-zero, le_of_suc-le-suc, eq-or-lt_of_le, arith, length-append, eqb-true}
use Rattle.std.proofs.lemmas.List.{length-map}
use Rattle.std.proofs.Math.ListN.{get_or-eq_default}
use Rattle.field.specs.Checks.{below}
use Rattle.field.specs.Polynomial.{coefficient, polynomial, before_trimmed, trimmed, or_zero}

trim_head : (a : ℕ) (b : Bool) → (a == 0) ≡ b → (i : ℕ) → slice_index (cond b [] (a ∷ [])) i ≡ slice_index (a ∷ []) i
trim_head a true e zero = sym (eqb-true a 0 e)
trim_head a true e (suc i) = refl
trim_head a false e i = refl

trim_before : (a : ℕ) (g : List ℕ) (i : ℕ) → slice_index (before_trimmed a g) i ≡ slice_index (a ∷ g) i
trim_before a [] i = trim_head a (a == 0) refl i
trim_before a (b ∷ g) i = refl

pub trimmed_at : (xs : List ℕ) (i : ℕ) → slice_index (trimmed xs) i ≡ slice_index xs i
unfolding trimmed
trimmed_at [] i = refl
trimmed_at (a ∷ f) zero = trim_before a (trimmed f) zero
trimmed_at (a ∷ f) (suc i) = trim_before a (trimmed f) (suc i) ∙ trimmed_at f i

pub or_zero_at : (xs : List ℕ) (i : ℕ) → slice_index (or_zero xs) i ≡ slice_index xs i
or_zero_at [] zero = refl
or_zero_at [] (suc i) = refl
or_zero_at (a ∷ f) i = refl

pub below_length : (n : ℕ) → length (below n) ≡ n
unfolding below
below_length zero = refl
below_length (suc n) = length-append (below n) (n ∷ []) ∙ omega (arith, below_length n)

map_last : (c : ℕ → ℕ) (xs : List ℕ) (n : ℕ) → slice_index (map c (xs ++ n ∷ [])) (length xs) ≡ c n
map_last c [] n = refl
map_last c (x ∷ xs) n = map_last c xs n

map_front : (c : ℕ → ℕ) (xs : List ℕ) (n i : ℕ) → i < length xs → slice_index (map c (xs ++ n ∷ [])) i ≡ slice_index (map c xs) i
map_front c [] n i h = absurd (not-suc-le-zero h)
map_front c (x ∷ xs) n zero h = refl
map_front c (x ∷ xs) n (suc i) h = map_front c xs n i (le_of_suc-le-suc h)

pub map_below_at : (c : ℕ → ℕ) (n i : ℕ) → i < n → slice_index (map c (below n)) i ≡ c i
unfolding below
map_below_at c zero i h = absurd (not-suc-le-zero h)
map_below_at c (suc n) i h =
    elim (eq-or-lt_of_le (le_of_suc-le-suc h)) [
      | inl p ↦ ap (λ k. slice_index (map c (below n ++ n ∷ [])) k) (p ∙ sym (below_length n)) ∙ map_last c (below n) n ∙ ap c (sym p)
      | inr l ↦ map_front c (below n) n i (omega (arith, below_length n)) ∙ map_below_at c n i l
    ]

-- the coefficients of a polynomial that is given by them
pub polynomial_at : (n : ℕ) (c : ℕ → ℕ) (i : ℕ) → i < n → coefficient (polynomial n c) i ≡ c i
polynomial_at n c i h = or_zero_at (trimmed (map c (below n))) i ∙ trimmed_at (map c (below n)) i ∙ map_below_at c n i h

pub polynomial_beyond : (n : ℕ) (c : ℕ → ℕ) (i : ℕ) → n ≤ i → coefficient (polynomial n c) i ≡ 0
polynomial_beyond n c i h =
    or_zero_at (trimmed (map c (below n))) i ∙ trimmed_at (map c (below n)) i
    ∙ get_or-eq_default (map c (below n)) 0 (omega (arith, length-map (below n) c, below_length n))
