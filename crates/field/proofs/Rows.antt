-- A row of codes in memory: the polynomial that it is, and the zeros at its end.
-- Main statements: row_is, row_polynomial, row_polynomial_of, zeros_row; polynomial_last; trimmed_push, trimmed_one, trimmed_all.
use Rattle.std.proofs.Common.{◌≡◌, ℕ, suc, ◌-◌, ◌<◌, ◌≤◌, Bool, true, false, cond, eqb, ◌≢◌, List, [], ◌∷◌, ◌++◌, map, length, get_or, take, replicate, sym, refl, ap, ◌∙◌, subst, arith, ne_eqb, eqb-true}
use lib.ListN.{length-map}
use Rattle.std.proofs.lemmas.List.{ext_get_or, get_or-take, get_or-replicate, length-take-le, length-replicate, map_push}
use Rattle.field.specs.Checks.{below}
use Rattle.field.specs.Polynomial.{leading, polynomial, before_trimmed, trimmed, or_zero}
use Rattle.field.specs.Rows.{IsRow}
use Rattle.field.specs.Coefficients.{below_length, map_below_at}

pub row_is : (row : List ℕ) (n : ℕ) (c : ℕ → ℕ) → IsRow row n c → row ≡ map c (below n)
row_is row n c w =
    ext_get_or 0 row (map c (below n)) (w.sized ∙ sym (length-map (below n) c ∙ below_length n))
    (λ i h. let l : i < n = omega (arith, w.sized) in w.at i l ∙ sym (map_below_at c n i l))

pub row_polynomial : (row : List ℕ) (n : ℕ) (c : ℕ → ℕ) → IsRow row n c → or_zero (trimmed row) ≡ polynomial n c
row_polynomial row n c w = ap (λ (xs : List ℕ). or_zero (trimmed xs)) (row_is row n c w)

-- the same, where the length is known in another way
pub row_polynomial_of : (row : List ℕ) (n k : ℕ) (c : ℕ → ℕ) → IsRow row n c → length row ≡ k → or_zero (trimmed row) ≡ polynomial k c
row_polynomial_of row n k c w e = row_polynomial row n c w ∙ ap (λ (i : ℕ). polynomial i c) (sym w.sized ∙ e)

-- a part of a row of zeros
pub zeros_row : (n k : ℕ) → n ≤ k → IsRow (take n (replicate k 0)) n (λ _. 0)
zeros_row n k h = record {
  sized = length-take-le n (replicate k 0) (omega (arith, length-replicate {A = ℕ} k 0));
  at = λ i l. get_or-take n (replicate k 0) i 0 l ∙ get_or-replicate k i 0 0 (omega arith);
}

-- a zero at the end is dropped
pub trimmed_push : (xs : List ℕ) → trimmed (xs ++ 0 ∷ []) ≡ trimmed xs
unfolding trimmed
trimmed_push [] = refl
trimmed_push (a ∷ xs) = ap (before_trimmed a) (trimmed_push xs)

-- the polynomial of n + 1 coefficients of which the last is zero is that of the n others
pub polynomial_last : (n : ℕ) (c : ℕ → ℕ) → c n ≡ 0 → polynomial (suc n) c ≡ polynomial n c
unfolding below
polynomial_last n c e =
    ap (λ (xs : List ℕ). or_zero (trimmed xs)) (map_push c (below n) n ∙ ap (λ (x : ℕ). map c (below n) ++ x ∷ []) e)
    ∙ ap or_zero (trimmed_push (map c (below n)))

-- a row that does not end in a zero has none to drop
pub trimmed_ends : (a : ℕ) (f : List ℕ) → get_or (a ∷ f) (length f) 0 ≢ 0 → trimmed (a ∷ f) ≡ a ∷ f
unfolding trimmed
trimmed_ends a [] h = ap (λ (b : Bool). cond b [] (a ∷ [])) (ne_eqb a 0 h)
trimmed_ends a (b ∷ f) h = ap (before_trimmed a) (trimmed_ends b f h)

single : (a : ℕ) (b : Bool) → eqb a 0 ≡ b → or_zero (cond b [] (a ∷ [])) ≡ a ∷ []
single a true e = ap (λ (x : ℕ). x ∷ []) (sym (eqb-true a 0 e))
single a false e = refl

-- one code is a form
pub trimmed_one : (f : List ℕ) → length f ≡ 1 → or_zero (trimmed f) ≡ f
unfolding trimmed
trimmed_one [] e = absurd (omega arith)
trimmed_one (a ∷ []) e = single a (eqb a 0) refl
trimmed_one (a ∷ b ∷ f) e = absurd (omega arith)

-- and so are several of which the last is not 0
pub trimmed_all : (f : List ℕ) → 0 < length f → leading f ≢ 0 → or_zero (trimmed f) ≡ f
trimmed_all [] p h = absurd (omega arith)
trimmed_all (a ∷ f) p h = ap or_zero (trimmed_ends a f (subst (λ (i : ℕ). get_or (a ∷ f) i 0 ≢ 0) less h))
  where
    less : suc (length f) - 1 ≡ length f
    less = omega arith
