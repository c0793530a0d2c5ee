-- Two lists of codes of one length, compared from the highest code down.
-- Main statements: top_same, top_apart, top_none, before_equals, before_lengths.
use Rattle.std.proofs.Common.{◌≡◌, ℕ, ◌+◌, ◌-◌, ◌<◌, ◌≤◌, Bool, true, false, ◌&&◌, ◌||◌, eqb, ltb, List, [], ◌∷◌, reverse, length, get_or, take, sym, refl, ap, ◌∙◌, ap₂, arith, eq-eqb, ne_eqb}
use Rattle.std.proofs.lemmas.List.{take_more, take_all, reverse-append}
use Rattle.std.proofs.lemmas.Bool.{le-ltb}
use Rattle.worksheet.specs.Sheet.{smaller, before}

top : (xs : List ℕ) (n : ℕ) → 0 < n → n ≤ length xs → reverse (take n xs) ≡ get_or xs (n - 1) 0 ∷ reverse (take (n - 1) xs)
top xs n h l =
    let s : n ≡ (n - 1) + 1 = omega arith in
    ap (λ (k : ℕ). reverse (take k xs)) s ∙ ap reverse (take_more xs (n - 1) 0 (omega arith)) ∙ reverse-append (take (n - 1) xs) (get_or xs (n - 1) 0 ∷ [])

-- whether the first n codes of a are smaller, from the highest down
abbrev pub from_top : ℕ → List ℕ → List ℕ → Bool
from_top n a b = smaller (reverse (take n a)) (reverse (take n b))

smaller_cons : (x y : ℕ) (xs ys : List ℕ) → smaller (x ∷ xs) (y ∷ ys) ≡ (ltb x y || (eqb x y && smaller xs ys))
unfolding smaller
smaller_cons x y xs ys = refl

or_false : (b : Bool) → (b || false) ≡ b
or_false true = refl
or_false false = refl

module _ (a b : List ℕ) (n : ℕ) (h : 0 < n) (l : n ≤ length a) (k : n ≤ length b) where
  step : from_top n a b ≡ (ltb (get_or a (n - 1) 0) (get_or b (n - 1) 0) || (eqb (get_or a (n - 1) 0) (get_or b (n - 1) 0) && from_top (n - 1) a b))
  step = ap₂ smaller (top a n h l) (top b n h k) ∙ smaller_cons (get_or a (n - 1) 0) (get_or b (n - 1) 0) _ _

  pub top_same : get_or a (n - 1) 0 ≡ get_or b (n - 1) 0 → from_top n a b ≡ from_top (n - 1) a b
  top_same e =
      step
      ∙ ap (λ v. v || (eqb (get_or a (n - 1) 0) (get_or b (n - 1) 0) && from_top (n - 1) a b)) (le-ltb (get_or a (n - 1) 0) (get_or b (n - 1) 0) (omega arith))
      ∙ ap (λ v. v && from_top (n - 1) a b) (eq-eqb (get_or a (n - 1) 0) (get_or b (n - 1) 0) e)

  pub top_apart : (get_or a (n - 1) 0 ≡ get_or b (n - 1) 0 → ⊥) → from_top n a b ≡ ltb (get_or a (n - 1) 0) (get_or b (n - 1) 0)
  top_apart e =
      step
      ∙ ap (λ v. ltb (get_or a (n - 1) 0) (get_or b (n - 1) 0) || (v && from_top (n - 1) a b)) (ne_eqb (get_or a (n - 1) 0) (get_or b (n - 1) 0) e)
      ∙ or_false (ltb (get_or a (n - 1) 0) (get_or b (n - 1) 0))

pub top_none : (a b : List ℕ) → from_top 0 a b ≡ false
unfolding smaller
top_none a b = refl

-- of two lists of one length
pub before_equals : (a b : List ℕ) → length a ≡ length b → before a b ≡ from_top (length a) a b
before_equals a b e =
    ap (λ v. v || (eqb (length a) (length b) && smaller (reverse a) (reverse b))) (le-ltb (length a) (length b) (omega arith))
    ∙ ap (λ v. v && smaller (reverse a) (reverse b)) (eq-eqb (length a) (length b) e)
    ∙ ap₂ (λ x y. smaller (reverse x) (reverse y)) (sym (take_all (length a) a (omega arith))) (sym (take_all (length a) b (omega arith)))

-- of two lists of two lengths
pub before_lengths : (a b : List ℕ) → (length a ≡ length b → ⊥) → before a b ≡ ltb (length a) (length b)
before_lengths a b n =
    ap (λ v. ltb (length a) (length b) || (v && smaller (reverse a) (reverse b))) (ne_eqb (length a) (length b) n) ∙ or_false (ltb (length a) (length b))
