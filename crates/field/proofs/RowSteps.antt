-- Rows that a loop writes place by place, from the lowest up, or that it reads from the top down.
-- Main statements: Upward; FromTop, rev_turn, rev_end, top_none, top_more, top_all.
use Rattle.std.proofs.Common.{◌≡◌, Iter, Option, Some, None, ℕ, suc, ◌+◌, ◌-◌, ◌<◌, ◌≤◌, List, ◌∷◌, length, get_or, sym, ap, ◌∙◌, ap₂, arith, [], drop, reverse, drop-cons}
use Rattle.std.proofs.lemmas.Iterator.Adapters.{YieldsList-from_rev_slice}
use Rattle.std.proofs.lemmas.Iterator.Consumers.{YieldsList-turn, YieldsList-end}
use Rattle.std.specs.Iterator.{Yields}
use Rattle.std.specs.Iterator.Adapters.{rev_source, rev_steps}
use Rattle.std.specs.Slice.Iter.{iter_rest, iter_steps_back}
use Rattle.std.specs.declared.iter.Rev.{Rev}
use denote.Ref.{Bor}
use Rattle.std.proofs.lemmas.List.{length-reverse, get_or-reverse, get_or_default, drop_all}

-- the places below i are written, and those from i on are as they were
pub record Upward (old new : List ℕ) (i : ℕ) (f : ℕ → ℕ) : Type 0 where
  pub done : (j : ℕ) → j < i → get_or new j 0 ≡ f j
  pub kept : (j : ℕ) → i ≤ j → get_or new j 0 ≡ get_or old j 0

-- a code that a loop reads from the top down, where it has read k others
pub record FromTop (xs : List ℕ) (k x : ℕ) : Type 0 where
  pub some : k < length xs
  pub value : x ≡ get_or xs (length xs - k - 1) 0

from_top : (xs : List ℕ) (k x : ℕ) → (k < length (reverse xs)) × (x ≡ get_or (reverse xs) k x) → FromTop xs k x
from_top xs k x r = record {
  some = some;
  value = r.1 ∙ get_or-reverse xs k x some ∙ ap (λ (j : ℕ). get_or xs j x) place ∙ get_or_default xs (length xs - k - 1) x 0 (omega (arith, some));
}
  where
    long : length (reverse xs) ≡ length xs
    long = length-reverse xs

    some : k < length xs
    some = omega (arith, r.0, long)

    place : length xs - 1 - k ≡ length xs - k - 1
    place = omega arith

-- at each turn of a loop over a row from its end, and at the end of the loop
pub rev_turn : (xs : List ℕ) (s : Rev (Iter ℕ)) → iter_rest (rev_source s) ≡ xs → (ys : List (Bor ℕ)) (t : Rev (Iter ℕ)) → Yields (rev_steps iter_steps_back) s ys t →
    (r : Option (Bor ℕ)) (u : Rev (Iter ℕ)) (x : Bor ℕ) → r ≡ Some x → rev_steps iter_steps_back t r u → FromTop xs (length ys) x.now
rev_turn xs s e ys t y r u x q w = from_top xs (length ys) x.now (YieldsList-turn (YieldsList-from_rev_slice xs e) ys t y r u x q w)

pub rev_end : (xs : List ℕ) (s : Rev (Iter ℕ)) → iter_rest (rev_source s) ≡ xs → (ys : List (Bor ℕ)) (t : Rev (Iter ℕ)) → Yields (rev_steps iter_steps_back) s ys t →
    (r : Option (Bor ℕ)) (u : Rev (Iter ℕ)) → r ≡ None → rev_steps iter_steps_back t r u → length ys ≡ length xs
rev_end xs s e ys t y r u q w = (YieldsList-end (YieldsList-from_rev_slice xs e) ys t y r u q w).1 ∙ length-reverse xs

-- the codes read so far: at the start, at each turn and at the end
pub top_none : (xs : List ℕ) → drop (length xs - 0) xs ≡ []
top_none xs = drop_all (length xs - 0) xs (omega arith)

pub top_more : (xs : List ℕ) (k n x : ℕ) → FromTop xs k x → n ≡ k + 1 → drop (length xs - n) xs ≡ x ∷ drop (length xs - k) xs
top_more xs k n x t next =
    ap (λ (j : ℕ). drop j xs) here ∙ drop-cons xs (length xs - k - 1) 0 (omega (arith, t.some))
    ∙ ap₂ ◌∷◌ (sym t.value) (ap (λ (j : ℕ). drop j xs) above)
  where
    here : length xs - n ≡ length xs - k - 1
    here = omega (arith, next)

    above : suc (length xs - k - 1) ≡ length xs - k
    above = omega (arith, t.some)

pub top_all : (xs : List ℕ) (k : ℕ) → k ≡ length xs → drop (length xs - k) xs ≡ xs
top_all xs k e = ap (λ (j : ℕ). drop j xs) none
  where
    none : length xs - k ≡ 0
    none = omega (arith, e)
