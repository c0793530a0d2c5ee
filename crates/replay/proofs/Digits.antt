-- Digits and pairs of them as the standard library reads them.
use Rattle.std.proofs.Common.{◌≡◌, ℕ, ◌<◌, ◌≤◌, List, [], ◌∷◌, ◌++◌, length, append_assoc, get_or, cond, nat_lt, Some, None, Option, refl, sym, ◌∙◌, ap, ap₂, arith}
use Rattle.std.specs.Char.{digit_value as digit_of_char}
use Rattle.std.specs.Option.{SomeIff}
use Rattle.std.proofs.lemmas.Bool.Decides.{nat_tests}
use Rattle.replay.specs.Hex.{digit_value, both, pair_value, before, text_value}

pub digit_known : (c : ℕ) (r : Option ℕ) → SomeIff r (digit_of_char c < 16) (digit_of_char c) → r ≡ digit_value c
digit_known c (Some x) h = grind (arith, nat_tests)
digit_known c None h = grind (arith, nat_tests)

-- the byte of two digits that are there
pub pair_known : (p : List ℕ) (h l : ℕ) → 2 ≤ length p → length p < 3 → h ≡ get_or p 0 0 → l ≡ get_or p 1 0 → both (digit_value h) (digit_value l) ≡ pair_value p
pair_known [] h l m n a b = absurd (omega arith)
pair_known (x ∷ []) h l m n a b = absurd (omega arith)
pair_known (x ∷ y ∷ []) h l m n a b = ap₂ (λ (u v : ℕ). both (digit_value u) (digit_value v)) a b
pair_known (x ∷ y ∷ z ∷ p) h l m n a b = absurd (omega arith)

-- the bytes so far before those of the rest, where there are some
abbrev pub behind : List ℕ → Option (List ℕ) → Option (List ℕ)
behind bs (Some cs) = Some (bs ++ cs)
behind bs None = None

-- one pair more
pub one_more : (bs rest pair tail : List ℕ) (b : ℕ) → rest ≡ pair ++ tail → Some b ≡ pair_value pair → behind bs (text_value rest) ≡ behind (bs ++ (b ∷ [])) (text_value tail)
one_more bs rest [] tail b e h = cc
one_more bs rest (x ∷ []) tail b e h = cc
one_more bs rest (x ∷ y ∷ []) tail b e h = ap (λ (r : List ℕ). behind bs (text_value r)) e ∙ ap (λ (o : Option ℕ). behind bs (before o (text_value tail))) (sym h) ∙ joined (text_value tail)
  where
    joined : (o : Option (List ℕ)) → behind bs (before (Some b) o) ≡ behind (bs ++ (b ∷ [])) o
    joined (Some cs) = ap Some (sym (append_assoc bs (b ∷ []) cs))
    joined None = refl
one_more bs rest (x ∷ y ∷ z ∷ p) tail b e h = cc
