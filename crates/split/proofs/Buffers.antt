-- A polynomial in a buffer from index 0 on.
-- Main statements: written_front, front_written, wiped_same.
use Rattle.std.proofs.Common.{◌≡◌, ℕ, ◌+◌, ◌-◌, ◌<◌, ◌≤◌, List, ◌++◌, length, get_or, take, drop, replicate, sym, refl, ap, ◌∙◌, ⊎_elim, zero-add, arith}
use Rattle.std.proofs.lemmas.List.{ext_get_or, length-append, length-drop, get_or_append_left, get_or-append_right, get_or-drop, take_at}
use Rattle.std.proofs.lemmas.Bool.{cases_lt}
use Rattle.field.specs.Rows.{Written}
use Rattle.poly.specs.Calls.{written}
use Rattle.split.specs.Splitting.{wiped}

written_length : (r old : List ℕ) → length r ≤ length old → length (written r old) ≡ length old
written_length r old h = length-append r (drop (length r) old) ∙ let e = length-drop (length r) old in omega arith

pub written_front : (r old : List ℕ) → take (length r) (written r old) ≡ r
written_front r old = take_at r (drop (length r) old) (length r) refl

-- the codes of r are written, and nothing else
pub front_written : (r old new : List ℕ) (n : ℕ) → length new ≡ length old → length r ≤ length old → length r ≡ n
    → Written old new 0 n (λ i. get_or r i 0) → new ≡ written r old
front_written r old new n same fits long w = ext_get_or 0 new (written r old) (same ∙ sym (written_length r old fits)) at
  where
    at : (i : ℕ) → i < length new → get_or new i 0 ≡ get_or (written r old) i 0
    at i h =
        ⊎_elim
        (λ (k : i < length r). ap (λ (x : ℕ). get_or new x 0) (sym (zero-add i)) ∙ w.inside i (omega arith) ∙ sym (get_or_append_left r (drop (length r) old) 0 i k))
        (λ (k : length r ≤ i).
        let s : length r + (i - length r) ≡ i = omega arith in
        w.after i (omega arith) ∙ sym (get_or-append_right r (drop (length r) old) (length r) i 0 refl k ∙ get_or-drop (length r) old (i - length r) 0 ∙ ap (λ (x : ℕ). get_or old x 0) s))
        (cases_lt i (length r))

-- what is zeroed does not matter
pub wiped_same : (n : ℕ) (old new : List ℕ) → length new ≡ length old → ((k : ℕ) → n ≤ k → get_or new k 0 ≡ get_or old k 0) → wiped n new ≡ wiped n old
wiped_same n old new long past = ap (λ (xs : List ℕ). replicate n 0 ++ xs)
    (ext_get_or 0 (drop n new) (drop n old) (length-drop n new ∙ ap (λ (k : ℕ). k - n) long ∙ sym (length-drop n old)) (λ i h. get_or-drop n new i 0 ∙ past (n + i) (omega arith) ∙ sym (get_or-drop n old i 0)))
