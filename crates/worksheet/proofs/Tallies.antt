-- What is counted and sought over the parts in memory, in the library's words for lists.
-- Main statements: total_is, opens_is, opens_few, first_is, place_is, got, got_and.
use Rattle.std.proofs.Common.{◌≡◌, ℕ, suc, ◌+◌, ◌*◌, ◌<◌, ◌≤◌, Bool, true, false, not, cond, ltb, List, [], ◌∷◌, map, length, get_or, Some, None, Option, sym, refl, ap, ◌∙◌, inl, inr, ◌⊎◌, arith, Bor}
use borrow.Author.Tests.{ltb-true, ltb-false}
use Rattle.std.specs.List.{sum_by, position_or_len}
use Rattle.std.specs.Option.{MatchOption, IfSome, is_some, option_map, unwrap_or}
use Rattle.std.proofs.lemmas.List.Recursion.{is_sum_by, is_position_or_len}
use Rattle.std.proofs.lemmas.List.Sums.{prefix_len-le-length}
use Rattle.std.proofs.lemmas.List.{length-map}
use Rattle.std.proofs.lemmas.Bool.{cases_lt, lt-ltb, le-ltb}
use Rattle.field.specs.Polynomial.{degree}
use Rattle.worksheet.specs.declared.parts.Part.{Part}
use Rattle.worksheet.specs.Sheet.{PartMeaning, before, is_open, next_open, open_count, part_at, total_degree}
use Rattle.worksheet.specs.Places.{place_of}
use Rattle.worksheet.specs.Meaning.{part_of}
use Rattle.worksheet.proofs.PartsHeld.{at_part, no_part}

-- degree times multiplicity
abbrev pub weighed : Part → ℕ
weighed x = degree (part_of x).codes * x.times

pub total_is : (xs : List Part) → total_degree (map part_of xs) ≡ sum_by weighed xs
unfolding total_degree
total_is = is_sum_by (λ xs. total_degree (map part_of xs)) weighed refl (λ _ _. refl)

abbrev pub opened : Part → Bool
opened x = is_open x.mark

-- one for an open part
abbrev pub opened_one : Part → ℕ
opened_one x = cond (opened x) 1 0

pub opens_is : (xs : List Part) → open_count (map part_of xs) ≡ sum_by opened_one xs
unfolding open_count
opens_is = is_sum_by (λ xs. open_count (map part_of xs)) opened_one refl (λ _ _. refl)

one_most : (b : Bool) → cond b 1 0 ≤ 1
one_most true = omega arith
one_most false = omega arith

-- there are no more open parts than parts
few : (ps : List PartMeaning) → open_count ps ≤ length ps
unfolding open_count
few [] = omega arith
few (p ∷ ps) = omega (arith, one_most (is_open p.mark), few ps)

pub opens_few : (xs : List Part) → sum_by opened_one xs ≤ length xs
opens_few xs = omega (arith, opens_is xs, few (map part_of xs), length-map xs part_of)

next_at : (xs : List Part) → part_at (map part_of xs) (position_or_len opened xs) ≡ next_open (map part_of xs)
unfolding part_at next_open
next_at [] = refl
next_at (x ∷ xs) = go (opened x) (next_at xs)
  where
    go : (b : Bool) → part_at (map part_of xs) (position_or_len opened xs) ≡ next_open (map part_of xs) → part_at (map part_of (x ∷ xs)) (cond (not b) (1 + position_or_len opened xs) 0) ≡ cond b (Some (part_of x)) (next_open (map part_of xs))
    go true h = refl
    go false h =
        let e : 1 + position_or_len opened xs ≡ suc (position_or_len opened xs) = omega arith in
        ap (part_at (part_of x ∷ map part_of xs)) e ∙ h

-- what `position` answers for the first open part
pub first_is : (xs : List Part) (r : Option ℕ) → r ≡ cond (ltb (position_or_len opened xs) (length xs)) (Some (position_or_len opened xs)) None → MatchOption r (next_open (map part_of xs) ≡ None) (λ i. (i < length xs) × (part_at (map part_of xs) i ≡ next_open (map part_of xs)))
first_is xs r e = go (cases_lt (position_or_len opened xs) (length xs))
  where
    n : ℕ
    n = position_or_len opened xs

    go : (n < length xs) ⊎ (length xs ≤ n) → MatchOption r (next_open (map part_of xs) ≡ None) (λ i. (i < length xs) × (part_at (map part_of xs) i ≡ next_open (map part_of xs)))
    go (inl h) = rw (e, lt-ltb n (length xs) h) (h, next_at xs)
    go (inr h) = rw (e, le-ltb n (length xs) h) (sym (next_at xs) ∙ no_part xs n h)

abbrev pub stops : List ℕ → Part → Bool
stops f x = not (before (part_of x).codes f)

pub place_is : (f : List ℕ) (xs : List Part) → place_of f (map part_of xs) ≡ position_or_len (stops f) xs
unfolding place_of
place_is f = is_position_or_len (λ xs. place_of f (map part_of xs)) (stops f) refl (λ x xs. go (before (part_of x).codes f) (place_of f (map part_of xs)))
  where
    go : (b : Bool) (n : ℕ) → cond b (suc n) 0 ≡ cond (not b) 0 (1 + n)
    go true n = omega arith
    go false n = refl

-- what `position` answers, or the length
pub position_is : (f : List ℕ) (xs : List Part) (r : Option ℕ) → r ≡ cond (ltb (position_or_len (stops f) xs) (length xs)) (Some (position_or_len (stops f) xs)) None → unwrap_or r (length xs) ≡ place_of f (map part_of xs)
position_is f xs r e = go (cases_lt n (length xs)) ∙ sym (place_is f xs)
  where
    n : ℕ
    n = position_or_len (stops f) xs

    go : (n < length xs) ⊎ (length xs ≤ n) → unwrap_or r (length xs) ≡ n
    go (inl h) = rw (e, lt-ltb n (length xs) h)
    go (inr h) = rw (e, le-ltb n (length xs) h) (omega (arith, prefix_len-le-length (λ x. not (stops f x)) xs))

-- what `get` answers for the part at place i
pub got : (xs : List Part) (i : ℕ) (r : Option (Bor Part)) → is_some r ≡ ltb i (length xs) → IfSome r (λ x. x.now ≡ get_or xs i x.now) → part_at (map part_of xs) i ≡ option_map (λ x. part_of x.now) r
got xs i None e h = no_part xs i (ltb-false i (length xs) (sym e))
got xs i (Some x) e h = at_part xs i x.now (ltb-true i (length xs) (sym e)) h

-- what `is_some_and` answers then, of a test of the part
pub got_and : {Q : Bor Part → Type 0} (test : Option PartMeaning → Bool) (r : Option (Bor Part)) (b : Bool) → test None ≡ false → MatchOption r (b ≡ false) Q → ((x : Bor Part) → Q x → b ≡ test (Some (part_of x.now))) → b ≡ test (option_map (λ x. part_of x.now) r)
got_and test None b n h q = h ∙ sym n
got_and test (Some x) b n h q = q x h
