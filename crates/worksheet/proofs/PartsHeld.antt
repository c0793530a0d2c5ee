-- The parts in memory and what they stand for: reading, writing, inserting and removing one.
-- Main statements: at_part, no_part, read_same, parts_length, all_held, each_meant, all_inserted, all_removed, sized_set, map_inserted, map_removed.
use Rattle.std.proofs.Common.{◌≡◌, ℕ, zero, suc, ◌<◌, ◌≤◌, List, [], ◌∷◌, map, length, get_or, Some, None, vec_items, vec_len, Vec, sym, refl, ap, ◌∙◌, le_of_suc-le-suc, not-suc-le-zero, take, drop, set, subst, arith}
use Rattle.std.specs.declared.alloc.Global.{Global}
use Rattle.std.specs.List.{All, insert, remove}
use Rattle.std.proofs.lemmas.List.Elements.{All-nil, All-cons, All-head, All-tail, All-get_or, All-set, All-append, All-take, All-drop}
use Rattle.std.proofs.lemmas.List.{map-append, take-map, drop-map, length-map, get_or_default}
use Rattle.worksheet.specs.declared.parts.Part.{Part}
use Rattle.worksheet.specs.Sheet.{PartMeaning, part_at, Each}
use Rattle.worksheet.specs.Meaning.{part_of, Sized}

-- the part at a place that was read
pub at_part : (xs : List Part) (i : ℕ) (p : Part) → i < length xs → p ≡ get_or xs i p → part_at (map part_of xs) i ≡ Some (part_of p)
unfolding part_at
at_part [] i p h e = absurd (not-suc-le-zero h)
at_part (x ∷ xs) zero p h e = ap (λ (y : Part). Some (part_of y)) (sym e)
at_part (x ∷ xs) (suc i) p h e = at_part xs i p (le_of_suc-le-suc h) e

-- past the end there is no part
pub no_part : (xs : List Part) (i : ℕ) → length xs ≤ i → part_at (map part_of xs) i ≡ None
unfolding part_at
no_part [] i h = refl
no_part (x ∷ xs) zero h = absurd (not-suc-le-zero h)
no_part (x ∷ xs) (suc i) h = no_part xs i (le_of_suc-le-suc h)

-- two readings of one place
pub read_same : (xs : List Part) (i : ℕ) (p q : Part) → i < length xs → p ≡ get_or xs i p → q ≡ get_or xs i q → p ≡ q
read_same xs i p q h d e = d ∙ get_or_default xs i p q h ∙ sym e

-- how many parts there are
pub parts_length : (v : Vec Part Global) → length (map part_of (vec_items v)) ≡ vec_len v
parts_length v = length-map (vec_items v) part_of ∙ sym v.ok.0

-- what holds of each part, by what it stands for
pub all_held : (P : PartMeaning → Type 0) (Q : Part → Type 0) → ((x : Part) → P (part_of x) → Q x) → (xs : List Part) → Each P (map part_of xs) → All Q xs
all_held P Q h [] a = All-nil Q
all_held P Q h (x ∷ xs) a = All-cons Q x xs (h x a.0) (all_held P Q h xs a.1)

pub each_meant : (P : PartMeaning → Type 0) (xs : List Part) → All (λ x. P (part_of x)) xs → Each P (map part_of xs)
each_meant P [] a = tt
each_meant P (x ∷ xs) a = (All-head (λ x. P (part_of x)) x xs a, each_meant P xs (All-tail (λ x. P (part_of x)) x xs a))

module _ {X : Type 0} (P : X → Type 0) where
  all_at : (xs : List X) (i : ℕ) (x : X) → i < length xs → x ≡ get_or xs i x → All P xs → P x
  all_at xs i x h e a = subst P (sym e) (All-get_or P xs i x h a)

  pub all_inserted : (xs : List X) (i : ℕ) (x : X) → All P xs → P x → All P (insert xs i x)
  all_inserted xs i x a q = All-append P (take i xs) (x ∷ drop i xs) (All-take P i xs a) (All-cons P x (drop i xs) q (All-drop P i xs a))

  pub all_removed : (xs : List X) (i : ℕ) → All P xs → All P (remove xs i)
  all_removed xs i a = All-append P (take i xs) (drop (suc i) xs) (All-take P i xs a) (All-drop P (suc i) xs a)

-- a part is written again, with its codes
pub sized_set : (xs : List Part) (i : ℕ) (p q : Part) → i < length xs → p ≡ get_or xs i p → q.codes ≡ p.codes → q.len ≡ p.len → All Sized xs → All Sized (set xs i q)
sized_set xs i p q h e codes len a =
    let s : Sized p = all_at Sized xs i p h e a in
    All-set Sized xs i q (record { some_code = omega (arith, len, s.some_code); fits = omega (arith, len, s.fits); array = ap length codes ∙ s.array }) a

module _ {X Y : Type 0} (f : X → Y) where
  pub map_inserted : (xs : List X) (i : ℕ) (x : X) → map f (insert xs i x) ≡ insert (map f xs) i (f x)
  map_inserted xs i x = simp (map-append, take-map, drop-map)

  pub map_removed : (xs : List X) (i : ℕ) → map f (remove xs i) ≡ remove (map f xs) i
  map_removed xs i = simp (map-append, take-map, drop-map)
