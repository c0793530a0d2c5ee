-- A part of a slice that is read or written through a slice of its own.
-- Main statements: part_length, part_at, part_written, row_written, split_written.
use Rattle.std.proofs.Common.{◌≡◌, ℕ, ◌+◌, ◌-◌, ◌<◌, ◌≤◌, List, ◌++◌, length, get_or, take, drop, sym, refl, ap, ◌∙◌, subst, ap₂, arith}
use borrow.Rule.Slice.PartMut.{put_mid, post_of}
use Rattle.std.proofs.lemmas.List.{drop-drop, length-take, length-drop, get_or-take, get_or-drop, get_or_append_left, get_or-append_right}
use Rattle.std.proofs.lemmas.Slice.{put_mid-paste}
use Rattle.std.proofs.lemmas.List.Edits.{paste_all}
use Rattle.field.specs.Rows.{IsRow, Written}

pub part_length : (xs : List ℕ) (p k n : ℕ) → k ≡ n → p + n ≤ length xs → length (take k (drop p xs)) ≡ n
part_length xs p k n e fits = simp (length-take, length-drop) (omega arith)

-- what stands in the part at i stands in the slice at p + i
pub part_at : (xs : List ℕ) (p k n i : ℕ) → k ≡ n → i < n → get_or (take k (drop p xs)) i 0 ≡ get_or xs (p + i) 0
part_at xs p k n i e h = let l : i < k = omega arith in get_or-take k (drop p xs) i 0 l ∙ get_or-drop p xs i 0

-- n codes from place p on that are a row
pasted : (xs ys : List ℕ) (p n : ℕ) (c : ℕ → ℕ) → p + n ≤ length xs → IsRow ys n c → Written xs (take p xs ++ (ys ++ drop (p + n) xs)) p n c
pasted xs ys p n c fits row = record {
  inside = λ i h.
      get_or-append_right (take p xs) (ys ++ drop (p + n) xs) p (p + i) 0 front (omega arith)
      ∙ get_or_append_left ys (drop (p + n) xs) 0 (p + i - p) (omega (arith, row.sized)) ∙ row.at (p + i - p) (omega arith) ∙ (let s : p + i - p ≡ i = omega arith in ap c s);
  before = λ k h. get_or_append_left (take p xs) (ys ++ drop (p + n) xs) 0 k (omega (arith, front)) ∙ get_or-take p xs k 0 h;
  after = λ k h.
      let s : p + n + (k - p - n) ≡ k = omega arith in
      get_or-append_right (take p xs) (ys ++ drop (p + n) xs) p k 0 front (omega arith)
      ∙ get_or-append_right ys (drop (p + n) xs) n (k - p) 0 row.sized (omega arith) ∙ get_or-drop (p + n) xs (k - p - n) 0 ∙ ap (λ (x : ℕ). get_or xs x 0) s;
}
  where
    front : length (take p xs) ≡ p
    front = simp length-take (omega arith)

-- a part of n places is a row now
pub part_written : (xs ys : List ℕ) (p k n : ℕ) (c : ℕ → ℕ) → k ≡ n → p + n ≤ length xs → IsRow ys n c → Written xs (put_mid p k xs ys) p n c
part_written xs ys p k n c e fits row = subst (λ (l : List ℕ). Written xs l p n c) (sym (put_mid-paste p k xs ys ys n refl (sym e) (sym row.sized) ∙ paste_all xs p ys n (sym row.sized))) (pasted xs ys p n c fits row)

-- the same, where the row is told from what the part was
pub row_written : (xs ys : List ℕ) (p k n : ℕ) (c e : ℕ → ℕ) → k ≡ n → p + n ≤ length xs → IsRow ys (length (take k (drop p xs))) c → ((i : ℕ) → i < n → c i ≡ e i) → Written xs (put_mid p k xs ys) p n e
row_written xs ys p k n c e s fits row same = part_written xs ys p k n e s fits (record { sized = row.sized ∙ long; at = λ i h. row.at i (omega (arith, long)) ∙ same i h })
  where
    long : length (take k (drop p xs)) ≡ n
    long = part_length xs p k n s fits

-- a slice that was split at place p, where the first n places of its second half are a row now
pub split_written : (xs front back ys : List ℕ) (p k n : ℕ) (c : ℕ → ℕ) → front ≡ take p xs → back ≡ drop p xs → k ≡ n → p + n ≤ length xs → IsRow ys n c → Written xs (front ++ (ys ++ post_of 0 k back)) p n c
split_written xs front back ys p k n c f b e fits row =
    subst (λ (l : List ℕ). Written xs l p n c) (sym (ap₂ (λ (l r : List ℕ). l ++ (ys ++ r)) f (ap₂ drop e b ∙ drop-drop n p xs))) (pasted xs ys p n c fits row)
