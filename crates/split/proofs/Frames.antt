-- What is left of the scratch where one row and its combination are written.
-- Main statements: written_row, frame_both, frame_one, frame_two, frame_row, frame_pivot, frame_past, written_codes, along, subtracted, scaled_row, subtracted_row, unit_row.
use Rattle.std.proofs.Common.{◌≡◌, ℕ, ◌+◌, ◌-◌, ◌*◌, ◌<◌, ◌≤◌, ◌⊎◌, List, ◌++◌, length, get_or, take, drop, sym, ap, ◌∙◌, subst, ap₂, inl, inr, ⊎_elim, arith, eqb, ◌≢◌, replicate, set}
use Rattle.std.proofs.lemmas.Bool.{cases_lt, cases_eq, cond-true, cond-false, eq-eqb, ne_eqb}
use Rattle.field.specs.Ring.{RingMeaning}
use borrow.Rule.Slice.PartMut.{put_mid, post_of}
use Rattle.std.proofs.lemmas.List.{get_or-take, get_or-replicate, get_or-set_same, get_or-set_other, length-replicate, length-set}
use Rattle.field.specs.Rows.{IsRow, Written}
use Rattle.field.proofs.Writing.{written_outside}
use Rattle.split.specs.Matrix.{cell, Codes}
use Rattle.split.specs.Echelon.{Frame, Subtracted, less, pivot_of, unit_at}
use Rattle.split.proofs.Rows.{row_end, row_inside, rows_apart, row_facts}
use Rattle.split.proofs.Parts.{part_length, part_at, part_written, row_written, split_written}
use Rattle.split.proofs.Leads.{lead_same}

pub written_row : {old new : List ℕ} {f : ℕ → ℕ} (d e j i : ℕ) → Written old new (e * d) d f → (j ≡ e → ⊥) → i < d → cell new d j i ≡ cell old d j i
written_row d e j i w ne h = written_outside w (j * d + i) (rows_apart d j e i ne h)

pub frame_both : {d e : ℕ} {old mid new : List ℕ} → Frame d e old mid → Frame d e mid new → Frame d e old new
frame_both f g = record { same = λ k a b. g.same k a b ∙ f.same k a b }

-- a row and then its combination
pub frame_two : {old mid new : List ℕ} {f g : ℕ → ℕ} (d e : ℕ) → Written old mid (e * d) d f → Written mid new ((d + e) * d) d g → Frame d e old new
frame_two d e w v = record { same = λ k a b. written_outside v k b ∙ written_outside w k a }

-- the combination alone
pub frame_one : {old new : List ℕ} {g : ℕ → ℕ} (d e : ℕ) → Written old new ((d + e) * d) d g → Frame d e old new
frame_one d e v = record { same = λ k a b. written_outside v k b }

pub frame_row : {old new : List ℕ} (d e j i : ℕ) → Frame d e old new → (j ≡ e → ⊥) → (j ≡ d + e → ⊥) → i < d → cell new d j i ≡ cell old d j i
frame_row d e j i f ne nf h = f.same (j * d + i) (rows_apart d j e i ne h) (rows_apart d j (d + e) i nf h)

pub frame_pivot : {old new : List ℕ} (d e j : ℕ) → Frame d e old new → (j ≡ e → ⊥) → (j ≡ d + e → ⊥) → pivot_of new d j ≡ pivot_of old d j
frame_pivot d e j f ne nf = lead_same d _ _ (λ i h. frame_row d e j i f ne nf h)

-- the codes past the scratch that is used
pub frame_past : {old new : List ℕ} (d e k : ℕ) → e < d → Frame d e old new → 2 * (d * d) ≤ k → get_or new k 0 ≡ get_or old k 0
frame_past d e k h f l = let r = row_facts d e h in f.same k (inr (omega arith)) (inr (omega arith))

-- k lies outside of the n places from p on, or is one of them
abbrev Place : ℕ → ℕ → ℕ → Type 0
Place p n k = ((k < p) ⊎ (p + n ≤ k)) ⊎ ((i : ℕ) × (i < n) × (p + i ≡ k))

place : (p n k : ℕ) → Place p n k
place p n k =
    ⊎_elim (λ (a : k < p). inl (inl a))
    (λ (a : p ≤ k). ⊎_elim (λ (z : k < p + n). inr (k - p, omega arith, omega arith)) (λ (z : p + n ≤ k). inl (inr z)) (cases_lt k (p + n)))
    (cases_lt k p)

-- the codes are elements of the ring if they were, and those written are
pub written_codes : (m : RingMeaning) (n p d : ℕ) {old new : List ℕ} {c : ℕ → ℕ} → Written old new p d c → ((i : ℕ) → i < d → c i < m.order) → Codes m n old → Codes m n new
written_codes m n p d {old} {new} w h b k l = go (place p d k)
  where
    go : Place p d k → get_or new k 0 < m.order
    go (inl a) = subst (λ (x : ℕ). x < m.order) (sym (written_outside w k a)) (b k l)
    go (inr z) = subst (λ (x : ℕ). get_or new x 0 < m.order) z.2 (subst (λ (x : ℕ). x < m.order) (sym (w.inside z.0 z.1)) (h z.0 z.1))

-- what is said of a ring and a length that are equal to others
pub along : (P : RingMeaning → ℕ → Type 0) {m m' : RingMeaning} {d d' : ℕ} → m' ≡ m → d' ≡ d → P m' d' → P m d
along P {m} {m'} {d} {d'} a b h = subst (λ (x : RingMeaning). P x d) a (subst (λ (n : ℕ). P m' n) b h)

-- the two writes that take a multiple of row r from row e
pub subtracted : (m : RingMeaning) (d r e t : ℕ) {old mid new : List ℕ} → r < e → e < d
    → Written old mid (e * d) d (λ i. less m t (cell old d e i) (cell old d r i))
    → Written mid new ((d + e) * d) d (λ i. less m t (cell mid d (d + e) i) (cell mid d (d + r) i))
    → Subtracted m d r e t old new
subtracted m d r e t h k w v = record {
  frame = frame_two d e w v;
  row = λ i l. written_row d (d + e) e i v (omega arith) l ∙ w.inside i l;
  combination = λ i l. v.inside i l ∙ ap₂ (less m t) (written_row d e (d + e) i w (omega arith) l) (written_row d e (d + r) i w (omega arith) l);
}

-- a row that is written in place: multiplied by u, or less a multiple of a row before it

pub scaled_row : (m : RingMeaning) (codes row : List ℕ) (d e u : ℕ) → e < 2 * d → 2 * (d * d) ≤ length codes
    → IsRow row (length (take (e * d + d - e * d) (drop (e * d) codes))) (λ i. m.product u (get_or (take (e * d + d - e * d) (drop (e * d) codes)) i 0))
    → Written codes (put_mid (e * d) (e * d + d - e * d) codes row) (e * d) d (λ i. m.product u (cell codes d e i))
scaled_row m codes row d e u h fits is =
    let s : e * d + d - e * d ≡ d = omega arith in
    row_written codes row (e * d) (e * d + d - e * d) d _ (λ i. m.product u (cell codes d e i)) s (omega (arith, row_inside d e h)) is
    (λ i l. ap (m.product u) (part_at codes (e * d) (e * d + d - e * d) d i s l))

pub subtracted_row : (m : RingMeaning) (codes front back row : List ℕ) (d r e t : ℕ) → r < e → e < 2 * d → 2 * (d * d) ≤ length codes
    → front ≡ take (e * d) codes → back ≡ drop (e * d) codes
    → IsRow row (length (take (d - 0) back)) (λ i. less m t (get_or (take (d - 0) back) i 0) (get_or (take (r * d + d - r * d) (drop (r * d) front)) i 0))
    → Written codes (front ++ (row ++ post_of 0 (d - 0) back)) (e * d) d (λ i. less m t (cell codes d e i) (cell codes d r i))
subtracted_row m codes front back row d r e t above h fits f b is =
    split_written codes front back row (e * d) (d - 0) d (λ i. less m t (cell codes d e i) (cell codes d r i)) f b all inside
    (record { sized = is.sized ∙ long; at = λ i l. is.at i (omega (arith, long)) ∙ ap₂ (less m t) (own i l) (other i l) })
  where
    all : d - 0 ≡ d
    all = omega arith

    count : r * d + d - r * d ≡ d
    count = omega arith

    inside : e * d + d ≤ length codes
    inside = omega (arith, row_inside d e h)

    long : length (take (d - 0) back) ≡ d
    long = ap (λ (l : List ℕ). length (take (d - 0) l)) b ∙ part_length codes (e * d) (d - 0) d all inside

    own : (i : ℕ) → i < d → get_or (take (d - 0) back) i 0 ≡ cell codes d e i
    own i l = ap (λ (x : List ℕ). get_or (take (d - 0) x) i 0) b ∙ part_at codes (e * d) (d - 0) d i all l

    other : (i : ℕ) → i < d → get_or (take (r * d + d - r * d) (drop (r * d) front)) i 0 ≡ cell codes d r i
    other i l =
        ap (λ (x : List ℕ). get_or (take (r * d + d - r * d) (drop (r * d) x)) i 0) f ∙ part_at (take (e * d) codes) (r * d) (r * d + d - r * d) d i count l
        ∙ get_or-take (e * d) codes (r * d + i) 0 (omega (arith, row_end d r e above))

pub unit_row : (codes ys : List ℕ) (d e : ℕ) → e < d → 2 * (d * d) ≤ length codes
    → ys ≡ replicate (length (take ((d + e) * d + d - (d + e) * d) (drop ((d + e) * d) codes))) 0
    → Written codes (put_mid ((d + e) * d) ((d + e) * d + d - (d + e) * d) codes (set ys e 1)) ((d + e) * d) d (unit_at e)
unit_row codes ys d e h fits is = part_written codes (set ys e 1) p (p + d - p) d (unit_at e) s inside (record { sized = length-set ys e 1 ∙ long; at = at })
  where
    p : ℕ
    p = (d + e) * d

    s : p + d - p ≡ d
    s = omega arith

    inside : p + d ≤ length codes
    inside = omega (arith, row_inside d (d + e) (omega arith))

    long : length ys ≡ d
    long = ap length is ∙ length-replicate (length (take (p + d - p) (drop p codes))) 0 ∙ part_length codes p (p + d - p) d s inside

    at : (i : ℕ) → i < d → get_or (set ys e 1) i 0 ≡ unit_at e i
    at i l =
        ⊎_elim
        (λ (q : i ≡ e). ap (λ (x : ℕ). get_or (set ys e 1) x 0) q ∙ get_or-set_same ys e 1 0 (omega (arith, long)) ∙ sym (cond-true (eqb i e) 1 0 (eq-eqb i e q)))
        (λ (n : i ≢ e).
        get_or-set_other ys e i 1 0 n ∙ ap (λ (x : List ℕ). get_or x i 0) is
        ∙ get_or-replicate (length (take (p + d - p) (drop p codes))) i 0 0 (omega (arith, part_length codes p (p + d - p) d s inside)) ∙ sym (cond-false (eqb i e) 1 0 (ne_eqb i e n)))
        (cases_eq i e)
