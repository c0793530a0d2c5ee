-- To take one of a part: its multiplicity is lowered, or the part is removed.
-- Main statements: lowered_at, removed_at.
use Rattle.std.proofs.Common.{◌≡◌, ℕ, zero, suc, ◌-◌, true, false, leb, List, [], ◌∷◌, ◌++◌, set, Some, sym, ap, ◌∙◌}
use Rattle.std.proofs.lemmas.Option.{same_Some}
use Rattle.std.specs.List.{remove}
use Rattle.std.proofs.lemmas.Bool.{cond-true, cond-false}
use Rattle.field.specs.Ranges.{some_none}
use Rattle.worksheet.specs.Sheet.{PartMeaning, part_at, taken_once, taken_at}

-- the part with one less of its multiplicity
abbrev pub lowered : PartMeaning → PartMeaning
lowered p = record { codes = p.codes; times = p.times - 1; mark = p.mark }

pub lowered_at : (ps : List PartMeaning) (i : ℕ) (p : PartMeaning) → part_at ps i ≡ Some p → leb p.times 1 ≡ false → taken_at ps i ≡ set ps i (lowered p)
unfolding part_at taken_at
lowered_at [] i p a h = absurd (some_none (sym a))
lowered_at (q ∷ ps) zero p a h = ap (λ (x : PartMeaning). taken_once x ++ ps) (same_Some q p a) ∙ ap (λ (x : List PartMeaning). x ++ ps) (cond-false (leb p.times 1) [] (lowered p ∷ []) h)
lowered_at (q ∷ ps) (suc i) p a h = ap (λ (x : List PartMeaning). q ∷ x) (lowered_at ps i p a h)

pub removed_at : (ps : List PartMeaning) (i : ℕ) (p : PartMeaning) → part_at ps i ≡ Some p → leb p.times 1 ≡ true → taken_at ps i ≡ remove ps i
unfolding part_at taken_at
removed_at [] i p a h = absurd (some_none (sym a))
removed_at (q ∷ ps) zero p a h = ap (λ (x : PartMeaning). taken_once x ++ ps) (same_Some q p a) ∙ ap (λ (x : List PartMeaning). x ++ ps) (cond-true (leb p.times 1) [] (lowered p ∷ []) h)
removed_at (q ∷ ps) (suc i) p a h = ap (λ (x : List PartMeaning). q ∷ x) (removed_at ps i p a h)
