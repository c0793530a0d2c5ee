-- Where a part with given codes stands among parts, whether there is an open part at a place, and the part that a step is for.
use Rattle.std.specs.Prelude.{◌≡◌, ℕ, suc, Bool, false, cond, List, [], ◌∷◌, replicate, Some, None, Option}
use Rattle.field.specs.Field.{FieldMeaning}
use Rattle.poly.specs.Faults.{most_codes}
use Rattle.split.specs.Calls.{Split}
use Rattle.worksheet.specs.Sheet.{PartMeaning, before, is_open, next_open, part_at}

-- how many parts stand before f, counted until the first that does not
unfoldable pub place_of : List ℕ → List PartMeaning → ℕ
place_of f [] = 0
place_of f (p ∷ ps) = cond (before p.codes f) (suc (place_of f ps)) 0

-- whether there is a part, and it is open
abbrev pub some_open : Option PartMeaning → Bool
some_open None = false
some_open (Some p) = is_open p.mark

-- The part at place i is the first open one. It was split: a is the answer, and its pieces are in two buffers that held zeros before.
pub record Chosen (F : FieldMeaning) (ps : List PartMeaning) (i : ℕ) (a : ℕ × ℕ × ℕ) (first second : List ℕ) : Type 0 where
  pub part : PartMeaning
  pub here : part_at ps i ≡ Some part
  pub next : next_open ps ≡ Some part
  pub split : Split F part.codes (replicate most_codes 0) (replicate most_codes 0) a first second
