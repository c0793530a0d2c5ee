-- What comes of a job that is not refused: the order of its field, and the worksheet after its steps, of which there were so many.
use Rattle.std.specs.Prelude.{ℕ, List, map, Ok, Err, vec_items, Result}
use Rattle.field.specs.Ring.{RingMeaning}
use Rattle.worksheet.specs.Sheet.{PartMeaning, SheetMeaning}
use Rattle.worksheet.specs.Meaning.{part_of}
use Rattle.job.specs.declared.fault.JobFault.{JobFault}
use Rattle.job.specs.declared.listing.Listing.{Listing}

pub record Outcome : Type 0 where
  pub order : ℕ
  pub unit : ℕ
  pub steps : ℕ
  pub parts : List PartMeaning

-- of the worksheet s after n steps
abbrev pub outcome : RingMeaning → SheetMeaning → ℕ → Outcome
outcome m s n = record { order = m.order; unit = s.unit; steps = n; parts = s.parts }

-- what a listing of the code stands for
abbrev pub outcome_of : Listing → Outcome
outcome_of l = record { order = l.order; unit = l.unit; steps = l.steps; parts = map part_of (vec_items l.parts) }

abbrev pub answer_of : Result Listing JobFault → Result Outcome JobFault
answer_of (Ok l) = Ok (outcome_of l)
answer_of (Err e) = Err e
