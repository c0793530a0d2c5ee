-- How one part of the work on a job leads to the next.
use Rattle.std.specs.Prelude.{Ok, Err, Result}
use Rattle.field.specs.declared.fault.FieldFault.{FieldFault}
use Rattle.worksheet.specs.declared.fault.SheetFault.{SheetFault}
use Rattle.worksheet.specs.declared.fault.SheetFault.TheVariants.{Field}
use Rattle.job.specs.declared.fault.JobFault.{JobFault}
use Rattle.job.specs.Outcome.{Outcome}

-- a refusal of a ring or field, as one of the worksheet
abbrev pub from_field : {A : Type 0} → Result A FieldFault → Result A SheetFault
from_field (Ok x) = Ok x
from_field (Err e) = Err (Field e)

-- a part of the work has this answer: what comes of the work that is left comes of the whole, or the refusal does
abbrev pub Leads : {A : Type 0} → (Whole Left : Result Outcome JobFault → Type 0) → Result A JobFault → Type 0
Leads Whole Left (Ok a) = (r : Result Outcome JobFault) → Left r → Whole r
Leads Whole Left (Err e) = Whole (Err e)
