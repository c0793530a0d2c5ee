-- Why a job is refused. Its place is that of a byte, counted from 0.
use Rattle.std.specs.Prelude.{ℕ, Some, None, Option}
use Rattle.worksheet.specs.declared.fault.SheetFault.{SheetFault}
use Rattle.job.specs.declared.fault.JobFault.{JobFault}
use Rattle.job.specs.declared.fault.JobFault.TheVariants.{EndsEarly, NotAllowed, LeftOver, Record}

abbrev pub job_number : JobFault → ℕ
job_number (EndsEarly at) = 40
job_number (NotAllowed at) = 41
job_number (LeftOver at) = 42
job_number (Record at e) = 43

-- faults of jobs are of the fourth layer
abbrev pub job_layer : JobFault → ℕ
job_layer e = 4

abbrev pub job_place : JobFault → ℕ
job_place (EndsEarly at) = at
job_place (NotAllowed at) = at
job_place (LeftOver at) = at
job_place (Record at e) = at

-- the refusal that a job wraps, if it wraps one
abbrev pub job_below : JobFault → Option SheetFault
job_below (EndsEarly at) = None
job_below (NotAllowed at) = None
job_below (LeftOver at) = None
job_below (Record at e) = Some e
