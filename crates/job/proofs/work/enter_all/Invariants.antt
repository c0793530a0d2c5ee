use Rattle.std.proofs.Common.{◌≡◌, ◌-◌, Result}
use Rattle.field.specs.Field.{means}
use Rattle.worksheet.specs.Meaning.{sheet_of, SheetMade}
use Rattle.job.specs.declared.fault.JobFault.{JobFault}
use Rattle.job.specs.Reading.{polynomials_from}
use Rattle.job.specs.Reader.{bytes_of}
use Rattle.job.specs.Outcome.{Outcome}
use Rattle.job.specs.Job.{Works}
use Rattle.job.proofs.work.enter_all.Given as goal

abbrev pub invariant-loop : goal.invariant-loop
invariant-loop g l =
    SheetMade (record { meaning = g.F.Ring.meaning; made = g.F.Ring.made; extras = g.F.Field.extras }) l.sheet
    × (l.sheet.field ≡ l.initial.sheet.field)
    × ((r : Result Outcome JobFault) →
    Works (means (g.F.Ring.meaning l.initial.sheet.field) (g.F.Field.extras l.initial.sheet.field)) (sheet_of l.sheet) (polynomials_from (bytes_of l.reader) l.reader.at (l.count - l.counter)) r →
    Works (means (g.F.Ring.meaning l.initial.sheet.field) (g.F.Field.extras l.initial.sheet.field)) (sheet_of l.initial.sheet) (polynomials_from (bytes_of l.initial.reader) l.initial.reader.at l.count) r)
