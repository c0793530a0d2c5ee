use Rattle.std.proofs.Common.{◌≡◌, ◌+◌, ◌≤◌, length, replicate}
use Rattle.field.specs.Field.{means}
use Rattle.worksheet.specs.Meaning.{sheet_of, SheetMade}
use Rattle.worksheet.proofs.Measures.{weight}
use Rattle.job.specs.Job.{most_scratch}
use Rattle.job.proofs.StepLoop.{Before}
use Rattle.job.proofs.work.settle.Given as goal

abbrev pub invariant-loop-scratch : goal.invariant-loop-scratch
invariant-loop-scratch g l =
    SheetMade (record { meaning = g.F.Ring.meaning; made = g.F.Ring.made; extras = g.F.Field.extras }) l.sheet
    × (l.sheet.field ≡ l.initial.sheet.field)
    × (length l.scratch ≡ most_scratch)
    × (l.steps + weight (sheet_of l.sheet).parts ≤ weight (sheet_of l.initial.sheet).parts)
    × Before (means (g.F.Ring.meaning l.initial.sheet.field) (g.F.Field.extras l.initial.sheet.field)) (sheet_of l.initial.sheet) (replicate most_scratch 0) l.steps (sheet_of l.sheet) l.scratch

abbrev pub decreases-loop-scratch : goal.decreases-loop-scratch
decreases-loop-scratch g l = weight (sheet_of l.sheet).parts
