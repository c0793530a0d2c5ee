use Rattle.field.specs.Field.{means}
use Rattle.worksheet.specs.Meaning.{SheetMade}
use Rattle.vectors.proofs.worksheets.play.Given as goal

abbrev pub invariant-loop-call : goal.invariant-loop-call
invariant-loop-call g l = SheetMade (record { meaning = g.F.Ring.meaning; made = g.F.Ring.made; extras = g.F.Field.extras }) l.sheet
