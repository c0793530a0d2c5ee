use Rattle.field.specs.Field.{means}
use Rattle.worksheet.specs.Meaning.{SheetMade}
use Rattle.bench.proofs.settle.Given as goal

abbrev pub invariant-loop-steps : goal.invariant-loop-steps
invariant-loop-steps g l = SheetMade (record { meaning = g.F.Ring.meaning; made = g.F.Ring.made; extras = g.F.Field.extras }) l.sheet
