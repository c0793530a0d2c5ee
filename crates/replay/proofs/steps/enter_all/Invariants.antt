use Rattle.field.specs.Field.{means}
use Rattle.worksheet.specs.Meaning.{SheetMade}
use Rattle.replay.proofs.steps.enter_all.Given as goal

abbrev pub invariant-loop : goal.invariant-loop
invariant-loop g l = SheetMade (record { meaning = g.F.Ring.meaning; made = g.F.Ring.made; extras = g.F.Field.extras }) l.sheet
