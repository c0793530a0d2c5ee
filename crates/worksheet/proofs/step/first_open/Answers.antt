use Rattle.std.proofs.Common.{rules, tests}
use Rattle.std.proofs.lemmas.Iterator.{YieldsList-from_slice}
use Rattle.std.proofs.lemmas.Iterator.Search.{position_from_yields_List}
use Rattle.worksheet.proofs.Tallies.{opened, first_is}
use Rattle.worksheet.proofs.step.first_open.Goals as goal

pub returns : goal.returns
returns c =
    let xs = c.args.parts.now in
    first_is xs c.position.result (position_from_yields_List opened _ _ _ c.position.ensures.ran (YieldsList-from_slice xs cc) (λ x b q k. search (rules, tests)))
