use Rattle.std.proofs.Common.{◌∙◌, rules, tests}
use Rattle.std.proofs.lemmas.Iterator.{YieldsList-from_slice}
use Rattle.std.proofs.lemmas.Iterator.Search.{position_from_yields_List}
use Rattle.worksheet.proofs.Tallies.{stops, position_is}
use Rattle.worksheet.proofs.placing.position.Goals as goal

pub returns : goal.returns
returns c =
    let f = c.args.codes.now in
    let xs = c.args.parts.now in
    c.unwrap_or.ensures
    ∙ position_is f xs c.position.result (position_from_yields_List (stops f) _ _ _ c.position.ensures.ran (YieldsList-from_slice xs cc) (λ x b q k. search (rules, tests)))
