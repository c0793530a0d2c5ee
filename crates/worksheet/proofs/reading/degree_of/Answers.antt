use Rattle.std.proofs.Common.{sym, ◌∙◌, arith, rules, tests}
use Rattle.std.proofs.lemmas.Iterator.{YieldsList-from_slice, YieldsList-from_map}
use Rattle.std.proofs.lemmas.Iterator.Consumers.{sum_by_from_yields_List, fits_by_from_yields_list}
use Rattle.worksheet.proofs.Tallies.{weighed, total_is}
use Rattle.worksheet.proofs.reading.degree_of.Goals as goal

pub sum-requires-clause-fits : goal.sum-requires-clause-fits
sum-requires-clause-fits c =
    let xs = c.args.parts.now in
    fits_by_from_yields_list _ _ c.map.result _ (YieldsList-from_map _ weighed (YieldsList-from_slice xs cc) c.map.ensures.closure (λ x r q k. search (rules, tests)))
    (omega (arith, c.requires, total_is xs))

pub returns : goal.returns
returns c =
    let xs = c.args.parts.now in
    sum_by_from_yields_List _ _ c.map.result _ c.sum.ensures.ran (YieldsList-from_map _ weighed (YieldsList-from_slice xs cc) c.map.ensures.closure (λ x r q k. search (rules, tests)))
    ∙ sym (total_is xs)
