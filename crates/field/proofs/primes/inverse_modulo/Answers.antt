use Rattle.std.proofs.Common.{ℕ, eqb, refl, sym, ◌∙◌, rules, tests}
use Rattle.std.proofs.lemmas.Iterator.{YieldsList-from_range}
use Rattle.std.proofs.lemmas.Iterator.Search.{find_from_yields_List}
use Rattle.std.proofs.lemmas.Iterator.Adapters.{option_map_id}
use Rattle.field.specs.Residues.{residues}
use Rattle.field.specs.Searches.{found_below}
use Rattle.field.proofs.primes.inverse_modulo.Goals as goal

pub returns : goal.returns
returns c =
    let test = λ (b : ℕ). eqb ((residues c.args.base.now.n).product c.args.a b) 1 in
    sym (option_map_id _)
    ∙ find_from_yields_List test _ _ c.find.result c.find.ensures.ran (YieldsList-from_range 0 c.args.base.now.n c.args.base.now.n refl (search rules)) (λ x b q k. search (rules, tests))
    ∙ found_below c.args.base.now.n test
