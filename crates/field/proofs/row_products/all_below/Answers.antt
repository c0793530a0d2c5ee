use Rattle.std.proofs.Common.{ℕ, ◌&&◌, ltb, refl, ◌∙◌, rules, tests}
use Rattle.std.proofs.lemmas.Iterator.{YieldsList-from_slice}
use Rattle.std.proofs.lemmas.Iterator.Search.{all_from_yields_List}
use Rattle.std.proofs.lemmas.List.Recursion.{same_from_clauses}
use Rattle.std.specs.List.{list_all}
use Rattle.field.specs.Rows.{each_below}
use Rattle.field.proofs.row_products.all_below.Goals as goal

pub returns : goal.returns
unfolding each_below
returns c =
    let test = λ (x : ℕ). ltb x c.args.b in
    all_from_yields_List test _ _ _ c.all.ensures.ran (YieldsList-from_slice c.args.row.now cc) (λ x b q k. search (rules, tests))
    ∙ same_from_clauses (list_all test) (each_below c.args.b) (λ x r. test x && r) refl (λ _ _. refl) (λ _ _. refl) c.args.row.now
