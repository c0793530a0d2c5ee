use Rattle.std.proofs.Common.{◌≡◌, ℕ, eqb, List, map, vec_items, sym, ap, ◌∙◌, arith, ne_eqb}
use Rattle.std.proofs.lemmas.Bool.{cond-false}
use Rattle.field.specs.Field.{means}
use Rattle.field.specs.Polynomial.{degree}
use Rattle.worksheet.specs.Sheet.{place}
use Rattle.worksheet.specs.Calls.{monic_of}
use Rattle.worksheet.specs.Meaning.{part_of}
use Rattle.worksheet.proofs.enter.place_monic.Goals as goal

pub returns-then-f-gt-CODES_OF_CONSTANT-clause-placed : goal.returns-then-f-gt-CODES_OF_CONSTANT-clause-placed
returns-then-f-gt-CODES_OF_CONSTANT-clause-placed g c =
    let f : List ℕ = c.args.f.now in
    let positive : degree f ≡ 0 → ⊥ = λ e. omega arith in
    c.place.ensures.placed ∙ ap (λ (row : List ℕ). place row 1 (map part_of (vec_items c.args.parts.now))) (c.make_monic.ensures ∙ ap (monic_of (means (g.F.Ring.meaning c.args.field.now) (g.F.Field.extras c.args.field.now))) c.copy_from_slice.ensures.after)
    ∙ sym (cond-false (eqb (degree f) 0) _ _ (ne_eqb (degree f) 0 positive))
