use Rattle.std.proofs.Common.{ℕ, ◌*◌, List, map, vec_items, sym, ap, ◌∙◌, subst, ap₂, arith}
use Rattle.std.proofs.lemmas.Option.{same_Some}
use Rattle.std.specs.List.{All}
use Rattle.std.proofs.lemmas.Grind.{elements}
use Rattle.worksheet.specs.declared.parts.Part.{Part}
use Rattle.worksheet.specs.Sheet.{PartMeaning, place}
use Rattle.worksheet.specs.Meaning.{part_of, Sized}
use Rattle.worksheet.proofs.PartsHeld.{at_part, all_removed, map_removed}
use Rattle.worksheet.proofs.step.put_root.Goals as goal

pub overflow_mul-part : goal.overflow_mul-part
overflow_mul-part c =
    let v = c.args.parts.now in
    let part : Part = c.remove-part.result in
    omega (arith, c.requires.count (part_of part) (at_part (vec_items v) c.args.number part (omega (arith, v.ok.0)) c.remove-part.ensures.value))

pub place-requires-clause-counts : goal.place-requires-clause-counts
place-requires-clause-counts c =
    let part : Part = c.remove-part.result in
    let limit = c.requires.count (part_of part) (at_part (vec_items c.args.parts.now) c.args.number part (omega (arith, c.args.parts.now.ok.0)) c.remove-part.ensures.value) in
    λ k d h. grind (arith, elements, limit, c.requires.counts)

pub returns-clause-placed : goal.returns-clause-placed
returns-clause-placed c =
    let v = c.args.parts.now in
    let xs : List Part = vec_items v in
    let i = c.args.number in
    let part : Part = c.remove-part.result in
    let at = at_part xs i part (omega (arith, v.ok.0)) c.remove-part.ensures.value in
    λ q here.
    c.place.ensures.placed
    ∙ ap₂ (λ (n : ℕ) (qs : List PartMeaning). place c.args.row.now n qs) (ap (λ (x : PartMeaning). x.times * c.args.p) (same_Some (part_of part) q (sym at ∙ here)))
    (ap (map part_of) c.remove-part.ensures.items ∙ map_removed part_of xs i)

pub place-requires-clause-sized : goal.place-requires-clause-sized
place-requires-clause-sized c = subst (All Sized) (sym c.remove-part.ensures.items) (all_removed Sized (vec_items c.args.parts.now) c.args.number c.requires.sized)
