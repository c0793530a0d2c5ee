use Rattle.std.proofs.Common.{◌<◌, List, map, length, set, vec_items, sym, refl, ap, ◌∙◌, arith}
use Rattle.std.proofs.lemmas.Option.{same_Some}
use Rattle.std.proofs.lemmas.List.{map-set}
use Rattle.worksheet.specs.declared.parts.Part.{Part}
use Rattle.worksheet.specs.Sheet.{PartMeaning, settled}
use Rattle.worksheet.specs.Meaning.{part_of}
use Rattle.worksheet.proofs.PartsHeld.{at_part, sized_set}
use Rattle.worksheet.proofs.step.settle_at.Goals as goal

pub returns-clause-settled : goal.returns-clause-settled
returns-clause-settled c =
    let v = c.args.parts.now in
    let xs : List Part = vec_items v in
    let i = c.args.number in
    let within : i < length xs = omega (arith, v.ok.0) in
    let p : Part = c.index_mut.result.now in
    λ q here.
    map-set part_of xs i _
    ∙ ap (λ (x : PartMeaning). set (map part_of xs) i (settled x)) (same_Some (part_of p) q (sym (at_part xs i p within c.index_mut.ensures.value) ∙ here))

pub returns-clause-sized : goal.returns-clause-sized
returns-clause-sized c =
    let xs : List Part = vec_items c.args.parts.now in
    sized_set xs c.args.number c.index_mut.result.now _ (omega (arith, c.args.parts.now.ok.0)) c.index_mut.ensures.value refl refl c.requires.sized
