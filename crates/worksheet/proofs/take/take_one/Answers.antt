use Rattle.std.proofs.Common.{◌<◌, List, map, length, set, vec_items, sym, refl, ap, subst, ◌∙◌, arith, le-leb}
use borrow.Author.Tests.{lt-leb}
use Rattle.std.specs.List.{All}
use Rattle.std.proofs.lemmas.List.{map-set}
use Rattle.worksheet.specs.declared.parts.Part.{Part}
use Rattle.worksheet.specs.Sheet.{PartMeaning}
use Rattle.worksheet.specs.Meaning.{part_of, Sized}
use Rattle.worksheet.proofs.PartsHeld.{at_part, read_same, all_removed, sized_set, map_removed}
use Rattle.worksheet.proofs.TakenAt.{lowered, lowered_at, removed_at}
use Rattle.worksheet.proofs.take.take_one.Goals as goal

pub returns-then-index-gt1-clause-lowered : goal.returns-then-index-gt1-clause-lowered
returns-then-index-gt1-clause-lowered c =
    let v = c.args.parts.now in
    let xs : List Part = vec_items v in
    let ps : List PartMeaning = map part_of xs in
    let i = c.args.number in
    let within : i < length xs = omega (arith, v.ok.0) in
    let p : Part = c.index.result.now in
    let q : Part = c.index_mut.result.now in
    map-set part_of xs i _ ∙ ap (λ (y : Part). set ps i (lowered (part_of y))) (read_same xs i q p within c.index_mut.ensures.value c.index.ensures)
    ∙ sym (lowered_at ps i (part_of p) (at_part xs i p within c.index.ensures) (lt-leb p.times 1 c.if-index-gt1.true))

pub returns-else-index-gt1-clause-lowered : goal.returns-else-index-gt1-clause-lowered
returns-else-index-gt1-clause-lowered c =
    let v = c.args.parts.now in
    let xs : List Part = vec_items v in
    let ps : List PartMeaning = map part_of xs in
    let i = c.args.number in
    let within : i < length xs = omega (arith, v.ok.0) in
    let p : Part = c.index.result.now in
    ap (map part_of) c.remove.ensures.items ∙ map_removed part_of xs i
    ∙ sym (removed_at ps i (part_of p) (at_part xs i p within c.index.ensures) (le-leb p.times 1 c.if-index-gt1.false))

pub returns-then-index-gt1-clause-sized : goal.returns-then-index-gt1-clause-sized
returns-then-index-gt1-clause-sized c =
    let xs : List Part = vec_items c.args.parts.now in
    sized_set xs c.args.number c.index_mut.result.now _ (omega (arith, c.args.parts.now.ok.0)) c.index_mut.ensures.value refl refl c.requires.sized

pub returns-else-index-gt1-clause-sized : goal.returns-else-index-gt1-clause-sized
returns-else-index-gt1-clause-sized c =
    subst (All Sized) (sym c.remove.ensures.items) (all_removed Sized (vec_items c.args.parts.now) c.args.number c.requires.sized)
