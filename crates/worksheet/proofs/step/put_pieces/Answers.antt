use Rattle.std.proofs.Common.{ℕ, ◌+◌, ◌^◌, ◌<◌, ◌≤◌, List, map, length, vec_items, sym, ap, ◌∙◌, subst, ap₂, arith}
use Rattle.std.proofs.lemmas.Option.{same_Some}
use Rattle.std.specs.List.{All}
use Rattle.std.proofs.lemmas.Grind.{elements}
use Rattle.worksheet.specs.declared.parts.Part.{Part}
use Rattle.worksheet.specs.Sheet.{PartMeaning, Each, place}
use Rattle.worksheet.specs.Meaning.{part_of, Sized}
use Rattle.worksheet.proofs.PartLists.{place_turns}
use Rattle.worksheet.proofs.PartsHeld.{at_part, all_held, all_removed, each_meant, map_removed, parts_length}
use Rattle.worksheet.proofs.Replacing.{place_longer}
use Rattle.worksheet.proofs.step.put_pieces.Goals as goal

pub place-requires-2-clause-counts : goal.place-requires-2-clause-counts
place-requires-2-clause-counts c =
    let g = c.args.g.now in
    let n : ℕ = c.remove-part.result.times in
    let rest : List Part = vec_items c.remove-part.new.self in
    let limit : n ≤ 127 = grind (arith, elements, c.requires.counts) in
    let low : All (λ (x : Part). x.times ≤ 127) rest = λ k d h. grind (arith, elements, c.requires.counts) in
    let turned : Each (λ (q : PartMeaning). q.times ≤ 254) (place g n (map part_of rest)) =
    place_turns (λ (q : PartMeaning). q.times ≤ 127) (λ (q : PartMeaning). q.times ≤ 254) g n (omega (arith, limit)) (λ q e h. omega (arith, limit)) (λ q h. omega arith) (map part_of rest) (each_meant (λ (q : PartMeaning). q.times ≤ 127) rest low) in
    all_held (λ (q : PartMeaning). q.times ≤ 254) (λ (x : Part). x.times + n < 2 ^ 32) (λ x h. omega (arith, limit)) (vec_items c.place.new.parts) (subst (Each (λ (q : PartMeaning). q.times ≤ 254)) (sym c.place.ensures.placed) turned)

pub place-requires-2-clause-room : goal.place-requires-2-clause-room
place-requires-2-clause-room c =
    omega (arith, parts_length c.place.new.parts, parts_length c.remove-part.new.self, ap length c.place.ensures.placed, place_longer c.args.g.now c.remove-part.result.times (map part_of (vec_items c.remove-part.new.self)))

pub returns-clause-placed : goal.returns-clause-placed
returns-clause-placed c =
    let v = c.args.parts.now in
    let xs : List Part = vec_items v in
    let i = c.args.number in
    let part : Part = c.remove-part.result in
    let at = at_part xs i part (omega (arith, v.ok.0)) c.remove-part.ensures.value in
    λ q here.
    c.place-2.ensures.placed ∙ ap (place c.args.h.now part.times) c.place.ensures.placed
    ∙ ap₂ (λ (n : ℕ) (qs : List PartMeaning). place c.args.h.now n (place c.args.g.now n qs)) (ap (λ (x : PartMeaning). x.times) (same_Some (part_of part) q (sym at ∙ here)))
    (ap (map part_of) c.remove-part.ensures.items ∙ map_removed part_of xs i)

pub place-requires-clause-sized : goal.place-requires-clause-sized
place-requires-clause-sized c = subst (All Sized) (sym c.remove-part.ensures.items) (all_removed Sized (vec_items c.args.parts.now) c.args.number c.requires.sized)
