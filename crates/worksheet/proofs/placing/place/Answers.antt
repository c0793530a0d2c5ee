use Rattle.std.proofs.Common.{◌≡◌, ◌<◌, ◌≤◌, true, List, map, length, set, is_ok, Some, vec_items, vec_len, vec_capacity, sym, refl, ap, ◌∙◌, subst, arith, rules}
use Rattle.std.proofs.lemmas.Option.{same_Some}
use borrow.Author.Tests.{both_ways}
use Rattle.std.specs.List.{All, insert}
use Rattle.std.proofs.lemmas.Bool.{cond-true}
use Rattle.std.proofs.lemmas.Bool.Decides.{Decides-eqb}
use Rattle.std.proofs.lemmas.Grind.{common_steps}
use Rattle.std.proofs.lemmas.List.{map-set}
use Rattle.std.proofs.lemmas.Slice.Eq.{slice_eq-Decides}
use Rattle.field.specs.Ranges.{some_none}
use Rattle.worksheet.specs.declared.parts.Part.{Part}
use Rattle.worksheet.specs.Sheet.{PartMeaning, new_part, grown, part_at}
use Rattle.worksheet.specs.Places.{place_of}
use Rattle.worksheet.specs.Meaning.{part_of, Sized}
use Rattle.worksheet.proofs.PartsHeld.{at_part, no_part, all_inserted, sized_set, map_inserted, parts_length}
use Rattle.worksheet.proofs.PlaceOf.{place_within, place_grows, place_inserts}
use Rattle.worksheet.proofs.placing.place.Goals as goal
use Rattle.worksheet.proofs.placing.place.Goals.{in_default-via-in-Some+else-eq, in_default-via-in-None-1}

pub insert-requires : goal.insert-requires
insert-requires c =
    let xs : List Part = vec_items c.args.parts.now in
    let f = c.args.codes.now in
    let at = c.position-at.ensures ∙ ap (λ ys. place_of f (map part_of ys)) c.deref.ensures.value in
    let kept : vec_items c.in_default.parts ≡ xs = elim c.in_default.branch [
      | in_default-via-in-Some+else-eq w ↦ grind (arith, common_steps, ap vec_items w.parts-is, w.in-Some.ensures.value)
      | in_default-via-in-None-1 w ↦ ap vec_items w.parts-is
    ] in
    omega (arith, at, place_within f (map part_of xs), parts_length c.in_default.parts, ap (λ (ys : List Part). length (map part_of ys)) kept)

pub returns-in-Some-clause-placed : goal.returns-in-Some-clause-placed
returns-in-Some-clause-placed c =
    let xs : List Part = vec_items c.args.parts.now in
    let ps : List PartMeaning = map part_of xs in
    let f = c.args.codes.now in
    let n = c.args.times in
    let p : Part = c.in-Some.part.now in
    let at = c.position-at.ensures ∙ ap (λ ys. place_of f (map part_of ys)) c.deref.ensures.value in
    let here = sym (ap (part_at ps) at) ∙ at_part xs c.position-at.result p c.in-Some.ensures.item.3.0 c.in-Some.ensures.value in
    let same = sym c.codes.ensures.value ∙ (slice_eq-Decides Decides-eqb _ _ _ c.eq.ensures).0 c.if-eq.true in
    map-set part_of xs c.position-at.result _ ∙ ap (λ k. set ps k (grown n (part_of p))) at ∙ sym (place_grows f n ps (part_of p) here same)

pub returns-in-Some-clause-sized : goal.returns-in-Some-clause-sized
returns-in-Some-clause-sized c =
    let xs : List Part = vec_items c.args.parts.now in
    sized_set xs c.position-at.result c.in-Some.part.now _ c.in-Some.ensures.item.3.0 c.in-Some.ensures.value refl refl c.requires.sized

pub returns-in_default : goal.returns-in_default
returns-in_default c =
    let xs : List Part = vec_items c.args.parts.now in
    let ys : List Part = vec_items c.in_default.parts in
    let ps : List PartMeaning = map part_of xs in
    let f = c.args.codes.now in
    let n = c.args.times in
    let i = c.position-at.result in
    let at = c.position-at.ensures ∙ ap (λ ys. place_of f (map part_of ys)) c.deref.ensures.value in
    let kept : ys ≡ xs = elim c.in_default.branch [
      | in_default-via-in-Some+else-eq w ↦ grind (arith, common_steps, ap vec_items w.parts-is, w.in-Some.ensures.value)
      | in_default-via-in-None-1 w ↦ ap vec_items w.parts-is
    ] in
    let room : vec_len c.in_default.parts < vec_capacity c.in_default.parts = elim c.in_default.branch [
      | in_default-via-in-Some+else-eq w ↦ grind (arith, common_steps, ap vec_capacity w.parts-is, ap vec_len w.parts-is, c.requires.room)
      | in_default-via-in-None-1 w ↦ grind (arith, ap vec_capacity w.parts-is, ap vec_len w.parts-is, c.requires.room)
    ] in
    let apart : (p : PartMeaning) → part_at ps i ≡ Some p → p.codes ≡ f → ⊥ =
    λ p here same. elim c.in_default.branch [
      | in_default-via-in-Some+else-eq w ↦
          let is = same_Some (part_of w.in-Some.part.now) p (sym (at_part xs i w.in-Some.part.now w.in-Some.ensures.item.3.0 w.in-Some.ensures.value) ∙ here) in
          both_ways w.eq.result w.if-eq.false ((slice_eq-Decides Decides-eqb _ _ _ w.eq.ensures).1 (w.codes.ensures.value ∙ ap (λ (x : PartMeaning). x.codes) is ∙ same))
      | in_default-via-in-None-1 w ↦ (let past : length xs ≤ i = search rules in some_none (sym here ∙ no_part xs i past))
    ] in
    let ok : is_ok c.insert.result ≡ true = c.insert.ensures.succeeds room in
    let items = c.insert.ensures.items ∙ cond-true (is_ok c.insert.result) (insert ys i c.open.result) ys ok ∙ ap (λ (zs : List Part). insert zs i c.open.result) kept in
    record {
      placed =
          ap (map part_of) items ∙ map_inserted part_of xs i c.open.result ∙ ap (insert ps i) c.open.ensures.value
          ∙ ap (λ k. insert ps k (new_part f n)) at ∙ sym (place_inserts f n ps (λ p h. apart p (ap (part_at ps) at ∙ h)));
      sized = subst (All Sized) (sym items) (all_inserted Sized xs i c.open.result c.requires.sized c.open.ensures.sized);
      capacity = elim c.in_default.branch [
        | in_default-via-in-Some+else-eq w ↦ grind (arith, common_steps, ap vec_capacity w.parts-is, c.insert.ensures, ok, room)
        | in_default-via-in-None-1 w ↦ grind (arith, common_steps, ap vec_capacity w.parts-is, c.insert.ensures, ok, room)
      ];
    }
