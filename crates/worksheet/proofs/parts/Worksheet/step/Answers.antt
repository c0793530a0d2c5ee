use Rattle.std.proofs.Common.{◌≡◌, ℕ, ◌<◌, ◌≤◌, List, map, length, replicate, Some, Ok, vec_items, Option, sym, refl, ap, ◌∙◌, subst, inl, inr, arith}
use Rattle.std.proofs.lemmas.Bool.{cases_lt}
use Rattle.field.specs.Field.{FieldMeaning, FieldLaws, means}
use Rattle.split.specs.Kinds.{numbered}
use Rattle.split.specs.Splitting.{scratch_size, wiped}
use Rattle.split.specs.Calls.{Taken, Split}
use Rattle.worksheet.specs.declared.parts.Part.{Part}
use Rattle.worksheet.specs.Sheet.{PartMeaning, part_at, next_open, GoodSheet}
use Rattle.worksheet.specs.Calls.{scratch_of, Stepped}
use Rattle.worksheet.specs.Law.{step}
use Rattle.worksheet.specs.Meaning.{part_of, sheet_of}
use Rattle.worksheet.proofs.PartsHeld.{at_part}
use Rattle.worksheet.proofs.Refusals.{step_fits, step_short}
use Rattle.worksheet.proofs.Pieces.{part_taken}
use Rattle.worksheet.proofs.Runs.{call_good}
use Rattle.worksheet.proofs.parts.Worksheet.step.Goals as goal

-- what the search for the first open part says of the parts themselves
moved : (xs ys : List Part) (i : ℕ) (p : PartMeaning) → ys ≡ xs → part_at (map part_of ys) i ≡ next_open (map part_of ys) → part_at (map part_of xs) i ≡ Some p → next_open (map part_of xs) ≡ Some p
moved xs ys i p e h here = sym (subst (λ (zs : List Part). part_at (map part_of zs) i ≡ next_open (map part_of zs)) e h) ∙ here

pub returns-in_default-split : goal.returns-in_default-split
returns-in_default-split g c =
    let w = c.args.self.now in
    let m = g.F.Ring.meaning w.field in
    let xs : List Part = vec_items w.parts in
    let scratch : List ℕ = c.args.scratch.now in
    let i : ℕ = c.in-Some.number in
    let p : Part = c.index.result.now in
    let f : List ℕ = c.codes.result.now in
    let here = at_part xs i p (omega (arith, ap length c.deref.ensures.value, c.in-Some.ensures.0)) c.index.ensures in
    let next = moved xs c.deref.result.now i (part_of p) c.deref.ensures.value c.in-Some.ensures.1 here in
    let refused = c.in_default-split.ensures.works in
    let taken : Taken m f = subst (Taken m) (sym c.codes.ensures.value) (part_taken m (map part_of xs) c.requires.good.parts c.requires.good.fits i (part_of p) here) in
    let short : length scratch < scratch_size f = elim (cases_lt (length scratch) (scratch_size f)) [ inl h ↦ h | inr h ↦ absurd (refused.0 taken h) ] in
    record {
      made = c.requires;
      same = refl;
      stepped = (step_short (sheet_of w) scratch (part_of p) next (subst (λ (x : List ℕ). length scratch < scratch_size x) c.codes.ensures.value short), refl, refused.1);
      kept = refl;
    }

pub replace-requires : goal.replace-requires
replace-requires g c =
    let w = c.args.self.now in
    let F : FieldMeaning = means (g.F.Ring.meaning w.field) (g.F.Field.extras w.field) in
    let xs : List Part = vec_items w.parts in
    let i : ℕ = c.in-Some.number in
    let p : Part = c.index.result.now in
    let here = at_part xs i p (omega (arith, ap length c.deref.ensures.value, c.in-Some.ensures.0)) c.index.ensures in
    record {
      made = c.requires;
      chosen = record {
        part = part_of p;
        here = here;
        next = moved xs c.deref.result.now i (part_of p) c.deref.ensures.value c.in-Some.ensures.1 here;
        split = subst (λ (f : List ℕ). Split F f (replicate 128 0) (replicate 128 0) (numbered c.in-Some-split.told) c.split.new.first c.split.new.second) c.codes.ensures.value c.in-Some-split.ensures.works.2;
      };
    }

pub returns : goal.returns
returns g c =
    let w = c.args.self.now in
    let F : FieldMeaning = means (g.F.Ring.meaning w.field) (g.F.Field.extras w.field) in
    let xs : List Part = vec_items w.parts in
    let scratch : List ℕ = c.args.scratch.now in
    let after : List ℕ = c.split.new.scratch in
    let i : ℕ = c.in-Some.number in
    let p : Part = c.index.result.now in
    let here = at_part xs i p (omega (arith, ap length c.deref.ensures.value, c.in-Some.ensures.0)) c.index.ensures in
    let next = moved xs c.deref.result.now i (part_of p) c.deref.ensures.value c.in-Some.ensures.1 here in
    let works = c.in-Some-split.ensures.works in
    let last = c.replace.new.self in
    let same : last.field ≡ w.field = c.replace.ensures.same in
    let stepped : Stepped F (sheet_of w) scratch (Ok (numbered c.in-Some-split.told)) (sheet_of last) after = (
      step_fits (sheet_of w) scratch (part_of p) next (subst (λ (f : List ℕ). scratch_size f ≤ length scratch) c.codes.ensures.value works.1),
      c.replace.ensures.replaced,
      works.3 ∙ ap (λ (f : List ℕ). wiped (scratch_size f) scratch) c.codes.ensures.value ∙ sym (ap (λ (o : Option PartMeaning). wiped (scratch_of o) scratch) next),
    ) in
    record {
      made = record {
        base = subst (λ (x : g.row.F.Denot). g.F.Ring.made x) (sym same) c.requires.base;
        laws = subst (λ (x : g.row.F.Denot). FieldLaws (means (g.F.Ring.meaning x) (g.F.Field.extras x))) (sym same) c.requires.laws;
        good = subst (λ (x : g.row.F.Denot). GoodSheet (g.F.Ring.meaning x) (sheet_of last)) (sym same) (call_good F c.requires.laws (step scratch (Ok (numbered c.in-Some-split.told)) after) (sheet_of w) (sheet_of last) c.requires.good stepped);
        sized = c.replace.ensures.sized;
        room = omega (arith, c.replace.ensures.capacity, c.requires.room);
      };
      same = same;
      stepped = stepped;
      kept = tt;
    }
