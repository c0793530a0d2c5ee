use Rattle.std.proofs.Common.{◌≡◌, ℕ, ◌<◌, false, List, map, Ok, vec_items, vec_len, sym, refl, ap, ◌∙◌, inl, inr, arith}
use Rattle.std.proofs.lemmas.Result.{err_from_is_err_and}
use Rattle.std.proofs.lemmas.Bool.{cases_lt}
use Rattle.field.specs.Field.{FieldMeaning, means}
use Rattle.worksheet.specs.Sheet.{part_at}
use Rattle.worksheet.specs.Places.{some_open}
use Rattle.worksheet.specs.Calls.{Taken}
use Rattle.worksheet.specs.Law.{take}
use Rattle.worksheet.specs.Meaning.{part_of, sheet_of}
use Rattle.worksheet.proofs.PartsHeld.{no_part}
use Rattle.worksheet.proofs.Refusals.{take_as_read, read_some}
use Rattle.worksheet.proofs.Runs.{call_good}
use Rattle.worksheet.proofs.parts.Worksheet.take.Goals as goal

pub take_one-requires : goal.take_one-requires
take_one-requires g c =
    let w = c.args.self.now in
    let i = c.args.number in
    let within : i < vec_len w.parts = elim (cases_lt i (vec_len w.parts)) [
      | inl h ↦ h
      | inr h ↦ absurd (read_some (sheet_of w) i c.args.out.now c.in_ok-degree.ensures.0 (no_part (vec_items w.parts) i (omega (arith, w.parts.ok.0))))
    ] in
    record { sized = c.requires.sized; within = within }

pub returns-in_err-degree : goal.returns-in_err-degree
returns-in_err-degree g c =
    let w = c.args.self.now in
    let i = c.args.number in
    let closed : some_open (part_at (sheet_of w).parts i) ≡ false =
    sym (c.open_at.ensures ∙ ap (λ xs. some_open (part_at (map part_of xs) i)) c.deref.ensures.value) ∙ c.if-open_at.false in
    let p = err_from_is_err_and c.from_residual.result c.from_residual.ensures.1 in
    let refused = c.in_err-degree.ensures in
    rw (p.1, p.2) (record { made = c.requires; same = refl; taken = (take_as_read (sheet_of w) i c.args.out.now closed ∙ refused.0, refl, refused.1); kept = refl })

pub returns : goal.returns
returns g c =
    let w = c.args.self.now in
    let F : FieldMeaning = means (g.F.Ring.meaning w.field) (g.F.Field.extras w.field) in
    let i = c.args.number in
    let out : List ℕ = c.args.out.now in
    let after : List ℕ = c.read.new.out in
    let closed : some_open (part_at (sheet_of w).parts i) ≡ false =
    sym (c.open_at.ensures ∙ ap (λ xs. some_open (part_at (map part_of xs) i)) c.deref.ensures.value) ∙ c.if-open_at.false in
    let ok = c.in_ok-degree.ensures in
    let taken : Taken (sheet_of w) i out (Ok c.in_ok-degree.degree) (sheet_of (record { field = w.field; unit = w.unit; parts = c.take_one.new.parts })) after =
    (take_as_read (sheet_of w) i out closed ∙ ok.0, ok.1, refl, c.take_one.ensures.lowered) in
    record {
      made = record {
        base = c.requires.base;
        laws = c.requires.laws;
        good = call_good F c.requires.laws (take i out (Ok c.in_ok-degree.degree) after) (sheet_of w) _ c.requires.good taken;
        sized = c.take_one.ensures.sized;
        room = omega (arith, c.take_one.ensures.capacity, c.requires.room);
      };
      same = refl;
      taken = taken;
      kept = tt;
    }
