use Rattle.std.proofs.Common.{◌≡◌, ℕ, ◌+◌, ◌-◌, ◌^◌, ◌<◌, List, length, Ok, vec_items, refl, ap₂, arith}
use Rattle.field.specs.Field.{FieldMeaning, means}
use Rattle.poly.proofs.Operands.{taken_is_canonical}
use Rattle.worksheet.specs.declared.parts.Part.{Part}
use Rattle.worksheet.specs.Sheet.{PartMeaning, SheetMeaning}
use Rattle.worksheet.specs.Calls.{with_entry, Entered}
use Rattle.worksheet.specs.Law.{enter}
use Rattle.worksheet.specs.Meaning.{sheet_of}
use Rattle.worksheet.proofs.Limits.{SmallPart, small_parts, parts_degree}
use Rattle.worksheet.proofs.Refusals.{entry_taken}
use Rattle.worksheet.proofs.Runs.{call_good}
use Rattle.worksheet.proofs.PartsHeld.{all_held, parts_length}
use Rattle.worksheet.proofs.parts.Worksheet.enter.Goals as goal

pub place_monic-requires : goal.place_monic-requires
place_monic-requires g c =
    let w = c.args.self.now in
    let m = g.F.Ring.meaning w.field in
    let f : List ℕ = c.args.f.now in
    let taken = entry_taken m (sheet_of w) f c.in_ok-check_entry.ensures in
    let polynomial = taken_is_canonical m f taken.0 in
    record {
      base = c.requires.base;
      sized = c.requires.sized;
      some = polynomial.0.some_code;
      short = polynomial.1;
      counts = all_held (SmallPart m 127) (λ (x : Part). x.times + 1 < 2 ^ 32) (λ x h. omega (arith, h.times)) (vec_items w.parts) (small_parts m (sheet_of w) c.requires.good);
      room = λ h. omega (arith, c.requires.room, parts_degree m (sheet_of w).parts c.requires.good.parts, parts_length w.parts, taken.1);
    }

pub returns : goal.returns
returns g c =
    let w = c.args.self.now in
    let F : FieldMeaning = means (g.F.Ring.meaning w.field) (g.F.Field.extras w.field) in
    let f : List ℕ = c.args.f.now in
    let t : SheetMeaning = with_entry F (sheet_of w) f in
    let is : ◌≡◌ {A = SheetMeaning} (sheet_of (record { field = w.field; unit = c.product-unit.result; parts = c.place_monic.new.parts })) t =
    ap₂ (λ (u : ℕ) (ps : List PartMeaning). record { unit = u; parts = ps }) c.product-unit.ensures c.place_monic.ensures.placed in
    let entered : Entered F (sheet_of w) f (Ok (length f - 1)) (sheet_of (record { field = w.field; unit = c.product-unit.result; parts = c.place_monic.new.parts })) =
    (c.in_ok-check_entry.ensures, refl, is) in
    record {
      made = record {
        base = c.requires.base;
        laws = c.requires.laws;
        good = call_good F c.requires.laws (enter f (Ok (length f - 1))) (sheet_of w) _ c.requires.good entered;
        sized = c.place_monic.ensures.sized;
        room = omega (arith, c.place_monic.ensures.capacity, c.requires.room);
      };
      same = refl;
      entered = entered;
      kept = tt;
    }
