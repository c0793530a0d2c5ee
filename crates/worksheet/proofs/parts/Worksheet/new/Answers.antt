use Rattle.std.proofs.Common.{◌≡◌, List, map, sym, refl, ap, subst}
use Rattle.std.specs.List.{All}
use Rattle.std.proofs.lemmas.List.Elements.{All-nil}
use Rattle.field.specs.Field.{FieldLaws, means}
use Rattle.worksheet.specs.declared.parts.Part.{Part}
use Rattle.worksheet.specs.Sheet.{SheetMeaning, GoodSheet, empty}
use Rattle.worksheet.specs.Meaning.{part_of, Sized}
use Rattle.worksheet.proofs.Law.{law}
use Rattle.worksheet.proofs.Runs.{empty_sound}
use Rattle.worksheet.proofs.parts.Worksheet.new.Goals as goal

pub returns : goal.returns
returns g c =
    let x = c.args.field in
    let m = g.F.Ring.meaning x in
    let L : FieldLaws (means m (g.F.Field.extras x)) = c.ask.ensures in
    let e : ◌≡◌ {A = SheetMeaning} (record { unit = 1; parts = map part_of c.args.room.parts.items }) (empty m) =
    ap (λ (xs : List Part). record { unit = 1; parts = map part_of xs }) c.requires.space.nothing in
    record {
      made = record {
        base = c.requires.base;
        laws = L;
        good = subst (GoodSheet m) (sym e) (empty_sound (means m (g.F.Field.extras x)) L (λ _. Unit {0})).good;
        sized = subst (All Sized) (sym c.requires.space.nothing) (All-nil Sized);
        room = c.requires.space.room;
      };
      law = law;
      empty = (refl, e);
    }
