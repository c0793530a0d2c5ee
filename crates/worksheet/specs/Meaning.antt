-- What the worksheet of the code stands for, and when it is well made.
use Rattle.std.specs.Prelude.{◌≡◌, ◌<◌, ◌≤◌, [], map, length, take, vec_items, vec_capacity}
use Rattle.std.specs.List.{All}
use Rattle.field.specs.Field.{FieldMeaning, FieldLaws, Told, field_of}
use Rattle.poly.specs.Faults.{most_codes}
use Rattle.worksheet.specs.declared.parts.Part.{Part}
use Rattle.worksheet.specs.declared.parts.Room.{Room}
use Rattle.worksheet.specs.declared.parts.Worksheet.{Worksheet}
use Rattle.worksheet.specs.Sheet.{PartMeaning, SheetMeaning, most_parts, GoodSheet}

-- the codes of a part are the first `len` of its array
abbrev pub part_of : Part → PartMeaning
part_of p = record { codes = take p.len p.codes; times = p.times; mark = p.mark }

abbrev pub sheet_of : {F : Type 0} → Worksheet F → SheetMeaning
sheet_of w = record { unit = w.unit; parts = map part_of (vec_items w.parts) }

-- a part has 1 to 128 codes, in an array of 128
pub record Sized (p : Part) : Type 0 where
  pub some_code : 0 < p.len
  pub fits : p.len ≤ most_codes
  pub array : length p.codes ≡ most_codes

-- A room that is well made: it is empty, and has place for the most parts of a worksheet.
pub record RoomMade (r : Room) : Type 0 where
  pub nothing : vec_items r.parts ≡ []
  pub room : most_parts ≤ vec_capacity r.parts

-- the meaning of the field that a worksheet is over
abbrev pub over : {T : Type 0} → Told T → Worksheet T → FieldMeaning
over t w = field_of t w.field

-- A worksheet that is well made: its field is, with the field laws; its parts are good over the field and stand in their arrays; and it
-- has place for the most parts, so that no call asks for memory.
pub record SheetMade {T : Type 0} (t : Told T) (w : Worksheet T) : Type 0 where
  pub base : t.made w.field
  pub laws : FieldLaws (field_of t w.field)
  pub good : GoodSheet (t.meaning w.field) (sheet_of w)
  pub sized : All Sized (vec_items w.parts)
  pub room : most_parts ≤ vec_capacity w.parts
