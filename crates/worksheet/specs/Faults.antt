-- Why a call on a worksheet is stopped, in the order of checking.
use Rattle.std.specs.Prelude.{ℕ, ◌+◌, not, List, length, Some, None, Option, nat_le}
use Rattle.field.specs.Checks.{unless, ◌or_else◌}
use Rattle.field.specs.Ring.{RingMeaning}
use Rattle.field.specs.Polynomial.{degree}
use Rattle.field.specs.Faults.{field_number, field_layer, field_index}
use Rattle.poly.specs.declared.fault.PolyFault.{PolyFault}
use Rattle.poly.specs.Faults.{poly_number, poly_layer, poly_index, operand_refusal, is_zero}
use Rattle.split.specs.Splitting.{scratch_size}
use Rattle.worksheet.specs.declared.fault.SheetFault.{SheetFault}
use Rattle.worksheet.specs.declared.fault.SheetFault.TheVariants.{Field, Poly, ZeroEntry, TotalDegree, NoOpenPart, ShortScratch, NoPart, OpenPart, ShortBuffer}
use Rattle.worksheet.specs.Sheet.{PartMeaning, SheetMeaning, most_degree, total_degree, next_open, part_at, is_open}

abbrev pub sheet_number : SheetFault → ℕ
sheet_number (Field e) = field_number e
sheet_number (Poly e) = poly_number e
sheet_number ShortBuffer = 14
sheet_number ZeroEntry = 20
sheet_number TotalDegree = 21
sheet_number NoOpenPart = 22
sheet_number ShortScratch = 23
sheet_number NoPart = 24
sheet_number OpenPart = 25

-- a fault from below is of its own layer, and those of worksheets are of the third
abbrev pub sheet_layer : SheetFault → ℕ
sheet_layer (Field e) = field_layer e
sheet_layer (Poly e) = poly_layer e
sheet_layer ShortBuffer = 3
sheet_layer ZeroEntry = 3
sheet_layer TotalDegree = 3
sheet_layer NoOpenPart = 3
sheet_layer ShortScratch = 3
sheet_layer NoPart = 3
sheet_layer OpenPart = 3

-- a fault from below has its own index, and those of worksheets have none
abbrev pub sheet_index : SheetFault → ℕ
sheet_index (Field e) = field_index e
sheet_index (Poly e) = poly_index e
sheet_index ShortBuffer = 0
sheet_index ZeroEntry = 0
sheet_index TotalDegree = 0
sheet_index NoOpenPart = 0
sheet_index ShortScratch = 0
sheet_index NoPart = 0
sheet_index OpenPart = 0

-- the refusal of a polynomial, as one of the worksheet
abbrev pub passed_on : Option PolyFault → Option SheetFault
passed_on None = None
passed_on (Some e) = Some (Poly e)

-- To enter f: first what a polynomial is refused with, then 20 if it is zero, then 21 if the total degree would be above 127.
abbrev pub enter_refusal : RingMeaning → SheetMeaning → List ℕ → Option SheetFault
enter_refusal m s f =
    passed_on (operand_refusal m f)
    or_else unless (not (is_zero f)) ZeroEntry
    or_else unless (nat_le (total_degree s.parts + degree f) most_degree) TotalDegree

abbrev pub scratch_refusal : ℕ → Option PartMeaning → Option SheetFault
scratch_refusal n None = Some NoOpenPart
scratch_refusal n (Some p) = unless (nat_le (scratch_size p.codes) n) ShortScratch

-- To step: 22 if no part is open, then 23 if the scratch is shorter than the first open part asks for.
abbrev pub step_refusal : SheetMeaning → List ℕ → Option SheetFault
step_refusal s scratch = scratch_refusal (length scratch) (next_open s.parts)

-- 24 if there is no such part, and else what `check` says of it
abbrev pub of_part : Option PartMeaning → (PartMeaning → Option SheetFault) → Option SheetFault
of_part None check = Some NoPart
of_part (Some p) check = check p

-- 14 if the buffer is shorter than the codes of the part
abbrev pub buffer_refusal : List ℕ → PartMeaning → Option SheetFault
buffer_refusal buffer p = unless (nat_le (length p.codes) (length buffer)) ShortBuffer

-- To take of the part at place i: 24, then 25 if it is open, then 14.
abbrev pub take_refusal : SheetMeaning → ℕ → List ℕ → Option SheetFault
take_refusal s i buffer = of_part (part_at s.parts i) (λ p. unless (not (is_open p.mark)) OpenPart or_else buffer_refusal buffer p)

-- To read the part at place i: 24, then 14.
abbrev pub read_refusal : SheetMeaning → ℕ → List ℕ → Option SheetFault
read_refusal s i buffer = of_part (part_at s.parts i) (buffer_refusal buffer)
