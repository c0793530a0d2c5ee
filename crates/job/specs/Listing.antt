-- The text of a job's outcome or refusal, as bytes.
use Rattle.std.specs.Prelude.{ℕ, List, [], ◌∷◌, ◌++◌, Some, None, codes, decimal, Option}
use Rattle.field.specs.Polynomial.{degree}
use Rattle.worksheet.specs.declared.fault.SheetFault.{SheetFault}
use Rattle.worksheet.specs.Sheet.{PartMeaning}
use Rattle.worksheet.specs.Faults.{sheet_number, sheet_layer, sheet_index}
use Rattle.job.specs.declared.fault.JobFault.{JobFault}
use Rattle.job.specs.Faults.{job_number, job_place, job_below}
use Rattle.job.specs.Outcome.{Outcome}

abbrev pub line_end : List ℕ
line_end = 10 ∷ []

-- each number after a space
unfoldable pub spaced : List ℕ → List ℕ
spaced [] = []
spaced (n ∷ ns) = codes " " ++ decimal n ++ spaced ns

-- degree 2 times 1 codes 1 0 1
abbrev pub part_line : PartMeaning → List ℕ
part_line p = codes "degree " ++ decimal (degree p.codes) ++ codes " times " ++ decimal p.times ++ codes " codes" ++ spaced p.codes ++ line_end

unfoldable pub part_lines : List PartMeaning → List ℕ
part_lines [] = []
part_lines (p ∷ ps) = part_line p ++ part_lines ps

-- order 3 unit 1 steps 3, and a line for each part
abbrev pub listing_text : Outcome → List ℕ
listing_text o = codes "order " ++ decimal o.order ++ codes " unit " ++ decimal o.unit ++ codes " steps " ++ decimal o.steps ++ line_end ++ part_lines o.parts

-- refused 42 byte 25
abbrev pub refused_at : JobFault → List ℕ
refused_at e = codes "refused " ++ decimal (job_number e) ++ codes " byte " ++ decimal (job_place e)

-- what a record is refused with, if it is one: layer 1 number 2 place 0, after a space
abbrev pub below_text : Option SheetFault → List ℕ
below_text None = []
below_text (Some e) = codes " layer " ++ decimal (sheet_layer e) ++ codes " number " ++ decimal (sheet_number e) ++ codes " place " ++ decimal (sheet_index e)

-- the line of a refusal
abbrev pub refusal_text : JobFault → List ℕ
refusal_text e = refused_at e ++ below_text (job_below e) ++ line_end
