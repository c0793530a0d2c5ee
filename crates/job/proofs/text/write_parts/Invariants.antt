use Rattle.std.proofs.Common.{map, take}
use Rattle.std.specs.Fmt.{IsPlainFormatter, HasWritten}
use Rattle.worksheet.specs.Meaning.{part_of}
use Rattle.job.specs.Listing.{part_lines}
use Rattle.job.proofs.text.write_parts.Given as goal

abbrev pub invariant-loop-part : goal.invariant-loop-part
invariant-loop-part g l = IsPlainFormatter l.initial.f → HasWritten g.W.Write.write_str_gives l.initial.f (part_lines (map part_of (take l.part-index l.parts))) l.f
