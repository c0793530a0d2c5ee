-- The small jobs are as their examples say, by computation. Main statement: `text-examples`.
use Rattle.std.proofs.Common.{Ok, Err, refl}
use Rattle.std.specs.Fmt.{digits}
use Rattle.field.specs.Checks.{seek}
use Rattle.field.specs.Residues.{prime_field}
use Rattle.poly.specs.declared.fault.PolyFault.TheVariants.{NotCode}
use Rattle.worksheet.specs.declared.fault.SheetFault.TheVariants.{Poly}
use Rattle.worksheet.specs.Sheet.{empty, total_degree}
use Rattle.worksheet.specs.Calls.{with_entry}
use Rattle.job.specs.Reading.{words, given, allowed, at_end, polynomials_from, levels_from, first_level}
use Rattle.job.specs.Listing.{spaced, part_lines}
use Rattle.job.specs.TextExamples.{TextExamples, sample_polynomial}

pub text_examples : TextExamples
unfolding digits seek total_degree words given allowed at_end polynomials_from levels_from first_level spaced part_lines
text_examples = record {
  listed = refl;
  refused_bytes = refl;
  refused_record = refl;
  read = refl;
  no_byte = refl;
  no_level = refl;
  early_extension = refl;
  not_prime = refl;
  left_over = (Ok 9, with_entry (prime_field 3) (empty (prime_field 3).ring) sample_polynomial, (refl, refl, refl), refl);
  not_code = (Err (Poly (NotCode 1)), empty (prime_field 3).ring, (refl, refl), refl);
}
