-- The small cases, computed.
-- Main statement: small_cases.
use Rattle.std.proofs.Common.{ℕ, refl, ap}
use Rattle.field.specs.Checks.{below, seek, same}
use Rattle.field.specs.Ring.{total}
use Rattle.field.specs.Polynomial.{trimmed}
use Rattle.field.specs.Quotient.{digits, from_digits, reduced}
use Rattle.worksheet.specs.Sheet.{total_degree, smaller, place, next_open}
use Rattle.worksheet.specs.Faults.{scratch_refusal}
use Rattle.worked.specs.Examples.{SmallCases, full}

pub small_cases : SmallCases
unfolding below seek same total trimmed digits from_digits reduced total_degree smaller place next_open
small_cases = record {
  part_order = (refl, refl, refl);
  entered = (refl, refl, refl);
  no_room = (refl, refl);
  unit = (refl, refl, refl);
  short = λ codes e. ap (λ (n : ℕ). scratch_refusal n (next_open (full 1).parts)) e;
  enough = λ codes e. ap (λ (n : ℕ). scratch_refusal n (next_open (full 1).parts)) e;
  over_3 = refl;
  over_4 = refl;
}
