-- What the check of a polynomial tells.
-- Main statements: refused, passed.
use Rattle.std.proofs.Common.{◌≡◌, ℕ, ◌≤◌, List, length, Some, None, Ok, Err, Result, sym, ◌∙◌}
use Rattle.std.specs.Result.{result_ok}
use Rattle.field.specs.Ring.{RingMeaning}
use Rattle.field.specs.Polynomial.{Canonical}
use Rattle.field.specs.Ranges.{some_none}
use Rattle.poly.specs.declared.fault.PolyFault.{PolyFault}
use Rattle.poly.specs.Faults.{most_codes, operand_refusal}
use Rattle.poly.specs.Calls.{Passes}
use Rattle.poly.proofs.Operands.{taken_is_canonical, canonical_is_taken}
use Rattle.split.specs.Calls.{Taken}

module _ (m : RingMeaning) (f : List ℕ) {A : Type 0} where
  -- what is refused is not taken
  pub refused : (r : Result A PolyFault) → Passes (operand_refusal m f) r → None ≡ result_ok r → Taken m f → ⊥
  refused (Ok x) p e t = some_none (sym e)
  refused (Err x) p e t = some_none (sym p ∙ canonical_is_taken m f t.canonical t.short)

  pub passed : (r : Result A PolyFault) (a : A) → Passes (operand_refusal m f) r → Some a ≡ result_ok r → Canonical m f × (length f ≤ most_codes)
  passed (Ok x) a p e = taken_is_canonical m f p
  passed (Err x) a p e = absurd (some_none e)
