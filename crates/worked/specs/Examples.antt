-- The worked examples, said by the definitions that the contracts cite.
use Rattle.std.specs.Prelude.{◌≡◌, ℕ, true, false, List, [], ◌∷◌, ◌++◌, map, length, replicate, Some, None, Ok, Err}
use Rattle.field.specs.declared.fault.FieldFault.TheVariants.{Modulus, NotPrime, Height, Order, Number, ModulusSplits}
use Rattle.field.specs.Field.{FieldMeaning}
use Rattle.field.specs.Residues.{residues, prime_field}
use Rattle.field.specs.Polynomial.{degree}
use Rattle.field.specs.Quotient.{quotient_ring, extension_field}
use Rattle.field.specs.Symbol.{symbol_field}
use Rattle.field.specs.Faults.{residues_refusal, prime_refusal}
use Rattle.extension.specs.Extension.{Extends}
use Rattle.worksheet.specs.declared.fault.SheetFault.TheVariants.{TotalDegree, ShortScratch}
use Rattle.worksheet.specs.Sheet.{PartMeaning, SheetMeaning, empty, before, new_part, settled}
use Rattle.worksheet.specs.Faults.{step_refusal}
use Rattle.worksheet.specs.Calls.{Entered}
use Rattle.worksheet.specs.Law.{Event, enter, step, Run}

-- 32 codes of scratch, enough for a step on a part of degree 4: all 0 before and after each step
abbrev pub scratch : List ℕ
scratch = replicate 32 0

-- an accepted step with this answer
abbrev pub accepted : ℕ × ℕ × ℕ → Event
accepted answer = step scratch (Ok answer) scratch

-- f, entered on the empty worksheet, is led by accepted steps with these answers to these parts, with the unit 1
abbrev pub Leads : FieldMeaning → List ℕ → List (ℕ × ℕ × ℕ) → List PartMeaning → Type 0
Leads F f answers parts = Run F (empty F.ring) (enter f (Ok (degree f)) ∷ map accepted answers) (record { unit = 1; parts = parts })

-- a part that is known not to split, with its multiplicity
abbrev pub settled_part : List ℕ → ℕ → PartMeaning
settled_part f n = settled (new_part f n)

-- residues modulo 2 with a root of t² + t + 1
abbrev pub order_4 : FieldMeaning
order_4 = extension_field (prime_field 2) 2 3

-- rings and fields that are made or not, products in them, and worksheets step by step
pub record Examples : Type 0 where
  -- in the symbol field 2 × 128 = 135, and the inverse of 2 is 195
  pub symbols : (symbol_field.ring.product 2 128 ≡ 135) × (symbol_field.inverse 2 ≡ Some 195)
  -- with 256 residues are made and no prime field, with 251 both, with 1 and 257 neither
  pub made_256 : (residues_refusal 256 ≡ None) × (prime_refusal 256 ≡ Some NotPrime)
  pub made_251 : (residues_refusal 251 ≡ None) × (prime_refusal 251 ≡ None)
  pub made_1 : (residues_refusal 1 ≡ Some Modulus) × (prime_refusal 1 ≡ Some Modulus)
  pub made_257 : (residues_refusal 257 ≡ Some Modulus) × (prime_refusal 257 ≡ Some Modulus)
  -- over order 2, t² + t + 1 makes an extension, in which 2 × 2 = 3, and t² + 1 is refused because it splits
  pub over_2 : Extends (prime_field 2) 2 3 None × (order_4.ring.product 2 2 ≡ 3) × Extends (prime_field 2) 2 1 (Some ModulusSplits)
  -- over order 3, t² + 2t + 2 makes an extension; the number 9 is too large for degree 2; the degree 11 gives too large an order, and 17
  -- is itself too large, whatever the number is
  pub over_3 : Extends (prime_field 3) 2 8 None × Extends (prime_field 3) 2 9 (Some Number)
  pub high_over_3 : (n : ℕ) → Extends (prime_field 3) 11 n (Some Order) × Extends (prime_field 3) 17 n (Some Height)
  -- over order 5, X² + 1 splits into X + 2 and X + 3
  pub sheet_5 : Leads (prime_field 5) (1 ∷ 0 ∷ 1 ∷ []) ((3, 1, 1) ∷ []) (new_part (2 ∷ 1 ∷ []) 1 ∷ new_part (3 ∷ 1 ∷ []) 1 ∷ [])
  -- over order 3, X³ + X² + 2X + 2 is X + 1 twice and X + 2 once
  pub sheet_3 : Leads (prime_field 3) (2 ∷ 2 ∷ 1 ∷ 1 ∷ []) ((2, 1, 2) ∷ (4, 1, 0) ∷ (3, 1, 1) ∷ (4, 1, 0) ∷ [])
      (settled_part (1 ∷ 1 ∷ []) 2 ∷ settled_part (2 ∷ 1 ∷ []) 1 ∷ [])
  -- over order 2, X⁴ + X² + 1 is X² + X + 1 twice
  pub sheet_2 : Leads (prime_field 2) (1 ∷ 0 ∷ 1 ∷ 0 ∷ 1 ∷ []) ((1, 2, 0) ∷ (4, 2, 0) ∷ []) (settled_part (1 ∷ 1 ∷ 1 ∷ []) 2 ∷ [])
  -- over order 4, X² + X + 1 splits into X + 2 and X + 3, and X² + 2 is X + 3 twice
  pub sheet_4 : Leads order_4 (1 ∷ 1 ∷ 1 ∷ []) ((3, 1, 1) ∷ []) (new_part (2 ∷ 1 ∷ []) 1 ∷ new_part (3 ∷ 1 ∷ []) 1 ∷ [])
  pub square_4 : Leads order_4 (2 ∷ 0 ∷ 1 ∷ []) ((1, 1, 0) ∷ []) (new_part (3 ∷ 1 ∷ []) 2 ∷ [])

-- the codes of X^127
abbrev pub highest : List ℕ
highest = replicate 127 0 ++ 1 ∷ []

-- a worksheet with the part X^127
abbrev pub full : ℕ → SheetMeaning
full unit = record { unit = unit; parts = new_part highest 1 ∷ [] }

-- the order of parts, the limits of a worksheet, and two more products
pub record SmallCases : Type 0 where
  -- X + 2 stands before X² + X + 2, and that before X² + 2X + 1: at equal degree the highest power at which they differ decides
  pub part_order : (before (2 ∷ 1 ∷ []) (2 ∷ 1 ∷ 1 ∷ []) ≡ true) × (before (2 ∷ 1 ∷ 1 ∷ []) (1 ∷ 2 ∷ 1 ∷ []) ≡ true) × (before (1 ∷ 2 ∷ 1 ∷ []) (2 ∷ 1 ∷ 1 ∷ []) ≡ false)
  -- over order 3, X^127 is entered; then X is refused, and the constant 2 makes the unit 2
  pub entered : Entered (prime_field 3) (empty (residues 3)) highest (Ok 127) (full 1)
  pub no_room : Entered (prime_field 3) (full 1) (0 ∷ 1 ∷ []) (Err TotalDegree) (full 1)
  pub unit : Entered (prime_field 3) (full 1) (2 ∷ []) (Ok 0) (full 2)
  -- a step on X^127 with 32,257 codes of scratch is refused, and with 32,258 it is not
  pub short : (codes : List ℕ) → length codes ≡ 32257 → step_refusal (full 1) codes ≡ Some ShortScratch
  pub enough : (codes : List ℕ) → length codes ≡ 32258 → step_refusal (full 1) codes ≡ None
  -- over order 3, t² + 2t + 2 = 0 gives t × t = t + 1; over residues modulo 4, t² + t + 3 = 0 gives (t + 2)(3t + 2) = t + 3
  pub over_3 : (extension_field (prime_field 3) 2 8).ring.product 3 3 ≡ 4
  pub over_4 : (quotient_ring (residues 4) 2 7).product 6 14 ≡ 7
