-- Small jobs: what is read of their bytes, what comes of them, and the text of it.
use Rattle.std.specs.Prelude.{◌≡◌, ℕ, List, [], ◌∷◌, ◌++◌, Err, codes}
use Rattle.field.specs.declared.fault.FieldFault.TheVariants.{NotPrime}
use Rattle.poly.specs.declared.fault.PolyFault.TheVariants.{NotCode}
use Rattle.worksheet.specs.declared.parts.Mark.TheVariants.{Settled}
use Rattle.worksheet.specs.declared.fault.SheetFault.TheVariants.{Field, Poly}
use Rattle.worksheet.specs.Sheet.{PartMeaning}
use Rattle.job.specs.declared.fault.JobFault.TheVariants.{EndsEarly, NotAllowed, LeftOver, Record}
use Rattle.job.specs.Reading.{polynomial, end, over, prime, reading}
use Rattle.job.specs.Outcome.{Outcome}
use Rattle.job.specs.Listing.{line_end, listing_text, refusal_text}
use Rattle.job.specs.Job.{Gives}

-- X⁹ + X⁶ - X + 1 over order 3
abbrev pub sample_job : List ℕ
sample_job = 1 ∷ 1 ∷ 3 ∷ 1 ∷ 10 ∷ 1 ∷ 0 ∷ 2 ∷ 0 ∷ 0 ∷ 0 ∷ 0 ∷ 0 ∷ 0 ∷ 0 ∷ 0 ∷ 0 ∷ 1 ∷ 0 ∷ 0 ∷ 0 ∷ 0 ∷ 0 ∷ 1 ∷ 0 ∷ []

-- its codes, the constant first
abbrev pub sample_polynomial : List ℕ
sample_polynomial = 1 ∷ 2 ∷ 0 ∷ 0 ∷ 0 ∷ 0 ∷ 1 ∷ 0 ∷ 0 ∷ 1 ∷ []

-- a settled part that stands once
abbrev pub once : List ℕ → PartMeaning
once f = record { codes = f; times = 1; mark = Settled }

-- X² + 1 and X⁷ + 2X⁵ + X⁴ + X³ + 2X² + 2X + 1, after 3 steps
abbrev pub sample_outcome : Outcome
sample_outcome = record { order = 3; unit = 1; steps = 3; parts = once (1 ∷ 0 ∷ 1 ∷ []) ∷ once (1 ∷ 2 ∷ 2 ∷ 1 ∷ 1 ∷ 2 ∷ 0 ∷ 1 ∷ []) ∷ [] }

-- a text as a line
abbrev pub line : List ℕ → List ℕ
line text = text ++ line_end

-- the examples, together
pub record TextExamples : Type 0 where
  -- the listing of the sample
  pub listed : listing_text sample_outcome
      ≡ line (codes "order 3 unit 1 steps 3") ++ line (codes "degree 2 times 1 codes 1 0 1") ++ line (codes "degree 7 times 1 codes 1 2 2 1 1 2 0 1")
  -- refusals, of a job and of a record
  pub refused_bytes : refusal_text (LeftOver 25) ≡ line (codes "refused 42 byte 25")
  pub refused_record : refusal_text (Record 1 (Field NotPrime)) ≡ line (codes "refused 43 byte 1 layer 1 number 2 place 0")
  -- the records of the sample
  pub read : reading sample_job ≡ prime 1 3 (over (polynomial 4 sample_polynomial end))
  -- no byte, no level, and an extension as the first level
  pub no_byte : Gives [] (Err (EndsEarly 0))
  pub no_level : Gives (0 ∷ []) (Err (NotAllowed 0))
  pub early_extension : Gives (1 ∷ 3 ∷ []) (Err (NotAllowed 1))
  -- the modulus 4
  pub not_prime : Gives (1 ∷ 1 ∷ 4 ∷ []) (Err (Record 1 (Field NotPrime)))
  -- the sample with one byte more, which is judged after the polynomial is entered
  pub left_over : Gives (sample_job ++ 7 ∷ []) (Err (LeftOver 25))
  -- over order 3 a polynomial with the codes 1 and 3, of which 3 is none
  pub not_code : Gives (1 ∷ 1 ∷ 3 ∷ 1 ∷ 2 ∷ 1 ∷ 0 ∷ 3 ∷ 0 ∷ []) (Err (Record 4 (Poly (NotCode 1))))
