-- The bytes of a job: a count of 1 to 3 field levels and the levels, then a count of 0 to 127 polynomials and these.
use Rattle.std.specs.Prelude.{ℕ, zero, suc, ◌+◌, ◌-◌, ◌*◌, true, false, List, [], ◌∷◌, length, ◌==◌, nat_le, slice_index}
use Rattle.field.specs.Checks.{between}
use Rattle.job.specs.declared.fault.JobFault.{JobFault}
use Rattle.job.specs.declared.fault.JobFault.TheVariants.{EndsEarly, NotAllowed, LeftOver}

abbrev pub most_levels : ℕ
most_levels = 3

abbrev pub most_polynomials : ℕ
most_polynomials = 127

abbrev pub most_job_codes : ℕ
most_job_codes = 128

-- The records of a job in their order, each with the place of its first byte, up to the end or to the byte at fault. First the
-- polynomials, then the levels above the first, then the first level.
pub data Polynomials : Type 0 where
  polynomial : (at : ℕ) → (codes : List ℕ) → Polynomials → Polynomials
  end : Polynomials
  ended : JobFault → Polynomials

pub data Levels : Type 0 where
  extension : (at k m : ℕ) → Levels → Levels
  over : Polynomials → Levels
  stopped : JobFault → Levels

pub data Reading : Type 0 where
  prime : (at p : ℕ) → Levels → Reading
  symbol : Levels → Reading
  refused : JobFault → Reading

abbrev pub byte : List ℕ → ℕ → ℕ
byte bytes i = slice_index bytes i

-- two bytes, the low one first
abbrev pub word : List ℕ → ℕ → ℕ
word bytes i = byte bytes i + 256 * byte bytes (i + 1)

-- n words from place i on
unfoldable pub words : List ℕ → ℕ → ℕ → List ℕ
words bytes i zero = []
words bytes i (suc n) = word bytes i ∷ words bytes (i + 2) n

-- what is read, if there are bytes up to place `to`, which is not read itself
unfoldable pub given : {A : Type 0} → (JobFault → A) → List ℕ → ℕ → A → A
given stop bytes to rest = elim (nat_le to (length bytes)) [ true ↦ rest | false ↦ stop (EndsEarly (length bytes)) ]

-- what is read, if the byte at place i is one of low to high
unfoldable pub allowed : {A : Type 0} → (JobFault → A) → List ℕ → (i low high : ℕ) → A → A
allowed stop bytes i low high rest = elim (between low high (byte bytes i)) [ true ↦ rest | false ↦ stop (NotAllowed i) ]

-- a count, kind or length at place i, judged as soon as it is read
abbrev pub judged : {A : Type 0} → (JobFault → A) → List ℕ → (i low high : ℕ) → A → A
judged stop bytes i low high rest = given stop bytes (i + 1) (allowed stop bytes i low high rest)

-- after the last polynomial: no byte is left over
unfoldable pub at_end : List ℕ → ℕ → Polynomials
at_end bytes i = elim (i == length bytes) [ true ↦ end | false ↦ ended (LeftOver i) ]

-- where the record of a polynomial that begins at place i ends
abbrev pub record_end : List ℕ → ℕ → ℕ
record_end bytes i = i + 1 + 2 * byte bytes i

-- n polynomials from place i on: a length and that many codes
unfoldable pub polynomials_from : List ℕ → ℕ → ℕ → Polynomials
polynomials_from bytes i zero = at_end bytes i
polynomials_from bytes i (suc n) =
    judged ended bytes i 1 most_job_codes
    (given ended bytes (record_end bytes i) (polynomial i (words bytes (i + 1) (byte bytes i)) (polynomials_from bytes (record_end bytes i) n)))

-- n more levels from place i on: the kind 3, k and m; then the count of the polynomials and these
unfoldable pub levels_from : List ℕ → ℕ → ℕ → Levels
levels_from bytes i zero = judged stopped bytes i 0 most_polynomials (over (polynomials_from bytes (i + 1) (byte bytes i)))
levels_from bytes i (suc n) =
    judged stopped bytes i 3 3 (given stopped bytes (i + 4) (extension i (byte bytes (i + 1)) (word bytes (i + 2)) (levels_from bytes (i + 4) n)))

-- the first level, which is at place 1, and n more: the kind 1 and p, or the kind 2
unfoldable pub first_level : List ℕ → ℕ → Reading
first_level bytes n =
    elim (byte bytes 1 == 1) [ true ↦ given refused bytes 3 (prime 1 (byte bytes 2) (levels_from bytes 3 n)) | false ↦ symbol (levels_from bytes 2 n) ]

abbrev pub reading : List ℕ → Reading
reading bytes = judged refused bytes 0 1 most_levels (judged refused bytes 1 1 2 (first_level bytes (byte bytes 0 - 1)))
