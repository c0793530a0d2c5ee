-- How far the reader of a job has come.
use Rattle.std.specs.Prelude.{◌≡◌, ℕ, ◌+◌, true, false, List, Ok, Err, ◌==◌, Result}
use Rattle.job.specs.declared.fault.JobFault.{JobFault}
use Rattle.job.specs.Reading.{Polynomials, Levels, byte, word, given, judged, record_end, polynomials_from, levels_from, most_job_codes}
use Rattle.job.specs.declared.reader.Base.{Base}
use Rattle.job.specs.declared.reader.Base.TheVariants.{Prime, Symbols}
use Rattle.job.specs.declared.reader.Reader.{Reader}

-- all bytes, those before and after its place
abbrev pub bytes_of : Reader → List ℕ
bytes_of r = r.bytes.now

-- s is r after n more bytes
pub record Moved (r : Reader) (n : ℕ) (s : Reader) : Type 0 where
  pub same : bytes_of s ≡ bytes_of r
  pub place : s.at ≡ r.at + n

-- the first level, whose kind is at place i, and how many bytes it has
abbrev pub base_at : List ℕ → ℕ → Result Base JobFault
base_at bytes i = judged Err bytes i 1 2 (elim (byte bytes i == 1) [ true ↦ given Err bytes (i + 2) (Ok (Prime (byte bytes (i + 1)))) | false ↦ Ok Symbols ])

abbrev pub base_bytes : Base → ℕ
base_bytes (Prime p) = 2
base_bytes Symbols = 1

-- k and m of the level at place i
abbrev pub extension_at : List ℕ → ℕ → Result (ℕ × ℕ) JobFault
extension_at bytes i = judged Err bytes i 3 3 (given Err bytes (i + 4) (Ok (byte bytes (i + 1), word bytes (i + 2))))

-- how many codes the polynomial at place i has
abbrev pub polynomial_at : List ℕ → ℕ → Result ℕ JobFault
polynomial_at bytes i = judged Err bytes i 1 most_job_codes (given Err bytes (record_end bytes i) (Ok (byte bytes i)))

-- n more levels from its place on, with all that comes after them
abbrev pub levels_left : Reader → ℕ → Levels
levels_left r n = levels_from (bytes_of r) r.at n

-- k and m of the level at its place
abbrev pub next_height : Reader → ℕ
next_height r = byte (bytes_of r) (r.at + 1)

abbrev pub next_number : Reader → ℕ
next_number r = word (bytes_of r) (r.at + 2)

-- n polynomials from its place on, with the end
abbrev pub polynomials_left : Reader → ℕ → Polynomials
polynomials_left r n = polynomials_from (bytes_of r) r.at n
