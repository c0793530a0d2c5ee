-- What comes of a job: its records are worked in their order, each when all its bytes are read; then step is called until no part is
-- open. The calls are those of worksheets and extensions, by the relations that their own contracts cite.
use Rattle.std.specs.Prelude.{◌≡◌, ℕ, zero, suc, List, replicate, Some, None, Ok, Err, Option, Result}
use Rattle.field.specs.declared.fault.FieldFault.{FieldFault}
use Rattle.field.specs.Field.{FieldMeaning}
use Rattle.field.specs.Residues.{prime_field}
use Rattle.field.specs.Quotient.{extension_field}
use Rattle.field.specs.Symbol.{symbol_field}
use Rattle.field.specs.Faults.{prime_refusal}
use Rattle.extension.specs.Extension.{Extends}
use Rattle.worksheet.specs.declared.fault.SheetFault.{SheetFault}
use Rattle.worksheet.specs.declared.fault.SheetFault.TheVariants.{Field, NoOpenPart}
use Rattle.worksheet.specs.Sheet.{SheetMeaning, empty}
use Rattle.worksheet.specs.Calls.{Entered, Stepped}
use Rattle.job.specs.declared.fault.JobFault.{JobFault}
use Rattle.job.specs.declared.fault.JobFault.TheVariants.{Record}
use Rattle.job.specs.Reading.{Polynomials, polynomial, end, ended, Levels, extension, over, stopped, Reading, prime, symbol, refused, reading}
use Rattle.job.specs.Outcome.{Outcome, outcome}

-- as much scratch as a step on the longest polynomial asks for: 2 times 127 times 127 codes
abbrev pub most_scratch : ℕ
most_scratch = 32258

-- n accepted steps in one scratch lead from s to t, where a step is refused with 22: no part is open
abbrev pub Settles : FieldMeaning → SheetMeaning → List ℕ → ℕ → SheetMeaning → Type 0
Settles F s scratch zero t = (s ≡ t) × Stepped F s scratch (Err NoOpenPart) s scratch
Settles F s scratch (suc n) t = (a : ℕ × ℕ × ℕ) × (u : SheetMeaning) × (after : List ℕ) × Stepped F s scratch (Ok a) u after × Settles F u after n t

-- what comes after a polynomial is entered, or that the job is refused at its record
abbrev pub AfterEntry : ℕ → Result ℕ SheetFault → Type 0 → Result Outcome JobFault → Type 0
AfterEntry at (Ok d) Rest r = Rest
AfterEntry at (Err e) Rest r = r ≡ Err (Record at e)

-- r comes of the polynomials over the field F, with the worksheet s
abbrev pub Works : FieldMeaning → SheetMeaning → Polynomials → Result Outcome JobFault → Type 0
Works F s (polynomial at f rest) r = (a : Result ℕ SheetFault) × (t : SheetMeaning) × Entered F s f a t × AfterEntry at a (Works F t rest r) r
Works F s end r = (n : ℕ) × (t : SheetMeaning) × Settles F s (replicate most_scratch 0) n t × (r ≡ Ok (outcome F.ring t n))
Works F s (ended e) r = r ≡ Err e

-- what comes after a level is made, or that the job is refused at its record
abbrev pub AfterLevel : ℕ → Option FieldFault → Type 0 → Result Outcome JobFault → Type 0
AfterLevel at None Rest r = Rest
AfterLevel at (Some e) Rest r = r ≡ Err (Record at (Field e))

-- r comes of the levels on the field F, and of the polynomials over the last of them, which are entered into an empty worksheet
abbrev pub Climbs : FieldMeaning → Levels → Result Outcome JobFault → Type 0
Climbs F (extension at k m rest) r = (e : Option FieldFault) × Extends F k m e × AfterLevel at e (Climbs (extension_field F k m) rest r) r
Climbs F (over rest) r = Works F (empty F.ring) rest r
Climbs F (stopped e) r = r ≡ Err e

abbrev pub Starts : Reading → Result Outcome JobFault → Type 0
Starts (prime at p rest) r = AfterLevel at (prime_refusal p) (Climbs (prime_field p) rest r) r
Starts (symbol rest) r = Climbs symbol_field rest r
Starts (refused e) r = r ≡ Err e

-- r comes of the bytes of a job
abbrev pub Gives : List ℕ → Result Outcome JobFault → Type 0
Gives bytes r = Starts (reading bytes) r

-- Of every list of bytes there comes one thing, and one only.
abbrev pub OneOutcome : Type 0
OneOutcome = (bytes : List ℕ) → (r : Result Outcome JobFault) × Gives bytes r × ((r' : Result Outcome JobFault) → Gives bytes r' → r' ≡ r)
