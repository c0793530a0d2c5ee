-- What a listing shows: it is the only splitting of the product of the job's polynomials over the job's field.
use Rattle.std.specs.Prelude.{◌≡◌, ℕ, ◌≤◌, List, [], ◌∷◌, Ok}
use Rattle.field.specs.Field.{FieldMeaning, FieldLaws}
use Rattle.field.specs.Residues.{prime_field}
use Rattle.field.specs.Quotient.{extension_field}
use Rattle.field.specs.Symbol.{symbol_field}
use Rattle.field.specs.Polynomial.{product_of}
use Rattle.worksheet.specs.Sheet.{standing}
use Rattle.worksheet.specs.Law.{IsSplitting, Reordered, most_steps}
use Rattle.job.specs.Reading.{Polynomials, polynomial, end, ended, Levels, extension, over, stopped, Reading, prime, symbol, refused, reading}
use Rattle.job.specs.Outcome.{Outcome}
use Rattle.job.specs.Job.{Gives}

-- the polynomials of a job
unfoldable pub polynomials_in : Polynomials → List (List ℕ)
polynomials_in (polynomial at f rest) = f ∷ polynomials_in rest
polynomials_in end = []
polynomials_in (ended e) = []

unfoldable pub polynomials_over : Levels → List (List ℕ)
polynomials_over (extension at k m rest) = polynomials_over rest
polynomials_over (over rest) = polynomials_in rest
polynomials_over (stopped e) = []

abbrev pub polynomials_of : Reading → List (List ℕ)
polynomials_of (prime at p rest) = polynomials_over rest
polynomials_of (symbol rest) = polynomials_over rest
polynomials_of (refused e) = []

-- the field that the levels reach
unfoldable pub field_over : FieldMeaning → Levels → FieldMeaning
field_over F (extension at k m rest) = field_over (extension_field F k m) rest
field_over F (over rest) = F
field_over F (stopped e) = F

-- the field of a job; one that is refused before its first level has none, and the symbol field stands for it
abbrev pub field_of : Reading → FieldMeaning
field_of (prime at p rest) = field_over (prime_field p) rest
field_of (symbol rest) = field_over symbol_field rest
field_of (refused e) = symbol_field

-- what holds of the outcome o over the field F of a job with the polynomials fs
pub record Filed (F : FieldMeaning) (fs : List (List ℕ)) (o : Outcome) : Type 0 where
  pub laws : FieldLaws F
  pub order : o.order ≡ F.ring.order
  -- the unit and the parts, each as often as its multiplicity, multiply to the product of fs, and no part is a product of two
  -- polynomials of positive degree
  pub complete : IsSplitting F.ring (product_of F.ring fs) o.unit (standing o.parts)
  -- any other such splitting has the same unit, and the same polynomials up to order
  pub only : (unit : ℕ) (parts : List (List ℕ)) → IsSplitting F.ring (product_of F.ring fs) unit parts → (unit ≡ o.unit) × Reordered parts (standing o.parts)
  -- the steps are at most the sum of 2d - 1 over the polynomials of positive degree d
  pub few_steps : o.steps ≤ most_steps fs

-- Of every job that is not refused, the listing is the only splitting.
abbrev pub ListingsSplit : Type 0
ListingsSplit = (bytes : List ℕ) (o : Outcome) → Gives bytes (Ok o) → Filed (field_of (reading bytes)) (polynomials_of (reading bytes)) o
