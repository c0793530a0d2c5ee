-- What the call for one splitting step answers, and what its buffers then hold.
use Rattle.std.specs.Prelude.{◌≡◌, ℕ, ◌<◌, ◌≤◌, List, length, Some, None, Option}
use Rattle.field.specs.Ring.{RingMeaning}
use Rattle.field.specs.Field.{FieldMeaning}
use Rattle.field.specs.Polynomial.{degree, product, Canonical, Monic}
use Rattle.poly.specs.Faults.{most_codes}
use Rattle.poly.specs.Calls.{written}
use Rattle.split.specs.Splitting.{Splitting, root, repeated, shifted, whole, SplitsInto, answer, scratch_size, wiped}

-- f is a monic polynomial of positive degree over the ring, of at most 128 codes
pub record Taken (m : RingMeaning) (f : List ℕ) : Type 0 where
  pub canonical : Canonical m f
  pub short : length f ≤ most_codes
  pub monic : Monic m f
  pub positive : 0 < degree f

-- the pieces in two buffers, each from index 0 on; what is not written stays
abbrev pub Pieces : Splitting → List ℕ → List ℕ → List ℕ → List ℕ → Type 0
Pieces (root r) first second first' second' = (first' ≡ written r first) × (second' ≡ second)
Pieces (repeated g h) first second first' second' = (first' ≡ written g first) × (second' ≡ written h second)
Pieces (shifted g h) first second first' second' = (first' ≡ written g first) × (second' ≡ written h second)
Pieces whole first second first' second' = (first' ≡ first) × (second' ≡ second)

-- f is g times another polynomial: both are in the buffers, and the answer is their degrees
pub record Paired (m : RingMeaning) (f g first second : List ℕ) (a : ℕ × ℕ) (first' second' : List ℕ) : Type 0 where
  pub other : List ℕ
  pub canonical : Canonical m other
  pub multiplies : product m g other ≡ f
  pub answers : a ≡ (degree g, degree other)
  pub in_first : first' ≡ written g first
  pub in_second : second' ≡ written other second

-- f is split into s: the answer is that of s, and the buffers hold its pieces
pub record Split (F : FieldMeaning) (f first second : List ℕ) (a : ℕ × ℕ × ℕ) (first' second' : List ℕ) : Type 0 where
  pub into : Splitting
  pub splits : SplitsInto F f into
  pub answers : a ≡ answer F f into
  pub pieces : Pieces into first second first' second'

-- The step on f. Where f is taken and the scratch is long enough, f is split and the used part of the scratch is zeroed; else the
-- answer is none and the buffers stay as they were.
abbrev pub Works : FieldMeaning → List ℕ → List ℕ → List ℕ → List ℕ → Option (ℕ × ℕ × ℕ) → List ℕ → List ℕ → List ℕ → Type 0
Works F f scratch first second (Some a) scratch' first' second' =
    Taken F.ring f × (scratch_size f ≤ length scratch) × Split F f first second a first' second' × (scratch' ≡ wiped (scratch_size f) scratch)
Works F f scratch first second None scratch' first' second' =
    (Taken F.ring f → scratch_size f ≤ length scratch → ⊥) × (scratch' ≡ scratch) × (first' ≡ first) × (second' ≡ second)
