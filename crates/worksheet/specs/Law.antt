-- The law of splitting: what holds over every field after every list of calls on one worksheet, from its making on.
use Rattle.std.specs.Prelude.{◌≡◌, ℕ, ◌+◌, ◌-◌, ◌*◌, ◌<◌, ◌≤◌, cond, ◌↔◌, List, [], ◌∷◌, ◌++◌, take as first, Some, None, Ok, Err, Option, Result}
use Rattle.field.specs.declared.fault.FieldFault.{FieldFault}
use Rattle.field.specs.declared.fault.FieldFault.TheVariants.{ModulusSplits}
use Rattle.field.specs.Checks.{same}
use Rattle.field.specs.Ring.{RingMeaning}
use Rattle.field.specs.Field.{FieldMeaning, FieldLaws}
use Rattle.field.specs.Polynomial.{degree, constant, product_of, Monic, Splits, Unsplittable}
use Rattle.field.specs.Quotient.{modulus, extension_field}
use Rattle.field.specs.Faults.{quotient_refusal}
use Rattle.extension.specs.Extension.{SplitsLower, Extends}
use Rattle.worksheet.specs.declared.fault.SheetFault.{SheetFault}
use Rattle.worksheet.specs.Sheet.{PartMeaning, SheetMeaning, GoodSheet, Each, empty, standing, next_open, open_count}
use Rattle.worksheet.specs.Calls.{Entered, Stepped, Taken}

-- A call with what it was given, what it answered, and what its buffer held after it. It is accepted if the answer is `Ok`.
pub data Event : Type 0 where
  enter : (operand : List ℕ) → Result ℕ SheetFault → Event
  step : (scratch : List ℕ) → Result (ℕ × ℕ × ℕ) SheetFault → (after : List ℕ) → Event
  take : (place : ℕ) → (buffer : List ℕ) → Result ℕ SheetFault → (after : List ℕ) → Event

-- the call leads from the worksheet s to t, as the call's own contract says
abbrev pub Happens : FieldMeaning → SheetMeaning → Event → SheetMeaning → Type 0
Happens F s (enter f r) t = Entered F s f r t
Happens F s (step scratch r after) t = Stepped F s scratch r t after
Happens F s (take i buffer r after) t = Taken s i buffer r t after

-- a list of calls, accepted and refused ones, leads from the worksheet s to t
abbrev pub Run : FieldMeaning → SheetMeaning → List Event → SheetMeaning → Type 0
Run F s [] t = s ≡ t
Run F s (e ∷ es) t = (u : SheetMeaning) × Happens F s e u × Run F u es t

-- the polynomials that were entered: those of the accepted calls
unfoldable pub entries : List Event → List (List ℕ)
entries [] = []
entries (enter f (Ok d) ∷ es) = f ∷ entries es
entries (enter f (Err e) ∷ es) = entries es
entries (step scratch r after ∷ es) = entries es
entries (take i buffer r after ∷ es) = entries es

-- the polynomials that were taken: after an accepted take of degree d, the first d + 1 codes of its buffer
unfoldable pub taken : List Event → List (List ℕ)
taken [] = []
taken (enter f r ∷ es) = taken es
taken (step scratch r after ∷ es) = taken es
taken (take i buffer (Ok d) after ∷ es) = first (d + 1) after ∷ taken es
taken (take i buffer (Err e) after ∷ es) = taken es

-- how many steps were accepted
unfoldable pub steps : List Event → ℕ
steps [] = 0
steps (enter f r ∷ es) = steps es
steps (step scratch (Ok a) after ∷ es) = 1 + steps es
steps (step scratch (Err e) after ∷ es) = steps es
steps (take i buffer r after ∷ es) = steps es

-- the sum of 2d - 1 over the polynomials of degree d, where a constant counts 0
unfoldable pub most_steps : List (List ℕ) → ℕ
most_steps [] = 0
most_steps (f ∷ fs) = (2 * degree f - 1) + most_steps fs

-- how often f stands in a list
unfoldable pub occurrences : List ℕ → List (List ℕ) → ℕ
occurrences f [] = 0
occurrences f (g ∷ gs) = cond (same f g) 1 0 + occurrences f gs

-- two lists are the same up to order: each polynomial stands in both equally often
abbrev pub Reordered : List (List ℕ) → List (List ℕ) → Type 0
Reordered fs gs = (f : List ℕ) → occurrences f fs ≡ occurrences f gs

-- a code but 0 and monic polynomials, none of which is a product of two polynomials of positive degree, multiply to f
pub record IsSplitting (m : RingMeaning) (f : List ℕ) (unit : ℕ) (parts : List (List ℕ)) : Type 0 where
  pub code : (0 < unit) × (unit < m.order)
  pub unsplittable : Each (Unsplittable m) parts
  pub monic : Each (Monic m) parts
  pub multiplies : product_of m (constant unit ∷ parts) ≡ f

-- what holds after the calls `events`, which lead from the empty worksheet to s
pub record Holds (F : FieldMeaning) (events : List Event) (s : SheetMeaning) : Type 0 where
  -- the product of what was entered is that of the unit, the parts by their multiplicity, and what was taken
  pub balance : product_of F.ring (entries events) ≡ product_of F.ring (constant s.unit ∷ standing s.parts ++ taken events)
  -- if a step is accepted now, it settles its part (kind 4) exactly if no two polynomials of positive degree multiply to the part
  pub settles : (scratch after : List ℕ) (a : ℕ × ℕ × ℕ) (t : SheetMeaning) (p : PartMeaning) → Stepped F s scratch (Ok a) t after → next_open s.parts ≡ Some p →
      (a.0 ≡ 4) ↔ (Splits F.ring p.codes → ⊥)
  -- with no part open, the unit, the parts by their multiplicity and what was taken are a splitting of the product of what was entered
  pub complete : open_count s.parts ≡ 0 → IsSplitting F.ring (product_of F.ring (entries events)) s.unit (standing s.parts ++ taken events)
  -- and it has no other: any splitting of this product has the same unit, and the same polynomials up to order
  pub only : open_count s.parts ≡ 0 → (unit : ℕ) (parts : List (List ℕ)) → IsSplitting F.ring (product_of F.ring (entries events)) unit parts →
      (unit ≡ s.unit) × Reordered parts (standing s.parts ++ taken events)
  -- the accepted steps are at most the sum of 2d - 1 over the polynomials of positive degree d that were entered
  pub few_steps : steps events ≤ most_steps (entries events)

-- what holds of a request for the extension of F by t^k plus the polynomial of n, which gets this refusal, or none
pub record HoldsExtending (F : FieldMeaning) (k n : ℕ) (refusal : Option FieldFault) : Type 0 where
  -- in range it is refused with 6 exactly if its modulus is a product of two polynomials of smaller positive degree
  pub refused : quotient_refusal F.ring k n ≡ None → (refusal ≡ Some ModulusSplits) ↔ SplitsLower F.ring (modulus F.ring k n)
  -- and made exactly if it is none
  pub made : quotient_refusal F.ring k n ≡ None → (refusal ≡ None) ↔ (SplitsLower F.ring (modulus F.ring k n) → ⊥)
  -- what is made is a field, so that all of this holds over it too
  pub field : refusal ≡ None → FieldLaws (extension_field F k n)

-- The law of splitting, over every field: of every list of calls from the empty worksheet, and of every request for an extension.
abbrev pub Law : Type 0
Law =
    (F : FieldMeaning) → FieldLaws F →
    ((events : List Event) (s : SheetMeaning) → Run F (empty F.ring) events s → Holds F events s)
    × ((k n : ℕ) (refusal : Option FieldFault) → Extends F k n refusal → HoldsExtending F k n refusal)

-- Over every field, each call, accepted or refused, keeps what every worksheet keeps.
abbrev pub CallsKeep : Type 0
CallsKeep = (F : FieldMeaning) → FieldLaws F → (e : Event) (s t : SheetMeaning) → GoodSheet F.ring s → Happens F s e t → GoodSheet F.ring t

-- Over every field, a step on a worksheet has one outcome, and one only.
abbrev pub OneStep : Type 0
OneStep =
    (F : FieldMeaning) → FieldLaws F → (s : SheetMeaning) → GoodSheet F.ring s → (scratch : List ℕ) →
    (r : Result (ℕ × ℕ × ℕ) SheetFault) × (t : SheetMeaning) × (after : List ℕ) × Stepped F s scratch r t after
    × ((r' : Result (ℕ × ℕ × ℕ) SheetFault) (t' : SheetMeaning) (after' : List ℕ) → Stepped F s scratch r' t' after' → (r' ≡ r) × (t' ≡ t) × (after' ≡ after))
