-- A worksheet: a unit, which is a code but 0, and parts. A part is a polynomial, given by its codes, with its multiplicity and a mark.
use Rattle.std.specs.Prelude.{◌≡◌, ℕ, zero, suc, ◌+◌, ◌-◌, ◌*◌, ◌<◌, ◌≤◌, Bool, true, false, cond, ◌&&◌, ◌||◌, List, [], ◌∷◌, ◌++◌, reverse, length, replicate, Some, None, Option, ◌==◌, nat_le, nat_lt}
use Rattle.field.specs.Checks.{same}
use Rattle.field.specs.Ring.{RingMeaning, one}
use Rattle.field.specs.Polynomial.{degree, Canonical, Monic}
use Rattle.worksheet.specs.declared.parts.Mark.{Mark}
use Rattle.worksheet.specs.declared.parts.Mark.TheVariants.{Open, Settled}

-- the most that the degrees of the parts, each times its multiplicity, may add up to
abbrev pub most_degree : ℕ
most_degree = 127

-- the most parts of a worksheet: each adds at least 1 to the total degree
abbrev pub most_parts : ℕ
most_parts = most_degree

-- the codes of a polynomial, how often it stands, and whether it may still split (`Open`) or is known not to (`Settled`)
pub record PartMeaning : Type 0 where
  pub codes : List ℕ
  pub times : ℕ
  pub mark : Mark

-- The parts stand in their order. The number of a part is its place in the list, counted from 0.
pub record SheetMeaning : Type 0 where
  pub unit : ℕ
  pub parts : List PartMeaning

-- a worksheet at its making: the unit is one, and there is no part
abbrev pub empty : RingMeaning → SheetMeaning
empty m = record { unit = one m; parts = [] }

-- whether the first of two lists of codes is smaller than the second: the first place at which they differ decides
unfoldable pub smaller : List ℕ → List ℕ → Bool
smaller [] [] = false
smaller [] (y ∷ ys) = true
smaller (x ∷ xs) [] = false
smaller (x ∷ xs) (y ∷ ys) = nat_lt x y || (x == y && smaller xs ys)

-- The order of parts: by degree, lower first, and at equal degree by the codes from the highest power down, smaller first.
abbrev pub before : List ℕ → List ℕ → Bool
before f g = nat_lt (length f) (length g) || (length f == length g && smaller (reverse f) (reverse g))

-- an open part with the codes f and the multiplicity n
abbrev pub new_part : List ℕ → ℕ → PartMeaning
new_part f n = record { codes = f; times = n; mark = Open }

-- the part with n more of its multiplicity
abbrev pub grown : ℕ → PartMeaning → PartMeaning
grown n p = record { codes = p.codes; times = p.times + n; mark = p.mark }

-- To place f with multiplicity n: a part with the same codes grows by n and keeps its mark; where there is none, a new open part is put
-- in its place in the order.
unfoldable pub place : List ℕ → ℕ → List PartMeaning → List PartMeaning
place f n [] = new_part f n ∷ []
place f n (p ∷ ps) = cond (same p.codes f) (grown n p ∷ ps) (cond (before p.codes f) (p ∷ place f n ps) (new_part f n ∷ p ∷ ps))

-- the parts but that with the codes f
unfoldable pub without : List ℕ → List PartMeaning → List PartMeaning
without f [] = []
without f (p ∷ ps) = cond (same p.codes f) (without f ps) (p ∷ without f ps)

-- the part with its mark set
abbrev pub settled : PartMeaning → PartMeaning
settled p = record { codes = p.codes; times = p.times; mark = Settled }

-- the parts, that with the codes f settled
unfoldable pub settle : List ℕ → List PartMeaning → List PartMeaning
settle f [] = []
settle f (p ∷ ps) = cond (same p.codes f) (settled p) p ∷ settle f ps

-- whether a mark is `Open`
abbrev pub is_open : Mark → Bool
is_open Open = true
is_open Settled = false

-- the first open part, if there is one
unfoldable pub next_open : List PartMeaning → Option PartMeaning
next_open [] = None
next_open (p ∷ ps) = cond (is_open p.mark) (Some p) (next_open ps)

-- how many parts are open
unfoldable pub open_count : List PartMeaning → ℕ
open_count [] = 0
open_count (p ∷ ps) = cond (is_open p.mark) 1 0 + open_count ps

-- the part at place i, if there is one
unfoldable pub part_at : List PartMeaning → ℕ → Option PartMeaning
part_at [] i = None
part_at (p ∷ ps) zero = Some p
part_at (p ∷ ps) (suc i) = part_at ps i

-- what stays of a part when one of its multiplicity is taken: nothing, if that was the last
abbrev pub taken_once : PartMeaning → List PartMeaning
taken_once p = cond (nat_le p.times 1) [] (record { codes = p.codes; times = p.times - 1; mark = p.mark } ∷ [])

-- the parts, of that at place i one taken
unfoldable pub taken_at : List PartMeaning → ℕ → List PartMeaning
taken_at [] i = []
taken_at (p ∷ ps) zero = taken_once p ++ ps
taken_at (p ∷ ps) (suc i) = p ∷ taken_at ps i

-- the polynomials of the parts, each as often as its multiplicity
unfoldable pub standing : List PartMeaning → List (List ℕ)
standing [] = []
standing (p ∷ ps) = replicate p.times p.codes ++ standing ps

-- the sum of degree times multiplicity over the parts
unfoldable pub total_degree : List PartMeaning → ℕ
total_degree [] = 0
total_degree (p ∷ ps) = degree p.codes * p.times + total_degree ps

-- P holds of each of a list
abbrev pub Each : {A : Type 0} → (A → Type 0) → List A → Type 0
Each P [] = Unit {0}
Each P (x ∷ xs) = P x × Each P xs

-- every part is a monic polynomial of positive degree with a positive multiplicity
pub record GoodPart (m : RingMeaning) (p : PartMeaning) : Type 0 where
  pub canonical : Canonical m p.codes
  pub monic : Monic m p.codes
  pub positive : 0 < degree p.codes
  pub times : 0 < p.times

-- each part is before all after it, so no two have the same codes
abbrev pub Ordered : List PartMeaning → Type 0
Ordered [] = Unit {0}
Ordered (p ∷ ps) = Each (λ q. before p.codes q.codes ≡ true) ps × Ordered ps

-- What every worksheet keeps from call to call.
pub record GoodSheet (m : RingMeaning) (s : SheetMeaning) : Type 0 where
  pub unit_code : (0 < s.unit) × (s.unit < m.order)
  pub parts : Each (GoodPart m) s.parts
  pub ordered : Ordered s.parts
  pub fits : total_degree s.parts ≤ most_degree
