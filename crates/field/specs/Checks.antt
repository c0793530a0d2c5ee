-- Checks in their order, searches for the first number that passes a test, and whether two lists are equal.
use Rattle.std.specs.Prelude.{ℕ, zero, suc, Bool, true, false, ◌&&◌, List, [], ◌∷◌, ◌++◌, Some, None, Option, ◌==◌, nat_le}

infixr 30 ◌or_else◌
-- a refusal where the test fails
abbrev pub unless : {A : Type 0} → Bool → A → Option A
unless true a = None
unless false a = Some a

-- the first refusal of two
abbrev pub ◌or_else◌ : {A : Type 0} → Option A → Option A → Option A
◌or_else◌ (Some a) o = Some a
◌or_else◌ None o = o

-- whether n is one of low to high
abbrev pub between : ℕ → ℕ → ℕ → Bool
between low high n = nat_le low n && nat_le n high

-- the smallest number from `from` on that passes the test, among `count` of them
unfoldable pub seek : (ℕ → Bool) → ℕ → ℕ → Option ℕ
seek test from zero = None
seek test from (suc count) = elim (test from) [ true ↦ Some from | false ↦ seek test (suc from) count ]

-- the smallest number below n that passes the test
abbrev pub first_below : ℕ → (ℕ → Bool) → Option ℕ
first_below n test = seek test 0 n

-- 0 to n - 1
unfoldable pub below : ℕ → List ℕ
below zero = []
below (suc n) = below n ++ n ∷ []

-- whether two lists of numbers are equal
unfoldable pub same : List ℕ → List ℕ → Bool
same [] [] = true
same [] (y ∷ ys) = false
same (x ∷ xs) [] = false
same (x ∷ xs) (y ∷ ys) = x == y && same xs ys
