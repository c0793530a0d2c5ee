-- The polynomials of fixed codes, and the products of linear factors.
use Rattle.std.specs.Prelude.{ℕ, zero, suc, ◌+◌, ◌*◌, ◌/◌, ◌%◌, ◌^◌, List, [], ◌∷◌}
use Rattle.field.specs.Ring.{RingMeaning, one}

abbrev pub next_number : ℕ → ℕ
next_number x = (x * 1103515245 + 12345) % 2 ^ 32

-- the number that comes k places after 1
unfoldable pub number : ℕ → ℕ
number zero = 1
number (suc k) = next_number (number k)

-- the code at place k: a number divided by 2^16, modulo the order
abbrev pub drawn_code : RingMeaning → ℕ → ℕ
drawn_code m k = number (suc k) / 2 ^ 16 % m.order

-- X - a for the codes a from 1 to k
unfoldable pub linear_factors : RingMeaning → ℕ → List (List ℕ)
linear_factors m zero = []
linear_factors m (suc k) = (m.opposite (suc k) ∷ one m ∷ []) ∷ linear_factors m k
