-- The generator polynomial of the CCSDS (255,223) Reed-Solomon code: the product of X - (α^11)^i for i from 112 to 143.
use Rattle.std.specs.Prelude.{ℕ, zero, suc, ◌+◌, List, [], ◌∷◌}
use Rattle.field.specs.Ring.{RingMeaning, one, power}
use Rattle.field.specs.Polynomial.{product_of}

-- (α^11)^i, where α has the code 2
abbrev pub root_at : RingMeaning → ℕ → ℕ
root_at m i = power m (power m 2 11) i

-- X - (α^11)^i
abbrev pub linear_at : RingMeaning → ℕ → List ℕ
linear_at m i = m.opposite (root_at m i) ∷ one m ∷ []

-- those of the first k roots
unfoldable pub linear_factors : RingMeaning → ℕ → List (List ℕ)
linear_factors m zero = []
linear_factors m (suc k) = linear_at m (112 + k) ∷ linear_factors m k

abbrev pub generator_polynomial : RingMeaning → List ℕ
generator_polynomial m = product_of m (linear_factors m 32)
