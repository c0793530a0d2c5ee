-- The test that two tables are those of the symbol field, which is computed once over all their entries.
use Rattle.std.specs.Prelude.{ℕ, zero, suc, ◌*◌, Bool, true, cond, ◌&&◌, List, [], ◌∷◌, length, ◌==◌, bit_xor, nat_lt, slice_index}

-- a code times α: each bit moves up by one, and α^8 is α^7 + α^2 + α + 1
abbrev pub times_alpha : ℕ → ℕ
times_alpha x = cond (nat_lt x 128) (2 * x) (bit_xor (2 * x) 0b1_1000_0111)

-- the list begins with p, and each entry is α times the one before
unfoldable pub goes : ℕ → List ℕ → Bool
goes p [] = true
goes p (x ∷ xs) = x == p && goes (times_alpha p) xs

-- x is an exponent below 255, and the table of powers has the code i at it, unless that is 0
abbrev pub undone : List ℕ → ℕ → ℕ → Bool
undone powers zero x = true
undone powers (suc i) x = nat_lt x 255 && slice_index powers x == suc i

-- from place i on, each entry is the exponent of its place
unfoldable pub undoes : List ℕ → ℕ → List ℕ → Bool
undoes powers i [] = true
undoes powers i (x ∷ xs) = undone powers i x && undoes powers (suc i) xs

-- each power is α times the one before, and exponents undo powers
abbrev pub tables_pass : List ℕ → List ℕ → Bool
tables_pass powers exponents = (length powers == 510 && goes 1 powers) && (length exponents == 256 && undoes powers 0 exponents)
