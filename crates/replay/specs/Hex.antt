-- Bytes as hexadecimal text.
use Rattle.std.specs.Prelude.{ℕ, ◌+◌, ◌-◌, ◌*◌, Bool, cond, ◌&&◌, List, [], ◌∷◌, Some, None, Option, nat_le}

-- whether a number is one of two others or between them
abbrev pub between : ℕ → ℕ → ℕ → Bool
between low high c = nat_le low c && nat_le c high

-- the value of a hexadecimal digit, by its place in ASCII; none of any other character
abbrev pub digit_value : ℕ → Option ℕ
digit_value c = cond (between 48 57 c) (Some (c - 48)) (cond (between 97 102 c) (Some (c - 87)) (cond (between 65 70 c) (Some (c - 55)) None))

-- the byte of two digits, the high one first
abbrev pub both : Option ℕ → Option ℕ → Option ℕ
both (Some high) (Some low) = Some (16 * high + low)
both (Some high) None = None
both None low = None

-- the byte of a text of two digits; none of any other text
abbrev pub pair_value : List ℕ → Option ℕ
pair_value [] = None
pair_value (c ∷ []) = None
pair_value (high ∷ low ∷ []) = both (digit_value high) (digit_value low)
pair_value (high ∷ low ∷ c ∷ cs) = None

-- a byte before others, where there are both
abbrev pub before : Option ℕ → Option (List ℕ) → Option (List ℕ)
before (Some b) (Some bs) = Some (b ∷ bs)
before (Some b) None = None
before None bs = None

-- the bytes of a text of pairs of digits; none of any other text
abbrev pub text_value : List ℕ → Option (List ℕ)
text_value [] = Some []
text_value (c ∷ []) = None
text_value (high ∷ low ∷ cs) = before (pair_value (high ∷ low ∷ [])) (text_value cs)
