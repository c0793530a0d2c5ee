-- What the methods of a matrix leave as it was.
use Rattle.std.specs.Prelude.{◌≡◌}
use Rattle.split.specs.declared.elimination.Matrix.{Matrix}

-- the same slice is lent, over the same field, in rows of the same length
abbrev pub Kept : {F : _} {a : _} {b : _} (old new : Matrix F a b) → Type 0
Kept old new = (new.codes.ghost_name ≡ old.codes.ghost_name) × (new.field ≡ old.field) × (new.d ≡ old.d)
