-- The kinds of a splitting step, and their numbers.
use Rattle.std.specs.Prelude.{ℕ}
use Rattle.split.specs.declared.kind.Kind.{Kind}
use Rattle.split.specs.declared.kind.Kind.TheVariants.{Root, Repeated, Shifted, Whole}

abbrev pub kind_number : Kind → ℕ
kind_number Root = 1
kind_number Repeated = 2
kind_number Shifted = 3
kind_number Whole = 4

-- the answer of a step, with the number of its kind
abbrev pub numbered : Kind × ℕ × ℕ → ℕ × ℕ × ℕ
numbered a = (kind_number a.0, a.1, a.2)
