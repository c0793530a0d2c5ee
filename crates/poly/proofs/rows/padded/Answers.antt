use Rattle.std.proofs.Common.{ℕ, List, ◌++◌, length, drop, replicate, sym, subst}
use Rattle.field.specs.Polynomial.{coefficient}
use Rattle.field.specs.Rows.{IsRow}
use Rattle.poly.proofs.Euclid.{padded_row}
use Rattle.poly.proofs.rows.padded.Goals as goal

pub returns : goal.returns
returns c =
    subst (λ (xs : List ℕ). IsRow (xs ++ drop (length c.args.f.now) (replicate 128 0)) 128 (coefficient c.args.f.now)) (sym c.copy_from_slice.ensures.after)
    (padded_row c.args.f.now 128 c.requires)
