use Rattle.std.proofs.Common.{ℕ, eqb, List, ap, ◌∙◌, arith}
use Rattle.std.specs.List.{list_any}
use Rattle.field.proofs.PrimeList.{listed}
use Rattle.field.proofs.primes.in_primes.Goals as goal

pub returns : goal.returns
returns c =
    c.contains.ensures.value
    ∙ ap (λ (xs : List ℕ). list_any (λ y. eqb y c.args.n) xs) c.primes.ensures
    ∙ listed 257 c.args.n (omega (arith, c.requires))
