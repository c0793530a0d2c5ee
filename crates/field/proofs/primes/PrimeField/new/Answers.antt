use Rattle.std.proofs.Common.{◌≡◌, None, sym, ap, subst, rules}
use Rattle.field.specs.Ring.{RingMeaning}
use Rattle.field.specs.Residues.{prime_extras}
use Rattle.field.specs.Faults.{prime_refusal, PrimeMade}
use Rattle.field.specs.Ranges.{prime_made}
use Rattle.field.proofs.primes.PrimeField.new.Goals as goal

pub returns : goal.returns
returns c =
    let same : c.in_ok-base.base.n ≡ c.args.n = ap (λ (m : RingMeaning). m.order) c.in_ok-base.ensures.1.1 in
    let taken : prime_refusal c.args.n ≡ None = search rules in
    (taken, (subst PrimeMade (sym same) (record { taken = taken; laws = prime_made c.args.n taken }), c.in_ok-base.ensures.1.1, ap prime_extras same))
