use Rattle.std.proofs.Common.{refl}
use Rattle.field.specs.Checks.{seek}
use Rattle.field.specs.Residues.{primes_below}
use Rattle.field.proofs.primes.primes.Goals as goal

pub returns : goal.returns
unfolding primes_below seek
returns c = refl
