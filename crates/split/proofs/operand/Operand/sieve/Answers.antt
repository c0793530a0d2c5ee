use Rattle.std.proofs.Common.{◌≡◌, ℕ, ◌+◌, List, length, take, arith}
use Rattle.std.proofs.lemmas.List.{length-take-le}
use Rattle.split.proofs.SieveKinds.{itself_is, zero_is}
use Rattle.split.proofs.operand.Operand.sieve.Goals as goal

pub returns-then-e-eq1-clause-sieve : goal.returns-then-e-eq1-clause-sieve
returns-then-e-eq1-clause-sieve g c =
    let s = c.args.self.now in
    let n : ℕ = c.args.e + 1 in
    let fixed : List ℕ = c.args.fixed.now in
    let long : length (take n fixed) ≡ n = length-take-le n fixed (omega (arith, c.requires.residue.sized, c.requires.degree)) in
    itself_is _ s.laws s.f.now (take n fixed) s.taken c.requires.least (omega (arith, long, c.if-e-eq1.true)) c.from_slice.result c.from_slice.ensures

pub returns-then-order-fixed-clause-sieve : goal.returns-then-order-fixed-clause-sieve
returns-then-order-fixed-clause-sieve g c =
    let s = c.args.self.now in
    zero_is _ s.laws.ring s.f.now (take (c.args.e + 1) c.args.fixed.now) c.zero.result c.zero.ensures
