use Rattle.std.proofs.Common.{ℕ, ◌-◌, List, length}
use Rattle.field.specs.Field.{FieldMeaning, means}
use Rattle.split.proofs.Sieving.{relation_is}
use Rattle.split.proofs.SieveKinds.{zero_is}
use Rattle.split.proofs.operand.Operand.sieve_of_powers.Goals as goal

pub returns-in-Some-clause-sieve : goal.returns-in-Some-clause-sieve
returns-in-Some-clause-sieve g c q cq r =
    let s = c.args.self.now in
    let F : FieldMeaning = means (g.F.Ring.meaning s.field.now) (g.F.Field.extras s.field.now) in
    let f : List ℕ = s.f.now in
    let told = c.in-Some.ensures in
    let filled = c.fill_powers.ensures in
    relation_is F s.laws f q s.taken.canonical cq (length f - 1) s.taken.positive c.fill_powers.new.codes c.fill_powers.new.constants filled.below filled.constants (filled.rows q cq r)
    c.dependent_row.new.codes told.below c.in-Some.e told.answer c.relation.result c.relation.ensures

pub returns-in-None-clause-sieve : goal.returns-in-None-clause-sieve
returns-in-None-clause-sieve g c q cq r =
    let s = c.args.self.now in
    zero_is (g.F.Ring.meaning s.field.now) s.laws.ring s.f.now q c.zero.result c.zero.ensures
