use Rattle.std.proofs.Common.{ℕ, ◌+◌, ◌-◌, length, take, refl, ap, ◌∙◌, arith}
use Rattle.split.specs.Splitting.{shifted, whole}
use Rattle.split.proofs.FixedByRows.{none_found}
use Rattle.split.proofs.FoundRow.{found_least, found_residue}
use Rattle.split.proofs.operand.Operand.split_simple.Goals as goal

pub split_by_shift-a-requires-clause-least : goal.split_by_shift-a-requires-clause-least
split_by_shift-a-requires-clause-least g c =
    let t = c.args.self.now in
    let told = c.in-Some.ensures in
    found_least _ t.laws _ t.taken _ _ _ _ told.below told.answer (omega arith) c.copy_from_slice.ensures.after c.fill_matrix.ensures.below c.fill_matrix.ensures.rows

pub split_by_shift-a-requires-clause-residue : goal.split_by_shift-a-requires-clause-residue
split_by_shift-a-requires-clause-residue g c =
    let t = c.args.self.now in
    let told = c.in-Some.ensures in
    found_residue _ t.laws _ t.taken _ _ _ _ told.below told.answer (omega arith) c.copy_from_slice.ensures.after

pub returns-in-None-clause-split : goal.returns-in-None-clause-split
returns-in-None-clause-split g c =
    let t = c.args.self.now in
    let rows = c.fill_matrix.ensures in
    record {
      into = whole;
      splits = (c.requires.simple, none_found _ t.laws _ t.taken.canonical t.taken.positive (length t.f.now - 1) refl _ rows.below rows.rows c.in-None.ensures.answer);
      answers = refl;
      pieces = (refl, refl);
    }

pub returns-in-Some-clause-split : goal.returns-in-Some-clause-split
returns-in-Some-clause-split g c =
    let t = c.args.self.now in
    let told = c.in-Some.ensures in
    let least = found_least _ t.laws _ t.taken _ _ _ _ told.below told.answer (omega arith) c.copy_from_slice.ensures.after c.fill_matrix.ensures.below c.fill_matrix.ensures.rows in
    let w = c.split_by_shift-a.ensures.split in
    record {
      into = shifted w.0 w.3.other;
      splits = (c.requires.simple, (take (c.in-Some.e + 1) c.copy_from_slice.new.self, w.1, least, w.2), w.3.canonical, w.3.multiplies);
      answers = ap (λ (x : ℕ × ℕ). (3, x.0, x.1)) w.3.answers;
      pieces = (w.3.in_first, w.3.in_second);
    }

pub returns-in-Some-clause-past : goal.returns-in-Some-clause-past
returns-in-Some-clause-past g c = λ k h. c.split_by_shift-a.ensures.past k h ∙ c.in-Some.ensures.past k h ∙ c.fill_matrix.ensures.past k (omega arith)
