use Rattle.std.proofs.Common.{◌≡◌, ℕ, ◌-◌, List, None, Ok, Err, Option, Result, sym, refl, ap, ◌∙◌, subst, ap₂, arith, rules}
use Rattle.field.specs.declared.fault.FieldFault.{FieldFault}
use Rattle.field.specs.Field.{means}
use Rattle.field.specs.Faults.{prime_refusal}
use Rattle.field.specs.Residues.{prime_field}
use Rattle.job.specs.declared.fault.JobFault.{JobFault}
use Rattle.job.specs.Reading.{levels_from}
use Rattle.job.specs.Reader.{base_bytes}
use Rattle.job.specs.Outcome.{Outcome, answer_of}
use Rattle.job.specs.Job.{AfterLevel, Climbs, Gives}
use Rattle.job.proofs.ReadingBytes.{judged_from, base_from}
use Rattle.job.proofs.Beginning.{levels_refused, base_refused, gives_symbol, gives_prime}
use Rattle.job.proofs.Working.{answer_break, recorded, is_recorded, makes_refused, makes_taken, climbs_at}
use Rattle.job.proofs.work.start.Goals as goal

pub returns-in_err-more : goal.returns-in_err-more
returns-in_err-more c =
    let bytes : List ℕ = c.args.bytes.now in
    let new = c.new-reader.ensures in
    record { gives = answer_break (Gives bytes) c.from_residual.result _ c.from_residual.ensures.1 (levels_refused bytes _ (c.in_err-more.ensures.value ∙ judged_from c.new-reader.result bytes 0 new.bytes new.place 1 3)) }

pub returns-in_err-p : goal.returns-in_err-p
returns-in_err-p c =
    let bytes : List ℕ = c.args.bytes.now in
    let new = c.new-reader.ensures in
    let more = c.in_ok-more.ensures in
    let levels = more.value ∙ judged_from c.new-reader.result bytes 0 new.bytes new.place 1 3 in
    let base = c.in_err-p.ensures.value ∙ base_from c.judged.new.self bytes 1 (more.moved.same ∙ new.bytes) (omega (arith, more.moved.place, new.place)) in
    record { gives = answer_break (Gives bytes) c.from_residual-in_err-p.result _ c.from_residual-in_err-p.ensures.1 (base_refused bytes _ levels _ base) }

pub returns-in_err-base-in-Prime : goal.returns-in_err-base-in-Prime
returns-in_err-base-in-Prime c =
    let bytes : List ℕ = c.args.bytes.now in
    let new = c.new-reader.ensures in
    let more = c.in_ok-more.ensures in
    let place : c.judged.new.self.at ≡ 1 = omega (arith, more.moved.place, new.place) in
    let levels = more.value ∙ judged_from c.new-reader.result bytes 0 new.bytes new.place 1 3 in
    let base = c.in_ok-p.ensures.value ∙ base_from c.judged.new.self bytes 1 (more.moved.same ∙ new.bytes) place in
    let p : ℕ = c.in-Prime.p in
    let fault : JobFault = c.in_err-base-in-Prime.field-0.0 in
    let answer = sym c.in_err-base-in-Prime.was ∙ is_recorded _ c.at_field-level.result c.map_err.result (λ f e h. search rules) c.map_err.ensures.cases ∙ ap₂ recorded place c.at_field-level.ensures in
    let rest : Type 0 = Climbs (prime_field p) (levels_from bytes 3 (c.in_ok-more.field-0 - 1)) (Err fault) in
    record {
      gives = answer_break (Gives bytes) c.from_residual-in_err-base-in-Prime.result fault c.from_residual-in_err-base-in-Prime.ensures.1
          (gives_prime bytes _ levels p (ap Ok (sym c.in-Prime.is) ∙ base) (Err fault)
          (subst (λ (x : ℕ). AfterLevel 1 (prime_refusal x) rest (Err fault)) c.from.ensures (makes_refused 1 _ _ c.new.result c.new.ensures fault rest answer)));
    }

pub returns-in_ok-base-in-Prime : goal.returns-in_ok-base-in-Prime
returns-in_ok-base-in-Prime c =
    let bytes : List ℕ = c.args.bytes.now in
    let new = c.new-reader.ensures in
    let more = c.in_ok-more.ensures in
    let place : c.judged.new.self.at ≡ 1 = omega (arith, more.moved.place, new.place) in
    let levels = more.value ∙ judged_from c.new-reader.result bytes 0 new.bytes new.place 1 3 in
    let base = c.in_ok-p.ensures.value ∙ base_from c.judged.new.self bytes 1 (more.moved.same ∙ new.bytes) place in
    let p : ℕ = c.in-Prime.p in
    let answer = sym c.in_ok-base-in-Prime.was ∙ is_recorded _ c.at_field-level.result c.map_err.result (λ f e h. search rules) c.map_err.ensures.cases ∙ ap₂ recorded place c.at_field-level.ensures in
    let made = makes_taken 1 _ _ c.new.result c.new.ensures c.in_ok-base-in-Prime.base answer in
    let none : prime_refusal p ≡ None = ap prime_refusal (sym c.from.ensures) ∙ made.0 in
    let moved = c.in_ok-p.ensures.moved in
    let two : base_bytes c.in_ok-p.field-0 ≡ 2 = ap base_bytes c.in-Prime.is in
    let r : Result Outcome JobFault = answer_of c.climb.result in
    let rest = climbs_at c.base.new.self bytes 3 _ r (ap₂ means made.1.1 made.1.2 ∙ ap prime_field c.from.ensures) (moved.same ∙ more.moved.same ∙ new.bytes) (omega (arith, moved.place)) c.climb.ensures in
    record {
      gives = gives_prime bytes _ levels p (ap Ok (sym c.in-Prime.is) ∙ base) r
          (subst (λ (o : Option FieldFault). AfterLevel 1 o (Climbs (prime_field p) (levels_from bytes 3 (c.in_ok-more.field-0 - 1)) r) r) (sym none) rest);
    }

pub returns-in-Symbols : goal.returns-in-Symbols
returns-in-Symbols c =
    let bytes : List ℕ = c.args.bytes.now in
    let new = c.new-reader.ensures in
    let more = c.in_ok-more.ensures in
    let levels = more.value ∙ judged_from c.new-reader.result bytes 0 new.bytes new.place 1 3 in
    let place : c.judged.new.self.at ≡ 1 = omega (arith, more.moved.place, new.place) in
    let base = c.in_ok-p.ensures.value ∙ base_from c.judged.new.self bytes 1 (more.moved.same ∙ new.bytes) place in
    let moved = c.in_ok-p.ensures.moved in
    let one : base_bytes c.in_ok-p.field-0 ≡ 1 = ap base_bytes c.in-Symbols.is in
    let r : Result Outcome JobFault = answer_of c.climb-in-Symbols.result in
    record {
      gives = gives_symbol bytes _ levels (ap Ok (sym c.in-Symbols.is) ∙ base) r
          (climbs_at c.base.new.self bytes 2 _ r refl (moved.same ∙ more.moved.same ∙ new.bytes) (omega (arith, moved.place)) c.climb-in-Symbols.ensures);
    }
