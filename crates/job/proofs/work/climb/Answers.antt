use Rattle.std.proofs.Common.{◌≡◌, ℕ, suc, ◌-◌, List, Err, Result, subst, ap₂, arith}
use Rattle.field.specs.Field.{FieldMeaning, means}
use Rattle.job.specs.declared.fault.JobFault.{JobFault}
use Rattle.job.specs.Reading.{levels_from}
use Rattle.job.specs.Reader.{levels_left}
use Rattle.job.specs.Outcome.{Outcome, answer_of}
use Rattle.job.specs.Job.{Climbs}
use Rattle.job.proofs.Working.{answer_break, over_equal}
use Rattle.job.proofs.work.climb.Goals as goal

pub returns-in_err-first : goal.returns-in_err-first
returns-in_err-first g c =
    let F : FieldMeaning = means (g.F.Ring.meaning c.args.base) (g.F.Field.extras c.args.base) in
    let bytes : List ℕ = c.args.reader.bytes.now in
    let i : ℕ = c.args.reader.at in
    let more : ℕ = c.args.more in
    let one_more : suc (more - 1) ≡ more = omega (arith, c.if-more-eq0.false) in
    let fault : JobFault = c.in_err-first.field-0.0 in
    answer_break (Climbs F (levels_from bytes i more)) c.from_residual.result fault c.from_residual.ensures.1
    (subst (λ (x : ℕ). Climbs F (levels_from bytes i x) (Err fault)) one_more (c.in_err-first.ensures.leads (more - 1)))

pub returns-in_err-second : goal.returns-in_err-second
returns-in_err-second g c =
    let F : FieldMeaning = means (g.F.Ring.meaning c.args.base) (g.F.Field.extras c.args.base) in
    let bytes : List ℕ = c.args.reader.bytes.now in
    let i : ℕ = c.args.reader.at in
    let more : ℕ = c.args.more in
    let two : 2 ≡ more = omega (arith, c.if-more-eq0.false, c.if-more-eq1.false) in
    let first = c.in_ok-first.ensures in
    let fault : JobFault = c.in_err-second.field-0.0 in
    answer_break (Climbs F (levels_from bytes i more)) c.from_residual-in_err-second.result fault c.from_residual-in_err-second.ensures.1
    (subst (λ (x : ℕ). Climbs F (levels_from bytes i x) (Err fault)) two
    (first.leads 1 (Err fault) (over_equal (levels_left c.extend.new.reader 1) (Err fault) (ap₂ means first.makes.1 first.makes.2) (c.in_err-second.ensures.leads 0))))

pub returns : goal.returns
returns g c =
    let F : FieldMeaning = means (g.F.Ring.meaning c.args.base) (g.F.Field.extras c.args.base) in
    let bytes : List ℕ = c.args.reader.bytes.now in
    let i : ℕ = c.args.reader.at in
    let two : 2 ≡ c.args.more = omega (arith, c.if-more-eq0.false, c.if-more-eq1.false) in
    let first = c.in_ok-first.ensures in
    let second = c.in_ok-second.ensures in
    let r : Result Outcome JobFault = answer_of c.work-2.result in
    subst (λ (x : ℕ). Climbs F (levels_from bytes i x) r) two
    (first.leads 1 r (over_equal (levels_left c.extend.new.reader 1) r (ap₂ means first.makes.1 first.makes.2)
    (second.leads 0 r (over_equal (levels_left c.extend-2.new.reader 0) r (ap₂ means second.makes.1 second.makes.2) c.work-2.ensures))))
