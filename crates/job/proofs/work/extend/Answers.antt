use Rattle.std.proofs.Common.{ℕ, suc, ◌+◌, List, sym, ap, ◌∙◌, subst, rules}
use Rattle.field.specs.Field.{FieldMeaning, means}
use Rattle.field.specs.Quotient.{extension_field}
use Rattle.job.specs.Reading.{Levels, byte, word, levels_from}
use Rattle.job.specs.Job.{Climbs}
use Rattle.job.specs.Leading.{Leads}
use Rattle.job.proofs.Working.{leads_break, recorded, is_recorded, level_stopped, level_leads, level_makes, level_is, levels_at}
use Rattle.job.proofs.work.extend.Goals as goal

pub returns-in_err-k-clause-leads : goal.returns-in_err-k-clause-leads
returns-in_err-k-clause-leads g c =
    let F : FieldMeaning = means (g.F.Ring.meaning c.args.base) (g.F.Field.extras c.args.base) in
    λ n. leads_break _ _ c.from_residual.result _ c.from_residual.ensures.1 (level_stopped F c.args.reader.now.bytes.now c.args.reader.now.at n _ c.in_err-k.ensures.value)

pub returns-clause-leads : goal.returns-clause-leads
returns-clause-leads g c =
    let F : FieldMeaning = means (g.F.Ring.meaning c.args.base) (g.F.Field.extras c.args.base) in
    let bytes : List ℕ = c.args.reader.now.bytes.now in
    let i : ℕ = c.args.reader.now.at in
    let read = c.in_ok-k.ensures in
    let is = level_is bytes i _ read.value in
    let answer = is_recorded i c.at_field-level.result c.map_err.result (λ f e h. search rules) c.map_err.ensures.cases ∙ ap (recorded i) c.at_field-level.ensures in
    let next : FieldMeaning = extension_field F (byte bytes (i + 1)) (word bytes (i + 2)) in
    λ n. subst (λ (l : Levels). Leads (Climbs F (levels_from bytes i (suc n))) (Climbs next l) c.map_err.result) (sym (levels_at c.extension.new.self bytes (i + 4) n read.moved.same read.moved.place))
    (level_leads F bytes i n read.value _ c.new.result c.map_err.result (c.from.ensures ∙ ap (λ (a : ℕ × ℕ). a.0) is) (c.from-2.ensures ∙ ap (λ (a : ℕ × ℕ). a.1) is) c.new.ensures.makes answer)

pub returns-clause-makes : goal.returns-clause-makes
returns-clause-makes g c =
    let F : FieldMeaning = means (g.F.Ring.meaning c.args.base) (g.F.Field.extras c.args.base) in
    let bytes : List ℕ = c.args.reader.now.bytes.now in
    let i : ℕ = c.args.reader.now.at in
    let is = level_is bytes i _ c.in_ok-k.ensures.value in
    let k = c.from.ensures ∙ ap (λ (a : ℕ × ℕ). a.0) is in
    let m = c.from-2.ensures ∙ ap (λ (a : ℕ × ℕ). a.1) is in
    let answer = is_recorded i c.at_field-level.result c.map_err.result (λ f e h. search rules) c.map_err.ensures.cases ∙ ap (recorded i) c.at_field-level.ensures in
    level_makes _ _ _ F i c.new.result c.map_err.result k m c.new.ensures.makes answer
