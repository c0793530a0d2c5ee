use Rattle.std.proofs.Common.{◌≡◌, ℕ, ◌+◌, List, map, replicate, Ok, Err, vec_items, Result, sym, refl, ap, ◌∙◌, subst, ap₂}
use Rattle.field.specs.Field.{FieldMeaning, means}
use Rattle.worksheet.specs.Sheet.{PartMeaning, SheetMeaning}
use Rattle.worksheet.specs.Meaning.{part_of, sheet_of}
use Rattle.job.specs.declared.fault.JobFault.{JobFault}
use Rattle.job.specs.Reading.{Polynomials, end, levels_from, polynomials_from}
use Rattle.job.specs.Reader.{bytes_of}
use Rattle.job.specs.Outcome.{Outcome, outcome}
use Rattle.job.specs.Job.{most_scratch, Settles, Works, Climbs}
use Rattle.job.proofs.Working.{answer_break, count_stopped, count_read, works_at}
use Rattle.job.proofs.work.work.Goals as goal

pub returns-in_err-count : goal.returns-in_err-count
returns-in_err-count g c =
    let F : FieldMeaning = means (g.F.Ring.meaning c.args.field) (g.F.Field.extras c.args.field) in
    let bytes : List ℕ = c.args.reader.bytes.now in
    let i : ℕ = c.args.reader.at in
    answer_break (Climbs F (levels_from bytes i 0)) c.from_residual.result _ c.from_residual.ensures.1 (count_stopped F bytes i _ c.in_err-count.ensures.value)

pub returns-in_err-enter_all : goal.returns-in_err-enter_all
returns-in_err-enter_all g c =
    let meaning : g.row.F.Denot → FieldMeaning = λ x. means (g.F.Ring.meaning x) (g.F.Field.extras x) in
    let F : FieldMeaning = meaning c.args.field in
    let bytes : List ℕ = c.args.reader.bytes.now in
    let i : ℕ = c.args.reader.at in
    let read = c.in_ok-count.ensures in
    let new = c.new-sheet.ensures.empty in
    answer_break (Climbs F (levels_from bytes i 0)) c.from_residual-in_err-enter_all.result _ c.from_residual-in_err-enter_all.ensures.1
    (count_read F bytes i c.in_ok-count.count read.value (Err _) (works_at c.judged.new.self bytes (i + 1) _ (Err _) (ap meaning new.0) new.1 read.moved.same read.moved.place c.in_err-enter_all.ensures.leads))

pub returns-in_err-finish : goal.returns-in_err-finish
returns-in_err-finish g c =
    let meaning : g.row.F.Denot → FieldMeaning = λ x. means (g.F.Ring.meaning x) (g.F.Field.extras x) in
    let F : FieldMeaning = meaning c.args.field in
    let bytes : List ℕ = c.args.reader.bytes.now in
    let i : ℕ = c.args.reader.at in
    let read = c.in_ok-count.ensures in
    let new = c.new-sheet.ensures.empty in
    let fault : JobFault = c.in_err-finish.field-0.0 in
    let ended : Works (meaning c.new-sheet.result.field) (sheet_of c.new-sheet.result) (polynomials_from (bytes_of c.judged.new.self) c.judged.new.self.at c.in_ok-count.count) (Err fault) =
    c.in_ok-enter_all.ensures.leads (Err fault) (subst (λ (l : Polynomials). Works (meaning c.new-sheet.result.field) (sheet_of c.enter_all.new.sheet) l (Err fault)) (sym c.in_err-finish.ensures.left) refl) in
    answer_break (Climbs F (levels_from bytes i 0)) c.from_residual-in_err-finish.result fault c.from_residual-in_err-finish.ensures.1
    (count_read F bytes i c.in_ok-count.count read.value (Err fault) (works_at c.judged.new.self bytes (i + 1) _ (Err fault) (ap meaning new.0) new.1 read.moved.same read.moved.place ended))

pub returns : goal.returns
returns g c =
    let meaning : g.row.F.Denot → FieldMeaning = λ x. means (g.F.Ring.meaning x) (g.F.Field.extras x) in
    let F : FieldMeaning = meaning c.args.field in
    let bytes : List ℕ = c.args.reader.bytes.now in
    let i : ℕ = c.args.reader.at in
    let read = c.in_ok-count.ensures in
    let new = c.new-sheet.ensures.empty in
    let F₀ : FieldMeaning = meaning c.new-sheet.result.field in
    let s : SheetMeaning = sheet_of c.enter_all.new.sheet in
    let t : SheetMeaning = sheet_of c.settle-steps.new.sheet in
    let n : ℕ = c.settle-steps.result in
    let same = c.in_ok-enter_all.ensures.same in
    let settles : Settles F₀ s (replicate most_scratch 0) n t = subst (λ (x : g.row.F.Denot). Settles (meaning x) s (replicate most_scratch 0) n t) same c.settle-steps.ensures.settles in
    let order : c.order-order.result ≡ F₀.ring.order = c.order-order.ensures ∙ ap (λ (x : g.row.F.Denot). (g.F.Ring.meaning x).order) (c.settle-steps.ensures.same ∙ same) in
    let answer : ℕ → ℕ → List PartMeaning → Result Outcome JobFault = λ o u ps. Ok (record { order = o; unit = u; steps = n; parts = ps }) in
    let r : Result Outcome JobFault = Ok (outcome F₀.ring t n) in
    let parts : List PartMeaning = map part_of (vec_items c.into_parts.result) in
    let is : answer c.order-order.result c.unit-unit.result parts ≡ r = ap₂ (λ (o u : ℕ). answer o u parts) order c.unit-unit.ensures ∙ ap (answer F₀.ring.order t.unit) c.into_parts.ensures in
    let worked : Works F₀ s end r = (n, t, settles, refl) in
    let whole : Works F₀ (sheet_of c.new-sheet.result) (polynomials_from (bytes_of c.judged.new.self) c.judged.new.self.at c.in_ok-count.count) r =
    c.in_ok-enter_all.ensures.leads r (subst (λ (l : Polynomials). Works F₀ s l r) (sym c.in_ok-finish.ensures.done) worked) in
    subst (Climbs F (levels_from bytes i 0)) (sym is) (count_read F bytes i c.in_ok-count.count read.value r (works_at c.judged.new.self bytes (i + 1) _ r (ap meaning new.0) new.1 read.moved.same read.moved.place whole))
