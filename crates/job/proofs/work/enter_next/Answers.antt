use Rattle.std.proofs.Common.{◌≡◌, ℕ, ◌+◌, ◌*◌, List, Err, Ok, sym, ◌∙◌, subst, arith, rules}
use Rattle.field.specs.Field.{FieldMeaning, means}
use Rattle.worksheet.specs.Sheet.{SheetMeaning}
use Rattle.worksheet.specs.Meaning.{sheet_of}
use Rattle.job.specs.Reading.{Polynomials}
use Rattle.job.specs.Job.{Works}
use Rattle.job.proofs.Working.{leads_break, is_recorded, polynomial_ended, entry_leads, polynomials_at}
use Rattle.job.proofs.work.enter_next.Goals as goal

pub returns-in_err-n-clause-leads : goal.returns-in_err-n-clause-leads
returns-in_err-n-clause-leads g c =
    let w = c.args.sheet.now in
    let F : FieldMeaning = means (g.F.Ring.meaning w.field) (g.F.Field.extras w.field) in
    λ n. leads_break _ _ c.from_residual.result _ c.from_residual.ensures.1 (polynomial_ended F (sheet_of w) c.args.reader.now.bytes.now c.args.reader.now.at n _ c.in_err-n.ensures.value)

pub returns-in_err-map_err-clause-leads : goal.returns-in_err-map_err-clause-leads
returns-in_err-map_err-clause-leads g c =
    let w = c.args.sheet.now in
    let F : FieldMeaning = means (g.F.Ring.meaning w.field) (g.F.Field.extras w.field) in
    let bytes : List ℕ = c.args.reader.now.bytes.now in
    let i : ℕ = c.args.reader.now.at in
    let read = c.in_ok-n.ensures in
    let answer = sym c.in_err-map_err.was ∙ is_recorded i c.enter.result c.map_err.result (λ f e h. search rules) c.map_err.ensures.cases in
    λ n. leads_break _ _ c.from_residual-in_err-map_err.result _ c.from_residual-in_err-map_err.ensures.1
    (entry_leads F (sheet_of w) bytes i n c.in_ok-n.n read.value (sheet_of c.enter.new.self) c.enter.result read.codes c.enter.ensures.entered (Err _) answer)

pub returns-clause-leads : goal.returns-clause-leads
returns-clause-leads g c =
    let w = c.args.sheet.now in
    let F : FieldMeaning = means (g.F.Ring.meaning w.field) (g.F.Field.extras w.field) in
    let bytes : List ℕ = c.args.reader.now.bytes.now in
    let i : ℕ = c.args.reader.now.at in
    let k : ℕ = c.in_ok-n.n in
    let read = c.in_ok-n.ensures in
    let t : SheetMeaning = sheet_of c.enter.new.self in
    let place : c.polynomial.new.self.at ≡ i + 1 + 2 * k = omega (arith, read.moved.place) in
    let answer = sym c.in_ok-map_err.was ∙ is_recorded i c.enter.result c.map_err.result (λ f e h. search rules) c.map_err.ensures.cases in
    λ n r h. entry_leads F (sheet_of w) bytes i n k read.value t c.enter.result read.codes c.enter.ensures.entered (Ok _) answer r
    (subst (λ (l : Polynomials). Works F t l r) (polynomials_at c.polynomial.new.self bytes _ n read.moved.same place) h)
