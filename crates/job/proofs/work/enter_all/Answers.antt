use Rattle.std.proofs.Common.{◌≡◌, ℕ, suc, ◌-◌, Err, ◌∙◌, subst, arith}
use Rattle.field.specs.Field.{FieldMeaning, means}
use Rattle.worksheet.specs.Sheet.{SheetMeaning}
use Rattle.worksheet.specs.Meaning.{sheet_of}
use Rattle.job.specs.declared.fault.JobFault.{JobFault}
use Rattle.job.specs.Reading.{Polynomials, polynomials_from}
use Rattle.job.specs.Reader.{bytes_of}
use Rattle.job.specs.Job.{Works}
use Rattle.job.proofs.Working.{leads_break, none_left}
use Rattle.job.proofs.work.enter_all.Goals as goal

pub returns-in_err-enter_next : goal.returns-in_err-enter_next
returns-in_err-enter_next g c =
    let inv = c.loop.invariant in
    let s : SheetMeaning = sheet_of c.loop.sheet in
    let meaning : g.row.F.Denot → FieldMeaning = λ x. means (g.F.Ring.meaning x) (g.F.Field.extras x) in
    let left : ℕ → Polynomials = polynomials_from (bytes_of c.loop.reader) c.loop.reader.at in
    let n : ℕ = c.args.count - c.loop.counter in
    let one_more : suc (n - 1) ≡ n = omega arith in
    let fault : JobFault = c.in_err-enter_next.field-0.0 in
    let refused : Works (meaning c.loop.sheet.field) s (left (suc (n - 1))) (Err fault) = c.in_err-enter_next.ensures.leads (n - 1) in
    record {
      leads = leads_break _ _ c.from_residual.result fault c.from_residual.ensures.1
          (inv.2 (Err fault) (subst (λ (x : g.row.F.Denot). Works (meaning x) s (left n) (Err fault)) inv.1 (subst (λ (x : ℕ). Works (meaning c.loop.sheet.field) s (left x) (Err fault)) one_more refused)));
      made = c.enter_next.ensures.made;
      same = c.enter_next.ensures.same ∙ inv.1;
    }

pub returns : goal.returns
returns g c =
    let w = c.args.sheet.now in
    let F : FieldMeaning = means (g.F.Ring.meaning w.field) (g.F.Field.extras w.field) in
    let t : SheetMeaning = sheet_of c.loop.sheet in
    record {
      leads = λ r h. c.loop.invariant.2 r (subst (λ (l : Polynomials). Works F t l r) (none_left _ _ _ (omega arith)) h);
      made = c.loop.invariant.0;
      same = c.loop.invariant.1;
    }
