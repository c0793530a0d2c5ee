use Rattle.std.proofs.Common.{◌≡◌, ℕ, ◌<◌, List, replicate, Some, Ok, Err, Result, sym, refl, ap, ◌∙◌, subst, arith}
use Rattle.std.proofs.lemmas.List.{length-replicate}
use Rattle.field.specs.Field.{FieldMeaning, means}
use Rattle.split.specs.declared.kind.Kind.{Kind}
use Rattle.split.specs.Kinds.{numbered}
use Rattle.worksheet.specs.declared.fault.SheetFault.{SheetFault}
use Rattle.worksheet.specs.declared.fault.SheetFault.TheVariants.{NoOpenPart}
use Rattle.worksheet.specs.Sheet.{SheetMeaning}
use Rattle.worksheet.specs.Faults.{step_refusal}
use Rattle.worksheet.specs.Calls.{Stepped, told}
use Rattle.worksheet.specs.Meaning.{sheet_of}
use Rattle.worksheet.proofs.Measures.{weight}
use Rattle.job.specs.Job.{most_scratch, Settles}
use Rattle.job.proofs.Settling.{lighter}
use Rattle.job.proofs.StepLoop.{weight_small, none_open, before_none, before_more, settled_here, is_ok, is_err}
use Rattle.job.proofs.work.settle.Given as given
use Rattle.job.proofs.work.settle.Goals as goal

pub loop-scratch-init : goal.loop-scratch-init
loop-scratch-init g c =
    let w = c.args.sheet.now in
    let F : FieldMeaning = means (g.F.Ring.meaning w.field) (g.F.Field.extras w.field) in
    (c.requires, refl, length-replicate {A = ℕ} 32258 0, omega arith, before_none F (sheet_of w) _)

pub overflow_add-steps : goal.overflow_add-steps
overflow_add-steps g c =
    let w = c.args.sheet.now in
    omega (arith, weight_small (g.F.Ring.meaning w.field) (sheet_of w) c.requires.good, c.loop-scratch.invariant.3)

-- what is known after a step that is accepted
accepted : (g : given.Over) (c : goal.In-loop-scratch g) →
    (a : ℕ × ℕ × ℕ) × Stepped (means (g.F.Ring.meaning c.loop-scratch.sheet.field) (g.F.Field.extras c.loop-scratch.sheet.field)) (sheet_of c.loop-scratch.sheet) c.loop-scratch.scratch (Ok a) (sheet_of c.step.new.self) c.step.new.scratch
accepted g c =
    let w = c.loop-scratch.sheet in
    let F : FieldMeaning = means (g.F.Ring.meaning w.field) (g.F.Field.extras w.field) in
    let ok = is_ok c.step.result (sym c.loop-scratch-test.ensures.value) in
    (numbered ok.0, subst (λ (r : Result (Kind × ℕ × ℕ) SheetFault). Stepped F (sheet_of w) c.loop-scratch.scratch (told r) (sheet_of c.step.new.self) c.step.new.scratch) ok.1 c.step.ensures.stepped)

less : (g : given.Over) (c : goal.In-loop-scratch g) → weight (sheet_of c.step.new.self).parts < weight (sheet_of c.loop-scratch.sheet).parts
less g c =
    let w = c.loop-scratch.sheet in
    let step = accepted g c in
    lighter (means (g.F.Ring.meaning w.field) (g.F.Field.extras w.field)) c.loop-scratch.invariant.0.laws (sheet_of w) step.0 (sheet_of c.step.new.self) c.loop-scratch.invariant.0.good step.1.1

pub loop-scratch-smaller : goal.loop-scratch-smaller
loop-scratch-smaller g c = less g c

pub loop-scratch-preserved : goal.loop-scratch-preserved
loop-scratch-preserved g c =
    let inv = c.loop-scratch.invariant in
    let step = accepted g c in
    let s : SheetMeaning = sheet_of c.loop-scratch.sheet in
    let t : SheetMeaning = sheet_of c.step.new.self in
    let meaning : g.row.F.Denot → FieldMeaning = λ x. means (g.F.Ring.meaning x) (g.F.Field.extras x) in (
      c.step.ensures.made,
      c.step.ensures.same ∙ inv.1,
      c.step.auto.scratch ∙ inv.2,
      omega (arith, less g c, inv.3),
      before_more (meaning c.args.sheet.now.field) (sheet_of c.args.sheet.now) s t _ c.loop-scratch.scratch c.step.new.scratch c.loop-scratch.steps step.0 inv.4
          (subst (λ (x : g.row.F.Denot). Stepped (meaning x) s c.loop-scratch.scratch (Ok step.0) t c.step.new.scratch) inv.1 step.1),
    )

pub returns : goal.returns
returns g c =
    let inv = c.loop-scratch.invariant in
    let w = c.loop-scratch.sheet in
    let F : FieldMeaning = means (g.F.Ring.meaning w.field) (g.F.Field.extras w.field) in
    let F₀ : FieldMeaning = means (g.F.Ring.meaning c.args.sheet.now.field) (g.F.Field.extras c.args.sheet.now.field) in
    let scratch : List ℕ = c.loop-scratch.scratch in
    let t : SheetMeaning = sheet_of c.step.new.self in
    let err = is_err c.step.result (sym c.loop-scratch-test.ensures.value) in
    let refused : Stepped F (sheet_of w) scratch (Err err.0) t c.step.new.scratch =
    subst (λ (r : Result (Kind × ℕ × ℕ) SheetFault). Stepped F (sheet_of w) scratch (told r) t c.step.new.scratch) err.1 c.step.ensures.stepped in
    let none : step_refusal (sheet_of w) scratch ≡ Some NoOpenPart = refused.0 ∙ ap Some (none_open F inv.0.laws (sheet_of w) inv.0.good scratch err.0 inv.2 refused.0) in
    record {
      settles = subst (λ (x : SheetMeaning). Settles F₀ (sheet_of c.args.sheet.now) (replicate most_scratch 0) c.loop-scratch.steps x) (sym refused.1)
          (settled_here F₀ (sheet_of c.args.sheet.now) (sheet_of w) (replicate most_scratch 0) scratch c.loop-scratch.steps inv.4 none);
      made = c.step.ensures.made;
      same = c.step.ensures.same ∙ inv.1;
    }
