-- A step on a worksheet has one outcome, and one only: what `Stepped` says can be met, in one way.
-- Main statement: one-step.
use Rattle.std.proofs.Common.{◌≡◌, ℕ, List, ◌∷◌, Some, None, Ok, Err, Option, Result, sym, refl, ap, ◌∙◌, subst, ap₂}
use Rattle.std.proofs.lemmas.Option.{same_Some}
use Rattle.field.specs.Field.{FieldMeaning, FieldLaws}
use Rattle.field.specs.Ranges.{some_none}
use Rattle.split.specs.Splitting.{Splitting, SplitsInto, answer, wiped}
use Rattle.split.proofs.OneSplitting.{one_splitting}
use Rattle.worksheet.specs.declared.fault.SheetFault.{SheetFault}
use Rattle.worksheet.specs.Sheet.{PartMeaning, SheetMeaning, next_open, Each, GoodPart, GoodSheet}
use Rattle.worksheet.specs.Faults.{step_refusal, scratch_refusal}
use Rattle.worksheet.specs.Calls.{replaced, Stepped, scratch_of}
use Rattle.worksheet.specs.Law.{OneStep}
use Rattle.worksheet.proofs.EachOf.{each_back}
use Rattle.worksheet.proofs.PartLists.{Found, found_open}

-- where a step is not refused, a part is open
some_open : (n : ℕ) (o : Option PartMeaning) → scratch_refusal n o ≡ None → (p : PartMeaning) × (o ≡ Some p)
some_open n None e = absurd (some_none e)
some_open n (Some p) e = (p, refl)

same_fault : (a b : SheetFault) → Some a ≡ Some b → a ≡ b
same_fault a b e = ap (λ (o : Option SheetFault). elim o [ Some x ↦ x | None ↦ a ]) e

sheet_path : (s t : SheetMeaning) → s.unit ≡ t.unit → s.parts ≡ t.parts → s ≡ t
sheet_path s t p q = λ i. record { unit = p i; parts = q i }

abbrev Answer : Type 0
Answer = Result (ℕ × ℕ × ℕ) SheetFault

module _ (F : FieldMeaning) (L : FieldLaws F) (s : SheetMeaning) (h : GoodSheet F.ring s) (scratch : List ℕ) where
  -- an outcome, and that it is the only one
  abbrev Outcome : Type 0
  Outcome = (r : Answer) × (t : SheetMeaning) × (after : List ℕ) × Stepped F s scratch r t after
      × ((r' : Answer) (t' : SheetMeaning) (after' : List ℕ) → Stepped F s scratch r' t' after' → (r' ≡ r) × (t' ≡ t) × (after' ≡ after))

  -- the part that a step works on is good
  good_open : (p : PartMeaning) → next_open s.parts ≡ Some p → GoodPart F.ring p
  good_open p e = let v : Found p s.parts = (found_open s.parts p e).0 in
      (each_back (GoodPart F.ring) v.front (p ∷ v.back) (subst (Each (GoodPart F.ring)) v.whole h.parts)).0

  refused : (e : SheetFault) → step_refusal s scratch ≡ Some e → Outcome
  refused e n = (Err e, s, scratch, (n, refl, refl), only)
    where
      only : (r : Answer) (t : SheetMeaning) (after : List ℕ) → Stepped F s scratch r t after → (r ≡ Err e) × (t ≡ s) × (after ≡ scratch)
      only (Ok a) t after w = absurd (some_none (sym n ∙ w.0))
      only (Err f) t after w = (ap {B = Answer} Err (same_fault f e (sym w.0 ∙ n)), w.1, w.2)

  accepted : step_refusal s scratch ≡ None → (p : PartMeaning) → next_open s.parts ≡ Some p →
      (x : Splitting) × SplitsInto F p.codes x × ((y : Splitting) → SplitsInto F p.codes y → y ≡ x) → Outcome
  accepted n p e (x, k, one) = (
    Ok (answer F p.codes x),
    record { unit = s.unit; parts = replaced F p x s.parts },
    wiped (scratch_of (next_open s.parts)) scratch,
    (n, record { part = p; next = e; splitting = x; splits = k; answers = refl; unit = refl; parts = refl }, refl),
    only,
  )
    where
      only : (r : Answer) (t : SheetMeaning) (after : List ℕ) → Stepped F s scratch r t after →
          (r ≡ Ok (answer F p.codes x)) × (t ≡ record { unit = s.unit; parts = replaced F p x s.parts }) × (after ≡ wiped (scratch_of (next_open s.parts)) scratch)
      only (Err f) t after w = absurd (some_none (sym w.0 ∙ n))
      only (Ok a) t after w = (
        ap {B = Answer} Ok (w.1.answers ∙ ap₂ (λ (q : PartMeaning) (y : Splitting). answer F q.codes y) part splitting),
        sheet_path t _ w.1.unit (w.1.parts ∙ ap₂ (λ (q : PartMeaning) (y : Splitting). replaced F q y s.parts) part splitting),
        w.2,
      )
        where
          part : w.1.part ≡ p
          part = same_Some w.1.part p (sym w.1.next ∙ e)

          splitting : w.1.splitting ≡ x
          splitting = one w.1.splitting (subst (λ (q : PartMeaning). SplitsInto F q.codes w.1.splitting) part w.1.splits)

  outcome : (o : Option SheetFault) → step_refusal s scratch ≡ o → Outcome
  outcome (Some e) n = refused e n
  outcome None n =
      let (p, e) = some_open _ (next_open s.parts) n in
      let g = good_open p e in
      accepted n p e (one_splitting F L p.codes g.canonical g.monic g.positive)

pub one_step : OneStep
one_step F L s h scratch = outcome F L s h scratch (step_refusal s scratch) refl
