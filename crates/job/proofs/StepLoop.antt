-- The loop of steps: the weight of the worksheet bounds it, and where it stops no part is open.
-- Main statements: weight_small, none_open, before_more, settled_here.
use Rattle.std.proofs.Common.{◌≡◌, ℕ, suc, ◌+◌, ◌-◌, ◌*◌, ◌≤◌, true, false, leb, List, [], ◌∷◌, length, is_ok as isOk, Some, None, Ok, Err, Option, Result, refl, ap, subst, mul-le-mul_left, arith, le-leb}
use Rattle.std.proofs.lemmas.Bool.{cond_both}
use Rattle.field.specs.Checks.{unless}
use Rattle.field.specs.Ring.{RingMeaning}
use Rattle.field.specs.Field.{FieldMeaning, FieldLaws}
use Rattle.field.specs.Polynomial.{degree}
use Rattle.split.specs.Splitting.{scratch_size}
use Rattle.worksheet.specs.declared.fault.SheetFault.{SheetFault}
use Rattle.worksheet.specs.declared.fault.SheetFault.TheVariants.{NoOpenPart, ShortScratch}
use Rattle.worksheet.specs.Sheet.{PartMeaning, SheetMeaning, total_degree, next_open, is_open, Each, GoodPart, GoodSheet}
use Rattle.worksheet.specs.Faults.{scratch_refusal, step_refusal}
use Rattle.worksheet.specs.Calls.{Stepped}
use Rattle.worksheet.proofs.Measures.{asks, weight, weight_cons, weight_nil, degree_cons}
use Rattle.job.specs.Job.{most_scratch, Settles}
use Rattle.job.proofs.Settling.{enough}

module _ (m : RingMeaning) where
  asks_small : (p : PartMeaning) → GoodPart m p → asks p ≤ 2 * (degree p.codes * p.times)
  asks_small p h =
      let more = mul-le-mul_left (degree p.codes) h.times in
      cond_both (is_open p.mark) (2 * degree p.codes - 1) 0 (λ (x : ℕ). x ≤ 2 * (degree p.codes * p.times)) (λ _. omega (arith, more)) (λ _. omega arith)

  weight_degree : (ps : List PartMeaning) → Each (GoodPart m) ps → weight ps ≤ 2 * total_degree ps
  weight_degree [] h = omega (arith, weight_nil)
  weight_degree (p ∷ ps) h = omega (arith, weight_cons p ps, degree_cons p ps, asks_small p h.0, weight_degree ps h.1)

  pub weight_small : (s : SheetMeaning) → GoodSheet m s → weight s.parts ≤ 254
  weight_small s h = omega (arith, weight_degree s.parts h.parts, h.fits)

-- with so much scratch, a step is refused only if no part is open
pub none_open : (F : FieldMeaning) (L : FieldLaws F) (s : SheetMeaning) → GoodSheet F.ring s → (scratch : List ℕ) (e : SheetFault) → length scratch ≡ most_scratch → step_refusal s scratch ≡ Some e → e ≡ NoOpenPart
none_open F L s h scratch e l r = go (next_open s.parts) refl r
  where
    go : (o : Option PartMeaning) → next_open s.parts ≡ o → scratch_refusal (length scratch) o ≡ Some e → e ≡ NoOpenPart
    go None q k = cc
    go (Some p) q k =
        let fits : unless (leb (scratch_size p.codes) (length scratch)) ShortScratch ≡ None = ap (λ b. unless b ShortScratch) (le-leb (scratch_size p.codes) (length scratch) (omega (arith, enough F L s p h q))) in
        cc

module _ (F : FieldMeaning) where
  -- n steps lead from s to where the steps from u lead
  abbrev pub Before : SheetMeaning → List ℕ → ℕ → SheetMeaning → List ℕ → Type 0
  Before s scratch n u after = (k : ℕ) (t : SheetMeaning) → Settles F u after k t → Settles F s scratch (n + k) t

  pub before_none : (s : SheetMeaning) (scratch : List ℕ) → Before s scratch 0 s scratch
  before_none s scratch k t h = subst (λ (n : ℕ). Settles F s scratch n t) (omega arith) h

  pub before_more : (s u v : SheetMeaning) (scratch now after : List ℕ) (n : ℕ) (a : ℕ × ℕ × ℕ) → Before s scratch n u now → Stepped F u now (Ok a) v after → Before s scratch (n + 1) v after
  before_more s u v scratch now after n a h w k t r = subst (λ (x : ℕ). Settles F s scratch x t) (omega arith) (h (suc k) t (a, v, after, w, r))

  pub settled_here : (s u : SheetMeaning) (scratch now : List ℕ) (n : ℕ) → Before s scratch n u now → step_refusal u now ≡ Some NoOpenPart → Settles F s scratch n u
  settled_here s u scratch now n h e = subst (λ (x : ℕ). Settles F s scratch x u) (omega arith) (h 0 u (refl, (e, refl, refl)))

-- which result passes the test
pub is_ok : {A E : Type 0} (r : Result A E) → isOk r ≡ true → (a : A) × (r ≡ Ok a)
is_ok (Ok a) e = (a, refl)
is_ok (Err x) e = cc

pub is_err : {A E : Type 0} (r : Result A E) → isOk r ≡ false → (x : E) × (r ≡ Err x)
is_err (Ok a) e = cc
is_err (Err x) e = (x, refl)
