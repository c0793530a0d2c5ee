-- From every good worksheet, steps lead in one way to one on which no part is open.
-- Main statements: settling; wiped_length, no_open, lighter, enough.
use Rattle.std.proofs.Common.{◌≡◌, ℕ, zero, suc, ◌+◌, ◌*◌, ◌<◌, ◌≤◌, Bool, true, false, cond, List, [], ◌∷◌, length, drop, replicate, Some, None, Ok, Err, Option, Result, sym, refl, ap, ◌∙◌, subst, mul-le-mul, arith}
use Rattle.std.proofs.lemmas.List.{length-append, length-drop, length-replicate}
use Rattle.field.specs.Field.{FieldMeaning, FieldLaws}
use Rattle.field.specs.Polynomial.{degree}
use Rattle.field.specs.Ranges.{some_none}
use Rattle.split.specs.Splitting.{scratch_size, wiped}
use Rattle.worksheet.specs.declared.fault.SheetFault.{SheetFault}
use Rattle.worksheet.specs.Sheet.{PartMeaning, SheetMeaning, is_open, next_open, open_count, most_degree, Each, GoodSheet}
use Rattle.worksheet.specs.Faults.{step_refusal}
use Rattle.worksheet.specs.Calls.{Stepped, Replaces, scratch_of}
use Rattle.worksheet.specs.Law.{most_steps, step}
use Rattle.worksheet.proofs.EachOf.{each_back}
use Rattle.worksheet.proofs.PartLists.{Found, found_open}
use Rattle.worksheet.proofs.Measures.{weight}
use Rattle.worksheet.proofs.Limits.{SmallPart, small_parts}
use Rattle.worksheet.proofs.Keeping.{Done, Kept}
use Rattle.worksheet.proofs.Stepping.{step_kept}
use Rattle.worksheet.proofs.Refusals.{step_none, step_fits}
use Rattle.worksheet.proofs.Runs.{call_good}
use Rattle.worksheet.proofs.Answering.{one_step}
use Rattle.job.specs.Job.{most_scratch, Settles}

-- a scratch that is wiped does not get shorter
pub wiped_length : (n : ℕ) (scratch : List ℕ) → length scratch ≤ length (wiped n scratch)
wiped_length n scratch = omega (arith, length-append (replicate n 0) (drop n scratch), length-replicate {A = ℕ} n 0, length-drop n scratch)

nothing_asked : most_steps [] ≡ 0
unfolding most_steps
nothing_asked = refl

-- where no part is first among the open ones, none is open
pub no_open : (ps : List PartMeaning) → next_open ps ≡ None → open_count ps ≡ 0
unfolding next_open open_count
no_open [] e = refl
no_open (p ∷ ps) e = go (is_open p.mark) e (no_open ps)
  where
    go : (b : Bool) → cond b (Some p) (next_open ps) ≡ None → (next_open ps ≡ None → open_count ps ≡ 0) → cond b 1 0 + open_count ps ≡ 0
    go true n rec = absurd (some_none n)
    go false n rec = omega (arith, rec n)

module _ (F : FieldMeaning) (L : FieldLaws F) where
  -- an accepted step makes the worksheet lighter
  pub lighter : (s : SheetMeaning) (a : ℕ × ℕ × ℕ) (t : SheetMeaning) → GoodSheet F.ring s → Replaces F s a t → weight t.parts < weight s.parts
  lighter s a t h w = omega (arith, kept.few, nothing_asked)
    where
      all_known : (ps : List PartMeaning) → Each (Done F L (λ _. Unit {0})) ps
      all_known [] = tt
      all_known (p ∷ ps) = ((λ _. tt), all_known ps)

      kept : Kept F L (λ _. Unit {0}) [] [] 1 s t
      kept = step_kept F L (λ _. Unit {0}) (λ f i. tt) s a t (record { good = h; done = all_known s.parts }) w

  -- the scratch of a job suffices for every open part
  pub enough : (s : SheetMeaning) (p : PartMeaning) → GoodSheet F.ring s → next_open s.parts ≡ Some p → scratch_size p.codes ≤ most_scratch
  enough s p h e =
      let v : Found p s.parts = (found_open s.parts p e).0 in
      let small = (each_back (SmallPart F.ring most_degree) v.front (p ∷ v.back) (subst (Each (SmallPart F.ring most_degree)) v.whole (small_parts F.ring s h))).0 in
      let twice : 2 * degree p.codes ≤ 254 = omega (arith, small.degrees) in
      mul-le-mul twice small.degrees

  module _ (s : SheetMeaning) (scratch : List ℕ) where
    -- where the steps lead, and that they lead nowhere else
    abbrev pub SettlesOnce : Type 0
    SettlesOnce = (n : ℕ) × (t : SheetMeaning) × Settles F s scratch n t × ((n' : ℕ) (t' : SheetMeaning) → Settles F s scratch n' t' → (n' ≡ n) × (t' ≡ t))

    settled_now : next_open s.parts ≡ None → SettlesOnce
    settled_now e = (0, s, (refl, (step_none s scratch e, refl, refl)), only)
      where
        only : (n : ℕ) (t : SheetMeaning) → Settles F s scratch n t → (n ≡ 0) × (t ≡ s)
        only zero t w = (refl, sym w.0)
        only (suc n) t (a, u, after, w, rest) = absurd (some_none (sym (step_none s scratch e) ∙ w.0))

  settled_later : (s u : SheetMeaning) (scratch after : List ℕ) (a : ℕ × ℕ × ℕ) → Stepped F s scratch (Ok a) u after →
      ((r : Result (ℕ × ℕ × ℕ) SheetFault) (t : SheetMeaning) (b : List ℕ) → Stepped F s scratch r t b → (r ≡ Ok a) × (t ≡ u) × (b ≡ after)) → SettlesOnce u after → SettlesOnce s scratch
  settled_later s u scratch after a w one (n, t, rest, same) = (suc n, t, (a, u, after, w, rest), only)
    where
      only : (k : ℕ) (x : SheetMeaning) → Settles F s scratch k x → (k ≡ suc n) × (x ≡ t)
      only zero x v = absurd (some_none (sym v.1.0 ∙ w.0))
      only (suc k) x (b, y, left, v, more) =
          let q = one (Ok b) y left v in
          let r = same k x (subst (λ (z : List ℕ). Settles F u z k x) q.2 (subst (λ (z : SheetMeaning). Settles F z left k x) q.1 more)) in
          (ap suc r.0, r.1)

  -- one step, or none, where what comes after a step is known
  next : (s : SheetMeaning) (scratch : List ℕ) → GoodSheet F.ring s → most_scratch ≤ length scratch →
      ((u : SheetMeaning) (after : List ℕ) → weight u.parts < weight s.parts → GoodSheet F.ring u → most_scratch ≤ length after → SettlesOnce u after) → SettlesOnce s scratch
  next s scratch h long later = by (next_open s.parts) refl
    where
      stepped : step_refusal s scratch ≡ None → (r : Result (ℕ × ℕ × ℕ) SheetFault) (u : SheetMeaning) (after : List ℕ) → Stepped F s scratch r u after →
          ((r' : Result (ℕ × ℕ × ℕ) SheetFault) (t : SheetMeaning) (b : List ℕ) → Stepped F s scratch r' t b → (r' ≡ r) × (t ≡ u) × (b ≡ after)) → SettlesOnce s scratch
      stepped e (Err f) u after w one = absurd (some_none (sym w.0 ∙ e))
      stepped e (Ok a) u after w one = settled_later s u scratch after a w one
          (later u after (lighter s a u h w.1) (call_good F L (step scratch (Ok a) after) s u h w) (omega (arith, wiped_length (scratch_of (next_open s.parts)) scratch, ap length w.2)))

      by : (o : Option PartMeaning) → next_open s.parts ≡ o → SettlesOnce s scratch
      by None e = settled_now s scratch e
      by (Some p) e =
          let (r, u, after, w, one) = one_step F L s h scratch in
          stepped (step_fits s scratch p e (omega (arith, enough s p h e, long))) r u after w one

  -- by a bound of the weight
  within : (b : ℕ) (s : SheetMeaning) (scratch : List ℕ) → weight s.parts ≤ b → GoodSheet F.ring s → most_scratch ≤ length scratch → SettlesOnce s scratch
  within zero s scratch light h long = next s scratch h long (λ u after less _ _. absurd (omega (arith, less, light)))
  within (suc b) s scratch light h long = next s scratch h long (λ u after less good room. within b u after (omega (arith, less, light)) good room)

  pub settling : (s : SheetMeaning) (scratch : List ℕ) → GoodSheet F.ring s → most_scratch ≤ length scratch → SettlesOnce s scratch
  settling s scratch h long = within (weight s.parts) s scratch (omega arith) h long
