-- Every run from a sound worksheet keeps the balance, the weight and soundness.
-- Main statements: run_kept, empty_sound, call_good.
use Rattle.std.proofs.Common.{◌≡◌, ℕ, ◌+◌, List, [], ◌∷◌, Ok, Err, refl, subst, arith}
use Rattle.field.specs.Field.{FieldMeaning, FieldLaws}
use Rattle.worksheet.specs.Sheet.{PartMeaning, SheetMeaning, Each, GoodSheet, empty}
use Rattle.worksheet.specs.Law.{Event, enter, step, take, Run, Happens, entries, taken, steps}
use Rattle.worksheet.proofs.Measures.{degree_nil}
use Rattle.algebra.proofs.Irreducible.{Irreducible}
use Rattle.worksheet.proofs.Keeping.{poly, Done, Sound, Kept, kept_none, kept_then}
use Rattle.worksheet.proofs.Stepping.{step_kept}
use Rattle.worksheet.proofs.Taking.{take_kept}
use Rattle.worksheet.proofs.Entering.{enter_kept}

module _ (F : FieldMeaning) (L : FieldLaws F) (Known : List ℕ → Type 0) where
  pub empty_sound : Sound F L Known (empty F.ring)
  empty_sound = record { good = record { unit_code = L.ring.one_code; parts = tt; ordered = tt; fits = omega (arith, degree_nil) }; done = tt }

  same_steps : {fs ts : List (List ℕ)} {n k : ℕ} {s t : SheetMeaning} → n ≡ k → Kept F L Known fs ts n s t → Kept F L Known fs ts k s t
  same_steps {fs = fs} {ts = ts} {s = s} {t = t} e h = subst (λ (x : ℕ). Kept F L Known fs ts x s t) e h

  no_step : (n : ℕ) → 0 + n ≡ n
  no_step n = omega arith

  pub run_kept : ((f : List ℕ) → Irreducible (poly F L f) → Known f) → (es : List Event) (s t : SheetMeaning) → Sound F L Known s → Run F s es t → Kept F L Known (entries es) (taken es) (steps es) s t
  unfolding entries taken steps
  run_kept known [] s t h r = subst (Kept F L Known [] [] 0 s) r (kept_none F L Known s h)
  run_kept known (enter f (Ok d) ∷ es) s t h (u, w, r) =
      let k = enter_kept F L Known s f d u h w in same_steps (no_step _) (kept_then F L Known k (run_kept known es u t k.sound r))
  run_kept known (enter f (Err e) ∷ es) s t h (u, w, r) = run_kept known es s t h (subst (λ (x : SheetMeaning). Run F x es t) w.1 r)
  run_kept known (step scratch (Ok a) after ∷ es) s t h (u, w, r) =
      let k = step_kept F L Known known s a u h w.1 in kept_then F L Known k (run_kept known es u t k.sound r)
  run_kept known (step scratch (Err e) after ∷ es) s t h (u, w, r) = run_kept known es s t h (subst (λ (x : SheetMeaning). Run F x es t) w.1 r)
  run_kept known (take i buffer (Ok d) after ∷ es) s t h (u, w, r) =
      let k = take_kept F L Known s i buffer d u after h w in same_steps (no_step _) (kept_then F L Known k (run_kept known es u t k.sound r))
  run_kept known (take i buffer (Err e) after ∷ es) s t h (u, w, r) = run_kept known es s t h (subst (λ (x : SheetMeaning). Run F x es t) w.1 r)

-- Each call, accepted or refused, keeps what a worksheet keeps.
pub call_good : (F : FieldMeaning) (L : FieldLaws F) (e : Event) (s t : SheetMeaning) → GoodSheet F.ring s → Happens F s e t → GoodSheet F.ring t
call_good F L e s t h w = (run_kept F L (λ _. Unit {0}) (λ f i. tt) (e ∷ []) s t (record { good = h; done = all_known s.parts }) (t, w, refl)).sound.good
  where
    all_known : (ps : List PartMeaning) → Each (Done F L (λ _. Unit {0})) ps
    all_known [] = tt
    all_known (p ∷ ps) = ((λ _. tt), all_known ps)
