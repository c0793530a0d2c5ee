-- Of every list of bytes there comes one outcome or refusal, and one only: each call of a job has one answer.
-- Main statements: one_outcome, one_extension.
use Rattle.std.proofs.Common.{◌≡◌, ℕ, ◌≤◌, Bool, true, false, ◌⊎◌, List, length, replicate, Some, None, Ok, Err, MatchBool, Option, Result, sym, refl, ap, ◌∙◌, subst, ap₂, inl, inr, arith}
use Rattle.std.proofs.lemmas.List.{length-replicate}
use Rattle.field.specs.declared.fault.FieldFault.{FieldFault}
use Rattle.field.specs.declared.fault.FieldFault.TheVariants.{ModulusSplits}
use Rattle.field.specs.Field.{FieldMeaning, FieldLaws}
use Rattle.field.specs.Polynomial.{degree}
use Rattle.field.specs.Residues.{prime_field}
use Rattle.field.specs.Quotient.{modulus, extension_field}
use Rattle.field.specs.Symbol.{symbol_field}
use Rattle.field.specs.Faults.{prime_refusal, quotient_refusal}
use Rattle.field.specs.Ranges.{some_none, prime_made, in_range}
use Rattle.field.proofs.SymbolLaws.{symbol_laws}
use Rattle.split.specs.Splitting.{whole, SplitsInto, answer}
use Rattle.split.specs.Calls.{Taken}
use Rattle.split.proofs.OneSplitting.{one_splitting}
use Rattle.extension.specs.Extension.{Judged, Ranged, Extends}
use Rattle.extension.specs.Moduli.{modulus_taken, Otherwise, told}
use Rattle.extension.specs.Judging.{range_refused, range_judged, extensions_are_fields}
use Rattle.worksheet.specs.declared.fault.SheetFault.{SheetFault}
use Rattle.worksheet.specs.declared.fault.SheetFault.TheVariants.{Field}
use Rattle.worksheet.specs.Sheet.{SheetMeaning, GoodSheet, empty}
use Rattle.worksheet.specs.Faults.{enter_refusal}
use Rattle.worksheet.specs.Calls.{with_entry}
use Rattle.worksheet.specs.Law.{enter}
use Rattle.worksheet.proofs.Runs.{empty_sound, call_good}
use Rattle.job.specs.declared.fault.JobFault.{JobFault}
use Rattle.job.specs.declared.fault.JobFault.TheVariants.{Record}
use Rattle.job.specs.Reading.{Polynomials, polynomial, end, ended, Levels, extension, over, stopped, Reading, prime, symbol, refused, reading}
use Rattle.job.specs.Outcome.{Outcome, outcome}
use Rattle.job.specs.Job.{most_scratch, Settles, Works, AfterLevel, Climbs, Starts, OneOutcome}
use Rattle.job.proofs.Settling.{SettlesOnce, settling}

abbrev Answer : Type 0
Answer = Result Outcome JobFault

-- there is one of which P holds, and no other
abbrev One : {A : Type 0} → (A → Type 0) → Type 0
One {A} P = (x : A) × P x × ((y : A) → P y → y ≡ x)

one_is : {A : Type 0} (x : A) → One (λ y. y ≡ x)
one_is x = (x, refl, λ y e. e)

long_zeros : (n : ℕ) → n ≤ length {A = ℕ} (replicate n 0)
long_zeros n = omega (arith, length-replicate {A = ℕ} n 0)

when_either : (P Q : Type 0) (b : Bool) → MatchBool b P Q → P ⊎ Q
when_either P Q true w = inl w
when_either P Q false w = inr w

module _ (F : FieldMeaning) (L : FieldLaws F) where
  entry_accepted : (s : SheetMeaning) (at : ℕ) (f : List ℕ) (rest : Polynomials) → enter_refusal F.ring s f ≡ None → One (Works F (with_entry F s f) rest) → One (Works F s (polynomial at f rest))
  entry_accepted s at f rest e (r, w, one) = (r, (Ok (degree f), with_entry F s f, (e, refl, refl), w), only)
    where
      only : (q : Answer) → Works F s (polynomial at f rest) q → q ≡ r
      only q (Ok d, t, v, more) = one q (subst (λ (x : SheetMeaning). Works F x rest q) v.2 more)
      only q (Err x, t, v, more) = absurd (some_none (sym v.0 ∙ e))

  entry_refused : (s : SheetMeaning) (at : ℕ) (f : List ℕ) (rest : Polynomials) (x : SheetFault) → enter_refusal F.ring s f ≡ Some x → One (Works F s (polynomial at f rest))
  entry_refused s at f rest x e = (Err (Record at x), (Err x, s, (e, refl), refl), only)
    where
      only : (q : Answer) → Works F s (polynomial at f rest) q → q ≡ Err (Record at x)
      only q (Ok d, t, v, more) = absurd (some_none (sym e ∙ v.0))
      only q (Err y, t, v, more) = let same : y ≡ x = cc (v.0, e) in more ∙ ap (λ (z : SheetFault). Err (Record at z)) same

  -- the steps, in a scratch that is long enough
  steps_done : (s : SheetMeaning) (scratch : List ℕ) → SettlesOnce F L s scratch → One (λ (r : Answer). (n : ℕ) × (t : SheetMeaning) × Settles F s scratch n t × (r ≡ Ok (outcome F.ring t n)))
  steps_done s scratch (n, t, w, one) = (Ok (outcome F.ring t n), (n, t, w, refl), only)
    where
      only : (q : Answer) → (k : ℕ) × (u : SheetMeaning) × Settles F s scratch k u × (q ≡ Ok (outcome F.ring u k)) → q ≡ Ok (outcome F.ring t n)
      only q (k, u, v, e) = let p = one k u v in e ∙ ap₂ (λ (y : SheetMeaning) (j : ℕ). Ok (outcome F.ring y j)) p.1 p.0

  one_work : (ps : Polynomials) (s : SheetMeaning) → GoodSheet F.ring s → One (Works F s ps)
  one_work (polynomial at f rest) s h = go (enter_refusal F.ring s f) refl (λ t. one_work rest t)
    where
      go : (o : Option SheetFault) → enter_refusal F.ring s f ≡ o → ((t : SheetMeaning) → GoodSheet F.ring t → One (Works F t rest)) → One (Works F s (polynomial at f rest))
      go None e later = entry_accepted s at f rest e (later (with_entry F s f) (call_good F L (enter f (Ok (degree f))) s (with_entry F s f) h (e, refl, refl)))
      go (Some x) e later = entry_refused s at f rest x e
  one_work end s h = steps_done s (replicate most_scratch 0) (settling F L s (replicate most_scratch 0) h (long_zeros most_scratch))
  one_work (ended e) s h = one_is (Err e)

  -- a modulus is judged in one way
  one_judgement : (f : List ℕ) → Taken F.ring f → One (Judged F f)
  one_judgement f taken = by (one_splitting F L f taken.canonical taken.monic taken.positive)
    where
      by : One (SplitsInto F f) → One (Judged F f)
      by (x, w, one) = go (when_either _ _ _ (told F f x w (answer F f x) refl))
        where
          -- f does not both split and stay whole
          clash : Otherwise F f → SplitsInto F f whole → ⊥
          clash (t, v, other) u = other (one t v ∙ sym (one whole u))

          splits : Otherwise F f → (a : Option FieldFault) → Judged F f a → a ≡ Some ModulusSplits
          splits y None u = absurd (clash y u)
          splits y (Some e) u = ap {B = Option FieldFault} Some u.0

          stays : SplitsInto F f whole → (a : Option FieldFault) → Judged F f a → a ≡ None
          stays u None v = refl
          stays u (Some e) v = absurd (clash v.1 u)

          go : Otherwise F f ⊎ SplitsInto F f whole → One (Judged F f)
          go (inl y) = (Some ModulusSplits, (refl, y), splits y)
          go (inr u) = (None, u, stays u)

  -- a request for an extension gets one answer
  pub one_extension : (k n : ℕ) → One (Extends F k n)
  one_extension k n = go (quotient_refusal F.ring k n) refl
    where
      go : (o : Option FieldFault) → quotient_refusal F.ring k n ≡ o → One (Extends F k n)
      go (Some e) h = (Some e, range_refused F k n e h, λ a x. subst (λ (o : Option FieldFault). Ranged o (Judged F (modulus F.ring k n)) a) h x)
      go None h =
          let (a, w, one) = one_judgement (modulus F.ring k n) (modulus_taken F.ring L.ring k n (in_range F.ring k n h)) in
          (a, range_judged F k n a h w, λ b x. one b (subst (λ (o : Option FieldFault). Ranged o (Judged F (modulus F.ring k n)) b) h x))

-- where the answer to a request is known, what comes after it is
one_after : (at : ℕ) (e : Option FieldFault) (P : Answer → Type 0) → (e ≡ None → One P) → One (λ r. AfterLevel at e (P r) r)
one_after at None P later = later refl
one_after at (Some e) P later = one_is (Err (Record at (Field e)))

one_climb : (ls : Levels) (F : FieldMeaning) → FieldLaws F → One (Climbs F ls)
one_climb (extension at k m rest) F L = go (one_extension F L k m) (λ w. one_climb rest (extension_field F k m) (extensions_are_fields F L k m w))
  where
    go : One (Extends F k m) → (Extends F k m None → One (Climbs (extension_field F k m) rest)) → One (Climbs F (extension at k m rest))
    go (e, w, one) later = by (one_after at e (Climbs (extension_field F k m) rest) (λ n. later (subst (Extends F k m) n w)))
      where
        by : One (λ r. AfterLevel at e (Climbs (extension_field F k m) rest r) r) → One (Climbs F (extension at k m rest))
        by (r, x, same) = (r, (e, w, x), λ q c. same q (subst (λ (a : Option FieldFault). AfterLevel at a (Climbs (extension_field F k m) rest q) q) (one c.0 c.1) c.2))
one_climb (over rest) F L = one_work F L rest (empty F.ring) (empty_sound F L (λ _. Unit {0})).good
one_climb (stopped e) F L = one_is (Err e)

one_start : (x : Reading) → One (Starts x)
one_start (prime at p rest) = one_after at (prime_refusal p) (Climbs (prime_field p) rest) (λ e. one_climb rest (prime_field p) (prime_made p e))
one_start (symbol rest) = one_climb rest symbol_field symbol_laws
one_start (refused e) = one_is (Err e)

pub one_outcome : OneOutcome
one_outcome bytes = one_start (reading bytes)
