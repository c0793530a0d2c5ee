-- How the parts of the work on a job lead to one another: levels, polynomials, and the end.
-- Main statements: leads_break, answer_break, is_recorded; makes_refused, makes_taken; level_stopped, level_leads, level_makes, level_is;
-- polynomial_ended, entry_leads;
-- count_stopped, count_read; none_left; levels_at, polynomials_at, over_equal, climbs_at, works_at.
use Rattle.std.proofs.Common.{◌≡◌, ℕ, suc, ◌+◌, ◌*◌, List, IsErrAnd, MatchResult, IfOk, Some, None, Ok, Err, Option, Result, sym, refl, ap, ◌∙◌, subst, ap₂}
use Rattle.std.proofs.lemmas.Result.{err_from_is_err_and}
use Rattle.field.specs.declared.fault.FieldFault.{FieldFault}
use Rattle.field.specs.Field.{FieldMeaning, FieldExtras}
use Rattle.field.specs.Faults.{Makes}
use Rattle.field.specs.Ring.{RingMeaning}
use Rattle.field.specs.Quotient.{quotient_ring, extension_extras, extension_field}
use Rattle.extension.specs.Extension.{Extends, Extended}
use Rattle.worksheet.specs.declared.fault.SheetFault.{SheetFault}
use Rattle.worksheet.specs.declared.fault.SheetFault.TheVariants.{Field}
use Rattle.worksheet.specs.Sheet.{SheetMeaning, empty}
use Rattle.worksheet.specs.Calls.{Entered}
use Rattle.job.specs.declared.fault.JobFault.{JobFault}
use Rattle.job.specs.declared.fault.JobFault.TheVariants.{Record}
use Rattle.job.specs.Reading.{Polynomials, polynomial, ended, Levels, extension, over, stopped, byte, word, words, given, judged, record_end, polynomials_from, levels_from, at_end}
use Rattle.job.specs.declared.reader.Reader.{Reader}
use Rattle.job.specs.Reader.{bytes_of, extension_at, polynomial_at}
use Rattle.job.specs.declared.listing.Listing.{Listing}
use Rattle.job.specs.Outcome.{Outcome, answer_of}
use Rattle.job.specs.Job.{AfterEntry, Works, AfterLevel, Climbs}
use Rattle.job.specs.Leading.{from_field, Leads}
use Rattle.job.proofs.ReadingBytes.{carried, passed, given_carried, judged_carried, given_ok, judged_ok, same_ok}

-- at the exit of a `?`
pub leads_break : {A : Type 0} (Whole Left : Result Outcome JobFault → Type 0) (r : Result A JobFault) (e : JobFault) → IsErrAnd r (λ x. x ≡ e) → Whole (Err e) → Leads Whole Left r
leads_break Whole Left r e h w = subst (Leads Whole Left) (sym (passed r e h)) w

-- the same of an answer
pub answer_break : (P : Result Outcome JobFault → Type 0) (r : Result Listing JobFault) (e : JobFault) → IsErrAnd r (λ x. x ≡ e) → P (Err e) → P (answer_of r)
answer_break P r e h w = subst (λ (x : Result Listing JobFault). P (answer_of x)) (sym (passed r e h)) w

-- a refusal, with the place of the record that is refused
abbrev pub recorded : {A : Type 0} → ℕ → Result A SheetFault → Result A JobFault
recorded at (Ok x) = Ok x
recorded at (Err e) = Err (Record at e)

pub is_recorded : {A : Type 0} (at : ℕ) {Q : SheetFault → JobFault → Type 0} (r : Result A SheetFault) (q : Result A JobFault) → ((f : SheetFault) (e : JobFault) → Q f e → e ≡ Record at f) →
    MatchResult r (λ x. q ≡ Ok x) (λ f. IsErrAnd q (Q f)) → q ≡ recorded at r
is_recorded at (Ok x) q is h = h
is_recorded at (Err f) q is h = let p = err_from_is_err_and q h in p.1 ∙ ap Err (is f p.0 p.2)

-- what is answered of a level that is made, or refused
level_ok : {A : Type 0} (at : ℕ) (r : Result A FieldFault) (x : A) → Ok x ≡ recorded at (from_field r) → r ≡ Ok x
level_ok at (Ok y) x h = cc
level_ok at (Err f) x h = cc

level_err : {A : Type 0} (at : ℕ) (r : Result A FieldFault) (e : JobFault) → Err e ≡ recorded at (from_field r) → (f : FieldFault) × (r ≡ Err f) × (e ≡ Record at (Field f))
level_err at (Ok y) e h = cc
level_err at (Err f) e h = (f, refl, cc)

-- a first level with its own refusal
module _ {A : Type 0} (at : ℕ) (refusal : Option FieldFault) (Is : A → Type 0) (r : Result A FieldFault) (h : Makes refusal Is r) where
  pub makes_refused : (e : JobFault) (P : Type 0) → Err e ≡ recorded at (from_field r) → AfterLevel at refusal P (Err e)
  makes_refused e P q =
      let (f, is, place) = level_err at r e q in
      subst (λ (o : Option FieldFault). AfterLevel at o P (Err e)) (sym (subst (Makes refusal Is) is h)) (ap Err place)

  pub makes_taken : (x : A) → Ok x ≡ recorded at (from_field r) → (refusal ≡ None) × Is x
  makes_taken x q = subst (Makes refusal Is) (level_ok at r x q) h

-- the level at place i
module _ (F : FieldMeaning) (bytes : List ℕ) (i n : ℕ) where
  abbrev k : ℕ
  k = byte bytes (i + 1)

  abbrev m : ℕ
  m = word bytes (i + 2)

  abbrev level : ℕ × ℕ → Levels
  level a = extension i k m (levels_from bytes (i + 4) n)

  level_after : (r : Result (ℕ × ℕ) JobFault) → r ≡ extension_at bytes i → carried stopped level r ≡ levels_from bytes i (suc n)
  unfolding levels_from
  level_after r e =
      ap (carried stopped level) e ∙ judged_carried stopped level bytes (given Err bytes (i + 4) (Ok (k, m))) i 3 3
      ∙ ap (judged stopped bytes i 3 3) (given_carried stopped level bytes (Ok (k, m)) (i + 4))

  pub level_stopped : (e : JobFault) → Err e ≡ extension_at bytes i → Climbs F (levels_from bytes i (suc n)) (Err e)
  level_stopped e h = subst (λ (l : Levels). Climbs F l (Err e)) (level_after (Err e) h) refl

  module _ {a : ℕ × ℕ} (read : Ok a ≡ extension_at bytes i) where
    level_refused : (e : FieldFault) → Extends F k m (Some e) → Climbs F (levels_from bytes i (suc n)) (Err (Record i (Field e)))
    level_refused e h = subst (λ (l : Levels). Climbs F l (Err (Record i (Field e)))) (level_after (Ok a) read) (Some e, h, refl)

    level_made : Extends F k m None → (r : Result Outcome JobFault) → Climbs (extension_field F k m) (levels_from bytes (i + 4) n) r → Climbs F (levels_from bytes i (suc n)) r
    level_made h r w = subst (λ (l : Levels). Climbs F l r) (level_after (Ok a) read) (None, h, w)

    pub level_leads : {A : Type 0} {k' m' : ℕ} (Is : A → Type 0) (r : Result A FieldFault) (q : Result A JobFault) → k' ≡ k → m' ≡ m → Extended F k' m' Is r → q ≡ recorded i (from_field r) →
        Leads (Climbs F (levels_from bytes i (suc n))) (Climbs (extension_field F k m) (levels_from bytes (i + 4) n)) q
    level_leads {A} {k'} {m'} Is r q ek em h e = go r q h e
      where
        same : (x : Option FieldFault) → Extends F k' m' x → Extends F k m x
        same x w = subst (λ (y : ℕ). Extends F y m x) ek (subst (λ (y : ℕ). Extends F k' y x) em w)

        go : (r : Result A FieldFault) (q : Result A JobFault) → Extended F k' m' Is r → q ≡ recorded i (from_field r) →
            Leads (Climbs F (levels_from bytes i (suc n))) (Climbs (extension_field F k m) (levels_from bytes (i + 4) n)) q
        go (Ok x) (Ok y) h e = level_made (same None h.0)
        go (Ok x) (Err y) h e = cc
        go (Err f) (Ok y) h e = cc
        go (Err f) (Err y) h e = subst (λ (z : Result Outcome JobFault). Climbs F (levels_from bytes i (suc n)) z) (cc) (level_refused f (same (Some f) h))

pub level_makes : {A : Type 0} {k m k' m' : ℕ} (Made : A → Type 0) (ring : A → RingMeaning) (extras : A → FieldExtras) (F : FieldMeaning) (at : ℕ) (r : Result A FieldFault) (q : Result A JobFault) →
    k' ≡ k → m' ≡ m → Extended F k' m' (λ x. Made x × (ring x ≡ quotient_ring F.ring k' m') × (extras x ≡ extension_extras F k' m')) r → q ≡ recorded at (from_field r) →
    IfOk q (λ x. Made x × (ring x ≡ quotient_ring F.ring k m) × (extras x ≡ extension_extras F k m))
level_makes Made ring extras F at (Ok x) q ek em h e = rw e (h.1.0, h.1.1 ∙ ap₂ (quotient_ring F.ring) ek em, h.1.2 ∙ ap₂ (extension_extras F) ek em)
level_makes Made ring extras F at (Err f) q ek em h e = rw e tt

pub level_is : (bytes : List ℕ) (i : ℕ) (a : ℕ × ℕ) → Ok a ≡ extension_at bytes i → a ≡ (byte bytes (i + 1), word bytes (i + 2))
level_is bytes i a h = same_ok (given_ok bytes (i + 4) _ a (judged_ok bytes i 3 3 _ a h).1).1

-- the polynomial at place i
module _ (F : FieldMeaning) (s : SheetMeaning) (bytes : List ℕ) (i n : ℕ) where
  abbrev row : ℕ → Polynomials
  row c = polynomial i (words bytes (i + 1) c) (polynomials_from bytes (i + 1 + 2 * c) n)

  pub polynomial_after : (r : Result ℕ JobFault) → r ≡ polynomial_at bytes i → carried ended row r ≡ polynomials_from bytes i (suc n)
  unfolding polynomials_from
  polynomial_after r e =
      ap (carried ended row) e ∙ judged_carried ended row bytes (given Err bytes (record_end bytes i) (Ok (byte bytes i))) i 1 128
      ∙ ap (judged ended bytes i 1 128) (given_carried ended row bytes (Ok (byte bytes i)) (record_end bytes i))

  pub polynomial_ended : (e : JobFault) → Err e ≡ polynomial_at bytes i → Works F s (polynomials_from bytes i (suc n)) (Err e)
  polynomial_ended e h = subst (λ (l : Polynomials). Works F s l (Err e)) (polynomial_after (Err e) h) refl

  module _ (c : ℕ) (read : Ok c ≡ polynomial_at bytes i) (t : SheetMeaning) {f : List ℕ} (a : Result ℕ SheetFault) (is : f ≡ words bytes (i + 1) c) (h : Entered F s f a t) where
    entered : (b : Result ℕ SheetFault) → a ≡ b → Entered F s (words bytes (i + 1) c) b t
    entered b e = subst (λ (x : List ℕ). Entered F s x b t) is (subst (λ (x : Result ℕ SheetFault). Entered F s f x t) e h)

    entry : (b : Result ℕ SheetFault) (r : Result Outcome JobFault) → a ≡ b → AfterEntry i b (Works F t (polynomials_from bytes (i + 1 + 2 * c) n) r) r → Works F s (polynomials_from bytes i (suc n)) r
    entry b r e w = subst (λ (l : Polynomials). Works F s l r) (polynomial_after (Ok c) read) (b, t, entered b e, w)

    pub entry_leads : (q : Result ℕ JobFault) → q ≡ recorded i a → Leads (Works F s (polynomials_from bytes i (suc n))) (Works F t (polynomials_from bytes (i + 1 + 2 * c) n)) q
    entry_leads q e = go a refl q e
      where
        go : (b : Result ℕ SheetFault) → a ≡ b → (q : Result ℕ JobFault) → q ≡ recorded i b → Leads (Works F s (polynomials_from bytes i (suc n))) (Works F t (polynomials_from bytes (i + 1 + 2 * c) n)) q
        go (Ok d) same (Ok x) e = λ r w. entry (Ok d) r same w
        go (Ok d) same (Err x) e = cc
        go (Err f) same (Ok x) e = cc
        go (Err f) same (Err x) e = entry (Err f) (Err x) same (cc)

-- the count of the polynomials at place i
module _ (F : FieldMeaning) (bytes : List ℕ) (i : ℕ) where
  abbrev counting : ℕ → Levels
  counting c = over (polynomials_from bytes (i + 1) c)

  count_after : (r : Result ℕ JobFault) → r ≡ judged Err bytes i 0 127 (Ok (byte bytes i)) → carried stopped counting r ≡ levels_from bytes i 0
  unfolding levels_from
  count_after r e = ap (carried stopped counting) e ∙ judged_carried stopped counting bytes (Ok (byte bytes i)) i 0 127

  pub count_stopped : (e : JobFault) → Err e ≡ judged Err bytes i 0 127 (Ok (byte bytes i)) → Climbs F (levels_from bytes i 0) (Err e)
  count_stopped e h = subst (λ (l : Levels). Climbs F l (Err e)) (count_after (Err e) h) refl

  pub count_read : (c : ℕ) → Ok c ≡ judged Err bytes i 0 127 (Ok (byte bytes i)) → (r : Result Outcome JobFault) → Works F (empty F.ring) (polynomials_from bytes (i + 1) c) r → Climbs F (levels_from bytes i 0) r
  count_read c h r w = subst (λ (l : Levels). Climbs F l r) (count_after (Ok c) h) w

pub none_left : (bytes : List ℕ) (i n : ℕ) → n ≡ 0 → at_end bytes i ≡ polynomials_from bytes i n
unfolding polynomials_from
none_left bytes i n e = subst (λ (x : ℕ). at_end bytes i ≡ polynomials_from bytes i x) (sym e) refl

pub over_equal : {F F' : FieldMeaning} (l : Levels) (r : Result Outcome JobFault) → F' ≡ F → Climbs F' l r → Climbs F l r
over_equal l r e w = subst (λ (x : FieldMeaning). Climbs x l r) e w

-- what is left, from where a reader stands
pub levels_at : (t : Reader) (bytes : List ℕ) (i n : ℕ) → bytes_of t ≡ bytes → t.at ≡ i → levels_from (bytes_of t) t.at n ≡ levels_from bytes i n
levels_at t bytes i n same place = ap₂ (λ (b : List ℕ) (j : ℕ). levels_from b j n) same place

pub polynomials_at : (t : Reader) (bytes : List ℕ) (i n : ℕ) → bytes_of t ≡ bytes → t.at ≡ i → polynomials_from (bytes_of t) t.at n ≡ polynomials_from bytes i n
polynomials_at t bytes i n same place = ap₂ (λ (b : List ℕ) (j : ℕ). polynomials_from b j n) same place

-- the same over an equal field
pub climbs_at : {F F' : FieldMeaning} (t : Reader) (bytes : List ℕ) (i n : ℕ) (r : Result Outcome JobFault) → F' ≡ F → bytes_of t ≡ bytes → t.at ≡ i →
    Climbs F' (levels_from (bytes_of t) t.at n) r → Climbs F (levels_from bytes i n) r
climbs_at {F} {F'} t bytes i n r e same place w =
    over_equal (levels_from bytes i n) r e (subst (λ (l : Levels). Climbs F' l r) (levels_at t bytes i n same place) w)

pub works_at : {F F' : FieldMeaning} {u v : SheetMeaning} (t : Reader) (bytes : List ℕ) (i n : ℕ) (r : Result Outcome JobFault) → F' ≡ F → v ≡ u → bytes_of t ≡ bytes → t.at ≡ i →
    Works F' v (polynomials_from (bytes_of t) t.at n) r → Works F u (polynomials_from bytes i n) r
works_at {F} {F'} {u} {v} t bytes i n r e q same place w =
    subst (λ (x : FieldMeaning). Works x u (polynomials_from bytes i n) r) e
    (subst (λ (x : SheetMeaning). Works F' x (polynomials_from bytes i n) r) q
    (subst (λ (l : Polynomials). Works F' v l r) (polynomials_at t bytes i n same place) w))
