-- A listing is the only splitting of the product of its job's polynomials: what a job does is a run of a worksheet, for which the law holds.
-- Main statement: listings-split.
use Rattle.std.proofs.Common.{◌≡◌, ℕ, zero, suc, Bool, true, false, leb, List, [], ◌∷◌, ◌++◌, length, replicate, Some, None, Ok, Err, Option, sym, refl, ap, ◌∙◌, subst, append-nil, arith}
use Rattle.field.specs.declared.fault.FieldFault.{FieldFault}
use Rattle.field.specs.Checks.{unless}
use Rattle.field.specs.Field.{FieldMeaning, FieldLaws}
use Rattle.field.specs.Polynomial.{product_of}
use Rattle.field.specs.Residues.{prime_field}
use Rattle.field.specs.Quotient.{extension_field}
use Rattle.field.specs.Symbol.{symbol_field}
use Rattle.field.specs.Faults.{prime_refusal}
use Rattle.field.specs.Ranges.{some_none, prime_made}
use Rattle.field.proofs.SymbolLaws.{symbol_laws}
use Rattle.split.specs.Splitting.{scratch_size}
use Rattle.extension.specs.Extension.{Extends}
use Rattle.extension.specs.Judging.{extensions_are_fields}
use Rattle.worksheet.specs.declared.fault.SheetFault.TheVariants.{NoOpenPart, ShortScratch}
use Rattle.worksheet.specs.Sheet.{PartMeaning, SheetMeaning, empty, standing, next_open, open_count}
use Rattle.worksheet.specs.Faults.{scratch_refusal}
use Rattle.worksheet.specs.Law.{Event, enter, step, Run, entries, taken, steps, most_steps, IsSplitting, Reordered, Holds}
use Rattle.worksheet.proofs.Law.{law}
use Rattle.job.specs.Reading.{Polynomials, polynomial, end, ended, Levels, extension, over, stopped, Reading, prime, symbol, refused, reading}
use Rattle.job.specs.Outcome.{Outcome, outcome}
use Rattle.job.specs.Job.{most_scratch, Settles, Works, AfterLevel, Climbs, Starts}
use Rattle.job.specs.Promise.{polynomials_in, polynomials_over, polynomials_of, field_over, field_of, Filed, ListingsSplit}
use Rattle.job.proofs.Settling.{no_open}

-- a step that is refused with 22 finds no open part
none_left : (n : ℕ) (o : Option PartMeaning) → scratch_refusal n o ≡ Some NoOpenPart → o ≡ None
none_left n None e = refl
none_left n (Some p) e = absurd (go (leb (scratch_size p.codes) n) e)
  where
    go : (b : Bool) → unless b ShortScratch ≡ Some NoOpenPart → ⊥
    go true h = some_none (sym h)
    go false h = cc

module _ (F : FieldMeaning) where
  -- a run from s to t with the entries fs and n accepted steps, where nothing is taken, and no part is open in the end
  record Ran (s : SheetMeaning) (fs : List (List ℕ)) (n : ℕ) (t : SheetMeaning) : Type 0 where
    pub events : List Event
    pub run : Run F s events t
    pub entered : entries events ≡ fs
    pub nothing_taken : taken events ≡ []
    pub counted : steps events ≡ n
    pub none_open : open_count t.parts ≡ 0

  settles_ran : (n : ℕ) (s : SheetMeaning) (scratch : List ℕ) (t : SheetMeaning) → Settles F s scratch n t → Ran s [] n t
  unfolding entries taken steps
  settles_ran zero s scratch t (e, w) = record {
    events = [];
    run = e;
    entered = refl;
    nothing_taken = refl;
    counted = refl;
    none_open = subst (λ (x : SheetMeaning). open_count x.parts ≡ 0) e (no_open s.parts (none_left (length scratch) (next_open s.parts) w.0));
  }
  settles_ran (suc n) s scratch t (a, u, after, w, rest) = let r = settles_ran n u after t rest in record {
    events = step scratch (Ok a) after ∷ r.events;
    run = (u, w, r.run);
    entered = r.entered;
    nothing_taken = r.nothing_taken;
    counted = omega (arith, r.counted);
    none_open = r.none_open;
  }

  -- what comes of the polynomials is what a run shows in the end
  work_ran : (ps : Polynomials) (s : SheetMeaning) (o : Outcome) → Works F s ps (Ok o) → (n : ℕ) × (t : SheetMeaning) × Ran s (polynomials_in ps) n t × (o ≡ outcome F.ring t n)
  unfolding polynomials_in entries taken steps
  work_ran (polynomial at f rest) s o (Ok d, u, w, more) = let (n, t, r, e) = work_ran rest u o more in (
    n,
    t,
    record {
      events = enter f (Ok d) ∷ r.events;
      run = (u, w, r.run);
      entered = ap (λ (fs : List (List ℕ)). f ∷ fs) r.entered;
      nothing_taken = r.nothing_taken;
      counted = r.counted;
      none_open = r.none_open;
    },
    e,
  )
  work_ran (polynomial at f rest) s o (Err x, u, w, more) = cc
  work_ran end s o (n, t, w, e) = (n, t, settles_ran n s (replicate most_scratch 0) t w, cc)
  work_ran (ended e) s o w = cc

  -- what such a run shows
  ran_filed : FieldLaws F → (fs : List (List ℕ)) (n : ℕ) (t : SheetMeaning) → Ran (empty F.ring) fs n t → Filed F fs (outcome F.ring t n)
  ran_filed L fs n t r = record {
    laws = L;
    order = refl;
    complete = subst (λ (gs : List (List ℕ)). IsSplitting F.ring (product_of F.ring fs) t.unit gs) all
        (subst (λ (gs : List (List ℕ)). IsSplitting F.ring (product_of F.ring gs) t.unit (standing t.parts ++ taken r.events)) r.entered (h.complete r.none_open));
    only = λ unit parts x.
        let y = h.only r.none_open unit parts (subst (λ (gs : List (List ℕ)). IsSplitting F.ring (product_of F.ring gs) unit parts) (sym r.entered) x) in
        (y.0, subst (Reordered parts) all y.1);
    few_steps = omega (arith, h.few_steps, r.counted, ap most_steps r.entered);
  }
    where
      h : Holds F r.events t
      h = (law F L).0 r.events t r.run

      all : standing t.parts ++ taken r.events ≡ standing t.parts
      all = ap (λ (gs : List (List ℕ)). standing t.parts ++ gs) r.nothing_taken ∙ append-nil (standing t.parts)

  work_filed : FieldLaws F → (ps : Polynomials) (o : Outcome) → Works F (empty F.ring) ps (Ok o) → Filed F (polynomials_in ps) o
  work_filed L ps o w = let (n, t, r, e) = work_ran ps (empty F.ring) o w in subst (Filed F (polynomials_in ps)) (sym e) (ran_filed L (polynomials_in ps) n t r)

-- a level that is refused has no outcome after it
level_made : (at : ℕ) (e : Option FieldFault) (P : Type 0) (o : Outcome) → AfterLevel at e P (Ok o) → (e ≡ None) × P
level_made at None P o w = (refl, w)
level_made at (Some x) P o w = cc

climb_filed : (ls : Levels) (F : FieldMeaning) → FieldLaws F → (o : Outcome) → Climbs F ls (Ok o) → Filed (field_over F ls) (polynomials_over ls) o
unfolding field_over polynomials_over
climb_filed (extension at k m rest) F L o (e, x, w) =
    let (n, c) = level_made at e _ o w in
    climb_filed rest (extension_field F k m) (extensions_are_fields F L k m (subst (Extends F k m) n x)) o c
climb_filed (over rest) F L o w = work_filed F L rest o w
climb_filed (stopped e) F L o w = cc

start_filed : (x : Reading) (o : Outcome) → Starts x (Ok o) → Filed (field_of x) (polynomials_of x) o
start_filed (prime at p rest) o w = let (n, c) = level_made at (prime_refusal p) _ o w in climb_filed rest (prime_field p) (prime_made p n) o c
start_filed (symbol rest) o w = climb_filed rest symbol_field symbol_laws o w
start_filed (refused e) o w = cc

pub listings_split : ListingsSplit
listings_split bytes o w = start_filed (reading bytes) o w
