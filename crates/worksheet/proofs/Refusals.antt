-- What the checks of the calls come to: an entry, what is taken or read, and a step.
-- Main statements: entry_passes, entry_taken; take_open, take_as_read; read_none, read_short, read_fits, read_some; gives_at, tells_at;
-- step_none, step_short, step_fits.
use Rattle.std.proofs.Common.{◌≡◌, ℕ, ◌+◌, ◌<◌, ◌≤◌, Bool, true, false, not, eqb, leb, List, [], ◌∷◌, length, Some, None, Option, sym, refl, ap, ◌∙◌, subst, le-leb, leb-true, ne_eqb, arith}
use borrow.Author.Tests.{lt-leb, clash}
use Rattle.std.proofs.lemmas.Bool.{and_left}
use Rattle.field.specs.Checks.{unless, ◌or_else◌}
use Rattle.field.specs.Ring.{RingMeaning}
use Rattle.field.specs.Polynomial.{degree}
use Rattle.field.specs.Ranges.{some_none, passed, first_none, second_none}
use Rattle.poly.specs.declared.fault.PolyFault.{PolyFault}
use Rattle.poly.specs.Faults.{operand_refusal, is_zero}
use Rattle.poly.specs.Calls.{written}
use Rattle.split.specs.Splitting.{scratch_size}
use Rattle.worksheet.specs.declared.fault.SheetFault.{SheetFault}
use Rattle.worksheet.specs.declared.fault.SheetFault.TheVariants.{ZeroEntry, TotalDegree, NoOpenPart, ShortScratch, NoPart, OpenPart, ShortBuffer}
use Rattle.worksheet.specs.Sheet.{PartMeaning, SheetMeaning, most_degree, total_degree, part_at, is_open, next_open}
use Rattle.worksheet.specs.Calls.{Gives, Tells}
use Rattle.worksheet.specs.Places.{some_open}
use Rattle.worksheet.specs.Faults.{passed_on, enter_refusal, of_part, buffer_refusal, take_refusal, read_refusal, scratch_refusal, step_refusal}

all_pass : (o : Option PolyFault) (b d : Bool) → o ≡ None → b ≡ false → d ≡ true → (passed_on o or_else unless (not b) ZeroEntry or_else unless d TotalDegree) ≡ None
all_pass o b d p q r = rw (p, q, r)

none_passed : (o : Option PolyFault) → passed_on o ≡ None → o ≡ None
none_passed None e = refl
none_passed (Some x) e = absurd (some_none e)

nonzero : (f : List ℕ) → (f ≡ 0 ∷ [] → ⊥) → is_zero f ≡ false
nonzero [] n = refl
nonzero (x ∷ []) n = ne_eqb x 0 (λ e. n (ap (λ y. y ∷ []) e))
nonzero (x ∷ y ∷ f) n = and_left (eqb (length (x ∷ y ∷ f)) 1) _ (ne_eqb (length (x ∷ y ∷ f)) 1 (λ e. omega arith))

module _ (m : RingMeaning) (s : SheetMeaning) (f : List ℕ) where
  pub entry_passes : operand_refusal m f ≡ None → (f ≡ 0 ∷ [] → ⊥) → total_degree s.parts + degree f ≤ most_degree → enter_refusal m s f ≡ None
  entry_passes p q h = all_pass (operand_refusal m f) (is_zero f) (leb (total_degree s.parts + degree f) most_degree) p (nonzero f q) (le-leb _ _ h)

  pub entry_taken : enter_refusal m s f ≡ None → (operand_refusal m f ≡ None) × (total_degree s.parts + degree f ≤ most_degree)
  entry_taken e = (none_passed (operand_refusal m f) (first_none first rest e), leb-true _ _ (passed _ TotalDegree (second_none zero long (second_none first rest e))))
    where
      first : Option SheetFault
      first = passed_on (operand_refusal m f)

      zero : Option SheetFault
      zero = unless (not (is_zero f)) ZeroEntry

      long : Option SheetFault
      long = unless (leb (total_degree s.parts + degree f) most_degree) TotalDegree

      rest : Option SheetFault
      rest = zero or_else long

abbrev checks : List ℕ → PartMeaning → Option SheetFault
checks buffer p = unless (not (is_open p.mark)) OpenPart or_else buffer_refusal buffer p

is_refused : (b : Bool) (o : Option SheetFault) → b ≡ true → (unless (not b) OpenPart or_else o) ≡ Some OpenPart
is_refused b o e = rw e

is_passed : (b : Bool) (o : Option SheetFault) → b ≡ false → (unless (not b) OpenPart or_else o) ≡ o
is_passed b o e = rw e

open_refused : (o : Option PartMeaning) (buffer : List ℕ) → some_open o ≡ true → of_part o (checks buffer) ≡ Some OpenPart
open_refused None buffer e = absurd (clash e)
open_refused (Some p) buffer e = is_refused (is_open p.mark) (buffer_refusal buffer p) e

open_passed : (o : Option PartMeaning) (buffer : List ℕ) → some_open o ≡ false → of_part o (checks buffer) ≡ of_part o (buffer_refusal buffer)
open_passed None buffer e = refl
open_passed (Some p) buffer e = is_passed (is_open p.mark) (buffer_refusal buffer p) e

module _ (s : SheetMeaning) (i : ℕ) (buffer : List ℕ) where
  -- an open part is not taken
  pub take_open : some_open (part_at s.parts i) ≡ true → take_refusal s i buffer ≡ Some OpenPart
  take_open e = open_refused (part_at s.parts i) buffer e

  -- else it is taken where it can be read
  pub take_as_read : some_open (part_at s.parts i) ≡ false → take_refusal s i buffer ≡ read_refusal s i buffer
  take_as_read e = open_passed (part_at s.parts i) buffer e

  pub read_none : part_at s.parts i ≡ None → read_refusal s i buffer ≡ Some NoPart
  read_none e = ap (λ (o : Option PartMeaning). of_part o (buffer_refusal buffer)) e

  pub read_short : (p : PartMeaning) → part_at s.parts i ≡ Some p → length buffer < length p.codes → read_refusal s i buffer ≡ Some ShortBuffer
  read_short p e h =
      ap (λ (o : Option PartMeaning). of_part o (buffer_refusal buffer)) e ∙ ap (λ b. unless b ShortBuffer) (lt-leb (length p.codes) (length buffer) h)

  pub read_fits : (p : PartMeaning) → part_at s.parts i ≡ Some p → length p.codes ≤ length buffer → read_refusal s i buffer ≡ None
  read_fits p e h =
      ap (λ (o : Option PartMeaning). of_part o (buffer_refusal buffer)) e ∙ ap (λ b. unless b ShortBuffer) (le-leb (length p.codes) (length buffer) h)

  -- what can be read is there
  pub read_some : read_refusal s i buffer ≡ None → part_at s.parts i ≡ None → ⊥
  read_some e n = some_none (sym (ap (λ (o : Option PartMeaning). of_part o (buffer_refusal buffer)) n) ∙ e)

-- what is said of the part at a place, by what that part is
pub gives_at : (o : Option PartMeaning) (p : PartMeaning) (buffer : List ℕ) (d : ℕ) (after : List ℕ) → o ≡ Some p → d ≡ degree p.codes → after ≡ written p.codes buffer → Gives o buffer d after
gives_at o p buffer d after e h k = subst (λ (x : Option PartMeaning). Gives x buffer d after) (sym e) (h, k)

pub tells_at : (o : Option PartMeaning) (p : PartMeaning) → o ≡ Some p → Tells o p.times p.mark
tells_at o p e = subst (λ (x : Option PartMeaning). Tells x p.times p.mark) (sym e) (refl, refl)

module _ (s : SheetMeaning) (scratch : List ℕ) where
  -- a step with no open part
  pub step_none : next_open s.parts ≡ None → step_refusal s scratch ≡ Some NoOpenPart
  step_none e = ap (scratch_refusal (length scratch)) e

  -- and one on the part p, with too little scratch or enough
  pub step_short : (p : PartMeaning) → next_open s.parts ≡ Some p → length scratch < scratch_size p.codes → step_refusal s scratch ≡ Some ShortScratch
  step_short p e h = ap (scratch_refusal (length scratch)) e ∙ ap (λ b. unless b ShortScratch) (lt-leb (scratch_size p.codes) (length scratch) h)

  pub step_fits : (p : PartMeaning) → next_open s.parts ≡ Some p → scratch_size p.codes ≤ length scratch → step_refusal s scratch ≡ None
  step_fits p e h = ap (scratch_refusal (length scratch)) e ∙ ap (λ b. unless b ShortScratch) (le-leb (scratch_size p.codes) (length scratch) h)
