-- What each call on a worksheet answers, and what the worksheet and the buffers are after it. In each relation s is the worksheet before
-- the call and t after it; a refused call changes nothing.
use Rattle.std.specs.Prelude.{◌≡◌, ℕ, ◌*◌, cond, List, map, Some, None, Ok, Err, Option, Result, ◌==◌}
use Rattle.field.specs.Ring.{RingMeaning}
use Rattle.field.specs.Field.{FieldMeaning}
use Rattle.field.specs.Polynomial.{degree, leading}
use Rattle.poly.specs.Calls.{written}
use Rattle.split.specs.declared.kind.Kind.{Kind}
use Rattle.split.specs.Kinds.{numbered}
use Rattle.split.specs.Splitting.{Splitting, root, repeated, shifted, whole, SplitsInto, answer, scratch_size, wiped}
use Rattle.worksheet.specs.declared.parts.Mark.{Mark}
use Rattle.worksheet.specs.declared.fault.SheetFault.{SheetFault}
use Rattle.worksheet.specs.Sheet.{PartMeaning, SheetMeaning, place, without, settle, next_open, part_at, taken_at}
use Rattle.worksheet.specs.Faults.{enter_refusal, step_refusal, take_refusal, read_refusal}

-- each code times a, if there is an a
abbrev pub scaled : RingMeaning → List ℕ → Option ℕ → List ℕ
scaled m f None = f
scaled m f (Some a) = map (m.product a) f

-- f divided by its last code
abbrev pub monic_of : FieldMeaning → List ℕ → List ℕ
monic_of F f = scaled F.ring f (F.inverse (leading f))

-- the worksheet with f entered: its last code goes into the unit, and the rest, if it is no constant, is placed once
abbrev pub with_entry : FieldMeaning → SheetMeaning → List ℕ → SheetMeaning
with_entry F s f = record {
  unit = F.ring.product s.unit (leading f);
  parts = cond (degree f == 0) s.parts (place (monic_of F f) 1 s.parts);
}

-- To enter the polynomial f. The answer is its degree.
abbrev pub Entered : FieldMeaning → SheetMeaning → List ℕ → Result ℕ SheetFault → SheetMeaning → Type 0
Entered F s f (Ok d) t = (enter_refusal F.ring s f ≡ None) × (d ≡ degree f) × (t ≡ with_entry F s f)
Entered F s f (Err e) t = (enter_refusal F.ring s f ≡ Some e) × (t ≡ s)

-- The parts with p replaced by what it splits into. What is found is placed with the multiplicity of p, a root with that times the
-- characteristic; a part that stays whole is settled.
abbrev pub replaced : FieldMeaning → PartMeaning → Splitting → List PartMeaning → List PartMeaning
replaced F p (root r) ps = place r (p.times * F.characteristic) (without p.codes ps)
replaced F p (repeated g h) ps = place h p.times (place g p.times (without p.codes ps))
replaced F p (shifted g h) ps = place h p.times (place g p.times (without p.codes ps))
replaced F p whole ps = settle p.codes ps

-- An accepted step: the first open part is replaced by what it splits into, and the answer a is the kind, from 1 to 4, with two degrees.
pub record Replaces (F : FieldMeaning) (s : SheetMeaning) (a : ℕ × ℕ × ℕ) (t : SheetMeaning) : Type 0 where
  pub part : PartMeaning
  pub next : next_open s.parts ≡ Some part
  pub splitting : Splitting
  pub splits : SplitsInto F part.codes splitting
  pub answers : a ≡ answer F part.codes splitting
  pub unit : t.unit ≡ s.unit
  pub parts : t.parts ≡ replaced F part splitting s.parts

-- what a step answers, with the number of its kind
abbrev pub told : Result (Kind × ℕ × ℕ) SheetFault → Result (ℕ × ℕ × ℕ) SheetFault
told (Ok a) = Ok (numbered a)
told (Err e) = Err e

-- how many codes of scratch a step on this part uses
abbrev pub scratch_of : Option PartMeaning → ℕ
scratch_of None = 0
scratch_of (Some p) = scratch_size p.codes

-- One step. The codes of scratch that it used are 0 after it.
abbrev pub Stepped : FieldMeaning → SheetMeaning → List ℕ → Result (ℕ × ℕ × ℕ) SheetFault → SheetMeaning → List ℕ → Type 0
Stepped F s scratch (Ok a) t after = (step_refusal s scratch ≡ None) × Replaces F s a t × (after ≡ wiped (scratch_of (next_open s.parts)) scratch)
Stepped F s scratch (Err e) t after = (step_refusal s scratch ≡ Some e) × (t ≡ s) × (after ≡ scratch)

-- the codes of a part are in the buffer from index 0 on, and d is its degree
abbrev pub Gives : Option PartMeaning → List ℕ → ℕ → List ℕ → Type 0
Gives None buffer d after = ⊥
Gives (Some p) buffer d after = (d ≡ degree p.codes) × (after ≡ written p.codes buffer)

-- To take one of the settled part at place i into the buffer. The answer is its degree.
abbrev pub Taken : SheetMeaning → ℕ → List ℕ → Result ℕ SheetFault → SheetMeaning → List ℕ → Type 0
Taken s i buffer (Ok d) t after = (take_refusal s i buffer ≡ None) × Gives (part_at s.parts i) buffer d after × (t.unit ≡ s.unit) × (t.parts ≡ taken_at s.parts i)
Taken s i buffer (Err e) t after = (take_refusal s i buffer ≡ Some e) × (t ≡ s) × (after ≡ buffer)

-- n is the multiplicity of a part, and k its mark
abbrev pub Tells : Option PartMeaning → ℕ → Mark → Type 0
Tells None n k = ⊥
Tells (Some p) n k = (n ≡ p.times) × (k ≡ p.mark)

-- To read the part at place i into the buffer. The answer is its degree, its multiplicity and its mark.
abbrev pub Read : SheetMeaning → ℕ → List ℕ → Result (ℕ × ℕ × Mark) SheetFault → List ℕ → Type 0
Read s i buffer (Ok a) after = (read_refusal s i buffer ≡ None) × Gives (part_at s.parts i) buffer a.0 after × Tells (part_at s.parts i) a.1 a.2
Read s i buffer (Err e) after = (read_refusal s i buffer ≡ Some e) × (after ≡ buffer)
