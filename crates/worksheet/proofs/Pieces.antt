-- What a step finds in its buffers: the pieces of the first open part, as its kind says. They are good, short and few enough.
-- Main statements: Begins, begins_row; RootPiece, PairPieces, the_root, the_pair, the_whole; chosen_within, few_times, part_taken.
use Rattle.std.proofs.Common.{◌≡◌, ℕ, ◌+◌, ◌-◌, ◌*◌, ◌/◌, ◌<◌, ◌≤◌, List, length, take, drop, replicate, Some, vec_items, vec_len, sym, refl, ap, ◌∙◌, mul_comm, mul-le-mul_left, mul-div_cancel, arith}
use Rattle.std.specs.List.{All}
use Rattle.std.proofs.lemmas.List.{take_at, length-append}
use Rattle.field.specs.Ring.{RingMeaning}
use Rattle.field.specs.Field.{FieldMeaning, FieldLaws, Told}
use Rattle.field.specs.Polynomial.{degree, Canonical}
use Rattle.poly.specs.Faults.{most_codes}
use Rattle.poly.specs.Calls.{written}
use Rattle.split.specs.Splitting.{Splitting, root, repeated, shifted, whole, SplitsInto, answer}
use Rattle.split.specs.Calls.{Taken, Pieces}
use Rattle.split.proofs.Splittings.{IsRoot, IsPair, kind_root, kind_repeated, kind_shifted}
use Rattle.worksheet.specs.declared.parts.Part.{Part}
use Rattle.worksheet.specs.declared.parts.Worksheet.{Worksheet}
use Rattle.worksheet.specs.Sheet.{PartMeaning, most_degree, part_at, place, without, total_degree, Each, GoodPart}
use Rattle.worksheet.specs.Places.{Chosen}
use Rattle.worksheet.specs.Calls.{replaced}
use Rattle.worksheet.specs.Meaning.{sheet_of, SheetMade, over}
use Rattle.worksheet.proofs.Limits.{SmallPart, small_parts}
use Rattle.worksheet.proofs.PartsHeld.{all_held, parts_length}
use Rattle.worksheet.proofs.Replacing.{each_part_at, within_at, total_at, longer_at}

-- a buffer that begins with the n codes of a piece
pub record Begins (buffer : List ℕ) (n : ℕ) (piece : List ℕ) : Type 0 where
  pub long : n ≡ length piece
  pub short : n ≤ most_codes
  pub some : 0 < n
  pub fits : n ≤ length buffer
  pub row : take n buffer ≡ piece

-- the part of the buffer from 0 to n
pub begins_row : {buffer : List ℕ} {n : ℕ} {piece : List ℕ} → Begins buffer n piece → take (n - 0) buffer ≡ piece
begins_row {buffer} {n} b = let e : n - 0 ≡ n = omega arith in ap (λ (k : ℕ). take k buffer) e ∙ b.row

begins : (m : RingMeaning) (piece zeros buffer : List ℕ) (d : ℕ) → Canonical m piece → d ≡ degree piece → degree piece ≤ most_degree → buffer ≡ written piece zeros → Begins buffer (d + 1) piece
begins m piece zeros buffer d c e h w = record {
  long = long;
  short = omega (arith, e);
  some = omega arith;
  fits = omega (arith, ap length w, length-append piece (drop (length piece) zeros));
  row = ap (take (d + 1)) w ∙ take_at piece (drop (length piece) zeros) (d + 1) (sym long);
}
  where
    long : d + 1 ≡ length piece
    long = omega (arith, e, c.some_code)

module _ (F : FieldMeaning) (L : FieldLaws F) (ps : List PartMeaning) (good : Each (GoodPart F.ring) ps) (fits : total_degree ps ≤ most_degree) (i : ℕ) (a : ℕ × ℕ × ℕ) (first second : List ℕ) (w : Chosen F ps i a first second) where
  abbrev p : PartMeaning
  p = w.part

  abbrev zeros : List ℕ
  zeros = replicate most_codes 0

  part : GoodPart F.ring w.part
  part = each_part_at (GoodPart F.ring) ps i w.part w.here good

  -- the degree of the part times its multiplicity is at most 127
  small : degree p.codes * p.times ≤ most_degree
  small = omega (arith, total_at ps i w.part w.here)

  low : degree p.codes ≤ most_degree
  low = omega (arith, small, mul-le-mul_left (degree p.codes) part.times)

  pub record RootPiece : Type 0 where
    pub piece : List ℕ
    pub splits : SplitsInto F p.codes (root piece)
    pub answers : a ≡ answer F p.codes (root piece)
    pub begins : Begins first (a.1 + 1) piece
    pub count : p.times * F.characteristic ≤ most_degree

  root_piece : a.0 ≡ 1 → RootPiece
  root_piece k = go w.split.into w.split.splits w.split.answers w.split.pieces
    where
      go : (s : Splitting) → SplitsInto F p.codes s → a ≡ answer F p.codes s → Pieces s zeros zeros first second → RootPiece
      go (root r) h e b = record {
        piece = r;
        splits = h;
        answers = e;
        begins = begins F.ring r zeros first a.1 is.canonical (ap (λ (t : ℕ × ℕ × ℕ). t.1) e ∙ quotient) (omega (arith, low, below)) b.0;
        count = omega (arith, small, is.degrees, mul-le-mul_left p.times above, mul_comm p.times (degree p.codes));
      }
        where
          is : IsRoot F L p.codes r
          is = kind_root F L p.codes part.canonical part.monic part.positive r h

          quotient : degree p.codes / F.characteristic ≡ degree r
          quotient = ap (λ (n : ℕ). n / F.characteristic) is.degrees ∙ mul-div_cancel (degree r) (omega (arith, is.two))

          above : F.characteristic ≤ degree p.codes
          above = omega (arith, is.degrees, mul-le-mul_left F.characteristic is.positive, mul_comm F.characteristic (degree r))

          below : degree r ≤ degree p.codes
          below = omega (arith, is.degrees, mul-le-mul_left (degree r) is.two)
      go (repeated g h) s e b = absurd (omega (arith, ap (λ (t : ℕ × ℕ × ℕ). t.0) e))
      go (shifted g h) s e b = absurd (omega (arith, ap (λ (t : ℕ × ℕ × ℕ). t.0) e))
      go whole s e b = absurd (omega (arith, ap (λ (t : ℕ × ℕ × ℕ). t.0) e))

  pub record PairPieces : Type 0 where
    pub splitting : Splitting
    pub left : List ℕ
    pub right : List ℕ
    pub splits : SplitsInto F p.codes splitting
    pub answers : a ≡ answer F p.codes splitting
    pub replaces : (qs : List PartMeaning) → replaced F w.part splitting qs ≡ place right p.times (place left p.times (without p.codes qs))
    pub left_begins : Begins first (a.1 + 1) left
    pub right_begins : Begins second (a.2 + 1) right
    pub room : length ps < most_degree

  pair_pieces : (a.0 ≡ 1 → ⊥) → (a.0 ≡ 4 → ⊥) → PairPieces
  pair_pieces k l = go w.split.into w.split.splits w.split.answers w.split.pieces
    where
      pair : (s : Splitting) (g h : List ℕ) → SplitsInto F p.codes s → IsPair F L p.codes g h → a ≡ answer F p.codes s → a.1 ≡ degree g → a.2 ≡ degree h → ((qs : List PartMeaning) → replaced F w.part s qs ≡ place h p.times (place g p.times (without p.codes qs))) → first ≡ written g zeros → second ≡ written h zeros → PairPieces
      pair s g h t is e d₁ d₂ b x y = record {
        splitting = s;
        left = g;
        right = h;
        splits = t;
        answers = e;
        replaces = b;
        left_begins = begins F.ring g zeros first a.1 is.left_canonical d₁ (omega (arith, low, is.degrees)) x;
        right_begins = begins F.ring h zeros second a.2 is.right_canonical d₂ (omega (arith, low, is.degrees)) y;
        room = omega (arith, longer_at F.ring ps i w.part w.here good (omega (arith, is.degrees, is.left_positive, is.right_positive)));
      }

      go : (s : Splitting) → SplitsInto F p.codes s → a ≡ answer F p.codes s → Pieces s zeros zeros first second → PairPieces
      go (root r) s e b = absurd (k (ap (λ (t : ℕ × ℕ × ℕ). t.0) e))
      go (repeated g h) s e b = pair (repeated g h) g h s (kind_repeated F L p.codes part.canonical part.monic part.positive g h s) e (ap (λ (t : ℕ × ℕ × ℕ). t.1) e) (ap (λ (t : ℕ × ℕ × ℕ). t.2) e) (λ qs. refl) b.0 b.1
      go (shifted g h) s e b = pair (shifted g h) g h s (kind_shifted F L p.codes part.canonical part.monic part.positive g h s) e (ap (λ (t : ℕ × ℕ × ℕ). t.1) e) (ap (λ (t : ℕ × ℕ × ℕ). t.2) e) (λ qs. refl) b.0 b.1
      go whole s e b = absurd (l (ap (λ (t : ℕ × ℕ × ℕ). t.0) e))

  whole_piece : a.0 ≡ 4 → SplitsInto F p.codes whole × (a ≡ answer F p.codes whole)
  whole_piece k = go w.split.into w.split.splits w.split.answers
    where
      go : (s : Splitting) → SplitsInto F p.codes s → a ≡ answer F p.codes s → SplitsInto F p.codes whole × (a ≡ answer F p.codes whole)
      go (root r) s e = absurd (omega (arith, ap (λ (t : ℕ × ℕ × ℕ). t.0) e))
      go (repeated g h) s e = absurd (omega (arith, ap (λ (t : ℕ × ℕ × ℕ). t.0) e))
      go (shifted g h) s e = absurd (omega (arith, ap (λ (t : ℕ × ℕ × ℕ). t.0) e))
      go whole s e = (s, e)

-- the same of a worksheet that is well made
module _ {T : Type 0} {t : Told T} {w : Worksheet T} {i : ℕ} {a : ℕ × ℕ × ℕ} {first second : List ℕ} (made : SheetMade t w) (chosen : Chosen (over t w) (sheet_of w).parts i a first second) where
  pub the_root : a.0 ≡ 1 → RootPiece (over t w) made.laws (sheet_of w).parts made.good.parts made.good.fits i a first second chosen
  the_root = root_piece (over t w) made.laws (sheet_of w).parts made.good.parts made.good.fits i a first second chosen

  pub the_pair : (a.0 ≡ 1 → ⊥) → (a.0 ≡ 4 → ⊥) → PairPieces (over t w) made.laws (sheet_of w).parts made.good.parts made.good.fits i a first second chosen
  the_pair = pair_pieces (over t w) made.laws (sheet_of w).parts made.good.parts made.good.fits i a first second chosen

  pub the_whole : a.0 ≡ 4 → SplitsInto (over t w) chosen.part.codes whole × (a ≡ answer (over t w) chosen.part.codes whole)
  the_whole = whole_piece (over t w) made.laws (sheet_of w).parts made.good.parts made.good.fits i a first second chosen

  pub chosen_within : i < vec_len w.parts
  chosen_within = omega (arith, within_at (sheet_of w).parts i chosen.part chosen.here, parts_length w.parts)

-- no multiplicity of a worksheet that is well made is above 127
pub few_times : {T : Type 0} {t : Told T} {w : Worksheet T} → SheetMade t w → All (λ (x : Part). x.times ≤ most_degree) (vec_items w.parts)
few_times {t = t} {w = w} made = all_held (SmallPart (t.meaning w.field) most_degree) (λ (x : Part). x.times ≤ most_degree) (λ x h. h.times) (vec_items w.parts) (small_parts (t.meaning w.field) (sheet_of w) made.good)

-- a good part of a worksheet is one that can be split
pub part_taken : (m : RingMeaning) (ps : List PartMeaning) → Each (GoodPart m) ps → total_degree ps ≤ most_degree → (i : ℕ) (p : PartMeaning) → part_at ps i ≡ Some p → Taken m p.codes
part_taken m ps good fits i p here = record { canonical = part.canonical; short = omega (arith, small, low, part.canonical.some_code); monic = part.monic; positive = part.positive }
  where
    part : GoodPart m p
    part = each_part_at (GoodPart m) ps i p here good

    small : degree p.codes * p.times ≤ most_degree
    small = omega (arith, total_at ps i p here)

    low : degree p.codes ≤ degree p.codes * p.times
    low = omega (arith, mul-le-mul_left (degree p.codes) part.times)
