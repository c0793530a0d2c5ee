-- How large a worksheet can grow: its parts are few, and their multiplicities and lengths small.
-- Main statements: few_parts, small_parts.
use Rattle.std.proofs.Common.{ℕ, ◌*◌, ◌<◌, ◌≤◌, List, [], ◌∷◌, length, mul-le-mul_left, arith}
use Rattle.field.specs.Ring.{RingMeaning}
use Rattle.field.specs.Polynomial.{degree}
use Rattle.worksheet.specs.Sheet.{PartMeaning, SheetMeaning, most_degree, most_parts, total_degree, Each, GoodPart, GoodSheet}
use Rattle.worksheet.proofs.Measures.{degree_cons, degree_nil}

-- what a part adds to the total degree is at least its degree, and at least its multiplicity
larger_left : (d t : ℕ) → 0 < t → d ≤ d * t
larger_left d t h = omega (arith, mul-le-mul_left d h)

larger_right : (d t : ℕ) → 0 < d → t ≤ d * t
larger_right d t h = omega (arith, mul-le-mul_left t h)

module _ (m : RingMeaning) where
  pub parts_degree : (ps : List PartMeaning) → Each (GoodPart m) ps → length ps ≤ total_degree ps
  parts_degree [] h = omega (arith, degree_nil)
  parts_degree (p ∷ ps) h = omega (arith, parts_degree ps h.1, degree_cons p ps, larger_left (degree p.codes) p.times h.0.times, h.0.positive)

  -- a part of small multiplicity and degree
  pub record SmallPart (n : ℕ) (p : PartMeaning) : Type 0 where
    pub times : p.times ≤ n
    pub degrees : degree p.codes ≤ n

  parts_small : (ps : List PartMeaning) (n : ℕ) → total_degree ps ≤ n → Each (GoodPart m) ps → Each (SmallPart n) ps
  parts_small [] n l h = tt
  parts_small (p ∷ ps) n l h = (
    record {
      times = omega (arith, degree_cons p ps, larger_right (degree p.codes) p.times h.0.positive);
      degrees = omega (arith, degree_cons p ps, larger_left (degree p.codes) p.times h.0.times);
    },
    parts_small ps n (omega (arith, degree_cons p ps)) h.1,
  )

  module _ (s : SheetMeaning) (h : GoodSheet m s) where
    pub few_parts : length s.parts ≤ most_parts
    few_parts = omega (arith, parts_degree s.parts h.parts, h.fits)

    pub small_parts : Each (SmallPart most_degree) s.parts
    small_parts = parts_small s.parts most_degree h.fits h.parts
