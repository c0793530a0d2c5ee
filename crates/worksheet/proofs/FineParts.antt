-- What every list of parts keeps, when a part is placed, taken out or replaced by one with the same codes.
-- Main statements: Fine, fine_of, fine_place, fine_middle; Rest, rest_of.
use Rattle.std.proofs.Common.{◌≡◌, ℕ, ◌+◌, ◌*◌, ◌<◌, List, [], ◌∷◌, ◌++◌, sym, refl, ap, ◌∙◌, arith}
use borrow.Author.Tests.{clash}
use Rattle.algebra.specs.Ring.{Ring}
use Rattle.algebra.specs.Powers.{pow}
use Rattle.algebra.proofs.Solver.{ring, A, B, C, ◌:*◌}
use Rattle.field.specs.Ring.{RingMeaning}
use Rattle.field.specs.Field.{FieldMeaning, FieldLaws}
use Rattle.field.specs.Polynomial.{degree, Canonical, Monic}
use Rattle.field.specs.Polynomials.{P}
use Rattle.worksheet.specs.Sheet.{PartMeaning, SheetMeaning, place, total_degree, Each, GoodPart, Ordered}
use Rattle.worksheet.proofs.EachOf.{each_back}
use Rattle.worksheet.proofs.PartLists.{place_each, place_ordered, middle_each, middle_ordered, SameCodes}
use Rattle.worksheet.proofs.Measures.{degree_append, degree_cons, asks, weight, weight_append, weight_cons, worth, worth_append, worth_cons}
use Rattle.worksheet.proofs.Keeping.{poly, Ps, Done, Sound}

-- `Known` says what is known of parts that are not open.
module _ (F : FieldMeaning) (L : FieldLaws F) (Known : List ℕ → Type 0) where
  abbrev m : RingMeaning
  m = F.ring

  abbrev value : List ℕ → P m L.ring
  value = poly F L

  abbrev R : Ring (P m L.ring)
  R = Ps F L

  abbrev product_of_parts : List PartMeaning → P m L.ring
  product_of_parts = worth (Ps F L) (poly F L)

  -- what every list of parts keeps, but for its total degree
  pub record Fine (ps : List PartMeaning) : Type 0 where
    pub parts : Each (GoodPart m) ps
    pub ordered : Ordered ps
    pub done : Each (Done F L Known) ps

  pub fine_of : (s : SheetMeaning) → Sound F L Known s → Fine s.parts
  fine_of s h = record { parts = h.good.parts; ordered = h.good.ordered; done = h.done }

  pub fine_place : (f : List ℕ) (n : ℕ) (ps : List PartMeaning) → Canonical m f → Monic m f → 0 < degree f → 0 < n → Fine ps → Fine (place f n ps)
  fine_place f n ps c e h k w = record {
    parts = place_each (GoodPart m) f n (record { canonical = c; monic = e; positive = h; times = k })
        (λ p _ g. record { canonical = g.canonical; monic = g.monic; positive = g.positive; times = omega (arith, g.times) }) ps w.parts;
    ordered = place_ordered f n ps w.ordered;
    done = place_each (Done F L Known) f n (λ o. absurd (clash (sym o))) (λ p _ d. d) ps w.done;
  }

  -- a list taken apart at p: what p is, and what is left without it
  pub record Rest (p : PartMeaning) (ps rest : List PartMeaning) : Type 0 where
    pub part : GoodPart m p
    pub fine : Fine rest
    pub degrees : total_degree ps ≡ degree p.codes * p.times + total_degree rest
    pub weights : weight ps ≡ asks p + weight rest
    pub worths : product_of_parts ps ≡ R.◌⊗◌ (pow R (value p.codes) p.times) (product_of_parts rest)

  -- the middle replaced by nothing, or by a part with the same codes
  pub fine_middle : (front : List PartMeaning) (p : PartMeaning) (back qs : List PartMeaning) → SameCodes p qs → Each (GoodPart m) qs → Each (Done F L Known) qs → Fine (front ++ p ∷ back) → Fine (front ++ (qs ++ back))
  fine_middle front p back qs c g d w = record {
    parts = middle_each (GoodPart m) front p back qs g w.parts;
    ordered = middle_ordered front p back qs c w.ordered;
    done = middle_each (Done F L Known) front p back qs d w.done;
  }

  pub rest_of : (front : List PartMeaning) (p : PartMeaning) (back : List PartMeaning) → Fine (front ++ p ∷ back) → Rest p (front ++ p ∷ back) (front ++ back)
  rest_of front p back w = record {
    part = (each_back (GoodPart m) front (p ∷ back) w.parts).0;
    fine = fine_middle front p back [] tt tt tt w;
    degrees = omega (arith, degree_append front (p ∷ back), degree_append front back, degree_cons p back);
    weights = omega (arith, weight_append front (p ∷ back), weight_append front back, weight_cons p back);
    worths =
        worth_append R value front (p ∷ back) ∙ ap (R.◌⊗◌ (product_of_parts front)) (worth_cons R value p back)
        ∙ ring R (product_of_parts front ∷ pow R (value p.codes) p.times ∷ product_of_parts back ∷ []) (A :* (B :* C)) (B :* (A :* C)) refl
        ∙ ap (R.◌⊗◌ (pow R (value p.codes) p.times)) (sym (worth_append R value front back));
  }
