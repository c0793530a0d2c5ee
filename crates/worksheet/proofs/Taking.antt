-- An accepted take moves one of a settled part out of the worksheet.
-- Main statement: take-kept.
use Rattle.std.proofs.Common.{◌≡◌, ℕ, suc, ◌+◌, ◌-◌, ◌<◌, ◌≤◌, Bool, true, false, not, leb, List, [], ◌∷◌, ◌++◌, length, take as first, drop, Some, None, Ok, Option, sym, refl, ap, ◌∙◌, subst, ap₂, mul-le-mul_left, arith}
use lib.Seq.{take-append_seam}
use Rattle.std.proofs.lemmas.Bool.{leb-true, leb-false, not-true, cond-true, cond-false}
use Rattle.algebra.specs.Ring.{Ring}
use Rattle.algebra.specs.Powers.{pow}
use Rattle.algebra.proofs.Laws.{mul_one}
use Rattle.algebra.proofs.Powers.{pow_one, pow_suc, prod_nil, prod_cons}
use Rattle.algebra.proofs.Solver.{ring, A, B, C, D, ◌:*◌}
use Rattle.field.specs.Checks.{unless, ◌or_else◌}
use Rattle.field.specs.Ring.{RingMeaning}
use Rattle.field.specs.Field.{FieldMeaning, FieldLaws}
use Rattle.field.specs.Polynomial.{degree}
use Rattle.field.specs.Polynomials.{P}
use Rattle.field.specs.Ranges.{passed, first_none}
use Rattle.worksheet.specs.declared.fault.SheetFault.{SheetFault}
use Rattle.worksheet.specs.declared.fault.SheetFault.TheVariants.{OpenPart}
use Rattle.worksheet.specs.Sheet.{PartMeaning, SheetMeaning, is_open, part_at, taken_once, taken_at, total_degree, GoodPart}
use Rattle.worksheet.specs.Faults.{of_part, buffer_refusal}
use Rattle.worksheet.specs.Calls.{Gives, Taken}
use Rattle.worksheet.specs.Law.{most_steps}
use Rattle.worksheet.proofs.EachOf.{each_back}
use Rattle.worksheet.proofs.PartLists.{Found, found_at}
use Rattle.worksheet.proofs.Measures.{degree_append, degree_cons, weight, weight_append, weight_cons, worth, worth_append, worth_cons}
use Rattle.worksheet.proofs.Keeping.{poly, Ps, unit_of, holds, Done, Sound, Whole, Kept}
use Rattle.worksheet.proofs.FineParts.{Fine, fine_of, fine_middle, Rest, rest_of}

-- a part that may be taken is not open
not_open : (b : Bool) (o : Option SheetFault) → (unless (not b) OpenPart or_else o) ≡ None → b ≡ false
not_open b o e = not-true b (passed (not b) OpenPart (first_none (unless (not b) OpenPart) o e))

module _ (F : FieldMeaning) (L : FieldLaws F) (Known : List ℕ → Type 0) where
  abbrev m : RingMeaning
  m = F.ring

  abbrev value : List ℕ → P m L.ring
  value = poly F L

  abbrev R : Ring (P m L.ring)
  R = Ps F L

  abbrev product_of_parts : List PartMeaning → P m L.ring
  product_of_parts = worth (Ps F L) (poly F L)

  -- one of p is taken away
  record Less (p : PartMeaning) (ps qs : List PartMeaning) : Type 0 where
    pub fine : Fine F L Known qs
    pub degrees : total_degree qs ≤ total_degree ps
    pub worths : product_of_parts ps ≡ R.◌⊗◌ (value p.codes) (product_of_parts qs)
    pub lighter : weight qs ≤ weight ps

  less : (front : List PartMeaning) (p : PartMeaning) (back : List PartMeaning) → Fine F L Known (front ++ p ∷ back) → is_open p.mark ≡ false → Less p (front ++ p ∷ back) (front ++ (taken_once p ++ back))
  less front p back w o = go (leb p.times 1) refl
    where
      r : Rest F L Known p (front ++ p ∷ back) (front ++ back)
      r = rest_of F L Known front p back w

      fewer : PartMeaning
      fewer = record { codes = p.codes; times = p.times - 1; mark = p.mark }

      none : leb p.times 1 ≡ true → Less p (front ++ p ∷ back) (front ++ back)
      none e = record {
        fine = r.fine;
        degrees = omega (arith, r.degrees);
        worths = r.worths ∙ ap (λ (x : P m L.ring). R.◌⊗◌ x (product_of_parts (front ++ back))) (ap (pow R (value p.codes)) single ∙ pow_one R (value p.codes));
        lighter = omega (arith, r.weights);
      }
        where
          single : p.times ≡ 1
          single = omega (arith, leb-true p.times 1 e, r.part.times)

      more : leb p.times 1 ≡ false → Less p (front ++ p ∷ back) (front ++ fewer ∷ back)
      more e = record {
        fine = fine_middle F L Known front p back (fewer ∷ []) (refl, refl)
            (record { canonical = r.part.canonical; monic = r.part.monic; positive = r.part.positive; times = omega (arith, leb-false p.times 1 e) }, tt)
            ((each_back (Done F L Known) front (p ∷ back) w.done).0, tt) w;
        degrees = omega (arith, degree_append front (p ∷ back), degree_append front (fewer ∷ back), degree_cons p back, degree_cons fewer back, mul-le-mul_left (degree p.codes) below);
        worths =
            r.worths ∙ ap (λ (n : ℕ). R.◌⊗◌ (pow R (value p.codes) n) (product_of_parts (front ++ back))) split
            ∙ ap₂ R.◌⊗◌ (pow_suc R (value p.codes) (p.times - 1)) (worth_append R value front back)
            ∙ ring R (value p.codes ∷ pow R (value p.codes) (p.times - 1) ∷ product_of_parts front ∷ product_of_parts back ∷ []) (A :* B :* (C :* D)) (A :* (C :* (B :* D))) refl
            ∙ ap (R.◌⊗◌ (value p.codes)) (sym (worth_append R value front (fewer ∷ back) ∙ ap (R.◌⊗◌ (product_of_parts front)) (worth_cons R value fewer back)));
        lighter = omega (arith, weight_append front (p ∷ back), weight_append front (fewer ∷ back), weight_cons p back, weight_cons fewer back);
      }
        where
          split : p.times ≡ suc (p.times - 1)
          split = omega (arith, r.part.times)

          below : p.times - 1 ≤ p.times
          below = omega arith

      go : (b : Bool) → leb p.times 1 ≡ b → Less p (front ++ p ∷ back) (front ++ (taken_once p ++ back))
      go true e = subst (λ (x : List PartMeaning). Less p (front ++ p ∷ back) (front ++ (x ++ back))) (sym (cond-true (leb p.times 1) [] (fewer ∷ []) e)) (none e)
      go false e = subst (λ (x : List PartMeaning). Less p (front ++ p ∷ back) (front ++ (x ++ back))) (sym (cond-false (leb p.times 1) [] (fewer ∷ []) e)) (more e)

  kept : (s t : SheetMeaning) (p : PartMeaning) → Sound F L Known s → t.unit ≡ s.unit → Whole F L Known p.codes → Less p s.parts t.parts → Kept F L Known [] (p.codes ∷ []) 0 s t
  unfolding most_steps
  kept s t p h e k w = record {
    sound = record {
      good = record {
        unit_code = subst (λ (u : ℕ). (0 < u) × (u < m.order)) (sym e) h.good.unit_code;
        parts = w.fine.parts;
        ordered = w.fine.ordered;
        fits = omega (arith, w.degrees, h.good.fits);
      };
      done = w.fine.done;
    };
    entered = tt;
    wholes = (k, tt);
    balance =
        ap₂ R.◌⊗◌ (ap₂ R.◌⊗◌ (ap (unit_of F L) (sym e)) w.worths) (prod_nil R) ∙ mul_one R _
        ∙ ring R (unit_of F L t.unit ∷ value p.codes ∷ product_of_parts t.parts ∷ []) (A :* (B :* C)) (A :* C :* B) refl
        ∙ ap (R.◌⊗◌ (holds F L t)) (sym (prod_cons R (value p.codes) [] ∙ ap (R.◌⊗◌ (value p.codes)) (prod_nil R) ∙ mul_one R _));
    few = omega (arith, w.lighter);
  }

  pub take_kept : (s : SheetMeaning) (i : ℕ) (buffer : List ℕ) (d : ℕ) (t : SheetMeaning) (after : List ℕ) → Sound F L Known s → Taken s i buffer (Ok d) t after → Kept F L Known [] (first (d + 1) after ∷ []) 0 s t
  take_kept s i buffer d t after h w = go (part_at s.parts i) refl w.0 w.1
    where
      go : (o : Option PartMeaning) → part_at s.parts i ≡ o → of_part o (λ p. unless (not (is_open p.mark)) OpenPart or_else buffer_refusal buffer p) ≡ None → Gives o buffer d after → Kept F L Known [] (first (d + 1) after ∷ []) 0 s t
      go None e r g = absurd g
      go (Some p) e r g = subst (λ (f : List ℕ). Kept F L Known [] (f ∷ []) 0 s t) (sym read) (kept s t p h w.2 k (subst (Less p s.parts) (sym (w.3 ∙ v.1)) (subst (λ (x : List PartMeaning). Less p x (v.0.front ++ (taken_once p ++ v.0.back))) (sym v.0.whole) (less v.0.front p v.0.back fine o))))
        where
          v : (x : Found p s.parts) × (taken_at s.parts i ≡ x.front ++ (taken_once p ++ x.back))
          v = found_at s.parts i p e

          fine : Fine F L Known (v.0.front ++ p ∷ v.0.back)
          fine = subst (Fine F L Known) v.0.whole (fine_of F L Known s h)

          o : is_open p.mark ≡ false
          o = not_open (is_open p.mark) _ r

          good : GoodPart m p
          good = (each_back (GoodPart m) v.0.front (p ∷ v.0.back) fine.parts).0

          k : Whole F L Known p.codes
          k = record { canonical = good.canonical; monic = good.monic; done = (each_back (Done F L Known) v.0.front (p ∷ v.0.back) fine.done).0 o }

          all : d + 1 ≡ length p.codes
          all = omega (arith, g.0, good.canonical.some_code)

          read : first (d + 1) after ≡ p.codes
          read = ap (first (d + 1)) g.1 ∙ ap (λ (n : ℕ). first n (p.codes ++ drop (length p.codes) buffer)) all ∙ take-append_seam p.codes _
