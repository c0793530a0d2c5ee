-- An accepted step keeps what a worksheet holds and lowers its weight; it settles a part exactly if that does not split.
-- Main statements: step_kept, step_settles.
use Rattle.std.proofs.Common.{◌≡◌, ℕ, ◌+◌, ◌-◌, ◌*◌, ◌<◌, ◌≤◌, true, ◌↔◌, List, [], ◌∷◌, ◌++◌, Some, Ok, sym, refl, ap, ◌∙◌, subst, ap₂, inl, inr, mul_comm as times_comm, mul-le-mul_left, arith}
use Rattle.std.proofs.lemmas.Option.{same_Some}
use Rattle.std.proofs.lemmas.Bool.{cond-true}
use Rattle.algebra.specs.Ring.{Ring}
use Rattle.algebra.specs.Powers.{pow}
use Rattle.algebra.proofs.Powers.{mul_pow, pow_mul}
use Rattle.algebra.proofs.Solver.{ring, A, B, C, ◌:*◌}
use Rattle.algebra.proofs.Irreducible.{Irreducible}
use Rattle.field.specs.Ring.{RingMeaning}
use Rattle.field.specs.Field.{FieldMeaning, FieldLaws}
use Rattle.field.specs.Polynomial.{degree, Canonical, Monic, Splits}
use Rattle.field.specs.Polynomials.{P}
use Rattle.split.specs.Splitting.{Splitting, root, repeated, shifted, whole, SplitsInto, answer}
use Rattle.split.proofs.Splittings.{IsRoot, IsPair, kind_root, kind_repeated, kind_shifted, kind_whole}
use Rattle.split.proofs.WholeSplitting.{whole_or_splits, whole_unsplittable}
use Rattle.worksheet.specs.Sheet.{PartMeaning, SheetMeaning, place, without, settled, is_open, next_open, total_degree, Each, GoodPart, GoodSheet}
use Rattle.worksheet.specs.Calls.{replaced, Replaces, Stepped}
use Rattle.worksheet.specs.Law.{most_steps}
use Rattle.worksheet.proofs.EachOf.{each_back}
use Rattle.worksheet.proofs.PartLists.{Found, found_open, without_found, settle_found}
use Rattle.worksheet.proofs.Measures.{degree_place, degree_append, degree_cons, asks, weight, weight_place, weight_append, weight_cons, worth, worth_place, worth_append, worth_cons}
use Rattle.worksheet.proofs.FineParts.{Fine, fine_of, fine_place, fine_middle, Rest, rest_of}
use Rattle.worksheet.proofs.Keeping.{poly, Ps, unit_of, product_all, Sound, Kept}

-- `Known` says what is known of parts that are not open.
module _ (F : FieldMeaning) (L : FieldLaws F) (Known : List ℕ → Type 0) where
  abbrev m : RingMeaning
  m = F.ring

  abbrev value : List ℕ → P m L.ring
  value = poly F L

  abbrev R : Ring (P m L.ring)
  R = Ps F L

  abbrev product_of_parts : List PartMeaning → P m L.ring
  product_of_parts = worth (Ps F L) (poly F L)

  asks_open : (p : PartMeaning) → is_open p.mark ≡ true → asks p ≡ 2 * degree p.codes - 1
  asks_open p e = cond-true (is_open p.mark) (2 * degree p.codes - 1) 0 e

  -- parts that are what they were in other form, with less weight
  record Turned (ps qs : List PartMeaning) : Type 0 where
    pub fine : Fine F L Known qs
    pub degrees : total_degree qs ≡ total_degree ps
    pub worths : product_of_parts qs ≡ product_of_parts ps
    pub lighter : weight qs < weight ps

  kept : (s t : SheetMeaning) → Sound F L Known s → t.unit ≡ s.unit → Turned s.parts t.parts → Kept F L Known [] [] 1 s t
  unfolding most_steps
  kept s t h e w = record {
    sound = record {
      good = record {
        unit_code = subst (λ (u : ℕ). (0 < u) × (u < m.order)) (sym e) h.good.unit_code;
        parts = w.fine.parts;
        ordered = w.fine.ordered;
        fits = omega (arith, w.degrees, h.good.fits);
      };
      done = w.fine.done;
    };
    entered = tt;
    wholes = tt;
    balance = ap (λ (x : P m L.ring). R.◌⊗◌ x (product_all F L [])) (sym (ap₂ R.◌⊗◌ (ap (unit_of F L) e) w.worths));
    few = omega (arith, w.lighter);
  }

  module _ (p : PartMeaning) (ps rest : List PartMeaning) (w : Rest F L Known p ps rest) (open-part : is_open p.mark ≡ true) where
    root_turned : (r : List ℕ) → IsRoot F L p.codes r → Turned ps (place r (p.times * F.characteristic) rest)
    root_turned r k = record {
      fine = fine_place F L Known r _ rest k.canonical k.monic k.positive (positive p.times F.characteristic w.part.times k.two) w.fine;
      degrees = degree_place r _ rest ∙ ap (λ (x : ℕ). x + total_degree rest) (regroup (degree r) p.times F.characteristic ∙ ap (λ (d : ℕ). d * p.times) (sym k.degrees)) ∙ sym w.degrees;
      worths =
          worth_place R value r _ rest
          ∙ ap (λ (x : P m L.ring). R.◌⊗◌ x (product_of_parts rest))
          (ap (pow R (value r)) (times_comm p.times F.characteristic) ∙ pow_mul R (value r) F.characteristic p.times ∙ ap (λ (x : P m L.ring). pow R x p.times) k.multiplies)
          ∙ sym w.worths;
      lighter = omega (arith, weight_place r (p.times * F.characteristic) rest, w.weights, asks_open p open-part, k.degrees, k.positive, mul-le-mul_left (degree r) k.two);
    }
      where
        regroup : (a b c : ℕ) → a * (b * c) ≡ a * c * b
        regroup a b c = omega arith

        positive : (a b : ℕ) → 0 < a → 2 ≤ b → 0 < a * b
        positive a b h l = omega (arith, mul-le-mul_left a l)

    pair_turned : (g h : List ℕ) → IsPair F L p.codes g h → Turned ps (place h p.times (place g p.times rest))
    pair_turned g h k = record {
      fine = fine_place F L Known h _ _ k.right_canonical k.right_monic k.right_positive w.part.times (fine_place F L Known g _ rest k.left_canonical k.left_monic k.left_positive w.part.times w.fine);
      degrees =
          degree_place h _ _ ∙ ap (λ (x : ℕ). degree h * p.times + x) (degree_place g _ rest) ∙ regroup (degree g) (degree h) p.times (total_degree rest)
          ∙ ap (λ (d : ℕ). d * p.times + total_degree rest) k.degrees ∙ sym w.degrees;
      worths =
          worth_place R value h _ _ ∙ ap (R.◌⊗◌ (pow R (value h) p.times)) (worth_place R value g _ rest)
          ∙ ring R (pow R (value h) p.times ∷ pow R (value g) p.times ∷ product_of_parts rest ∷ []) (A :* (B :* C)) (B :* A :* C) refl
          ∙ ap (λ (x : P m L.ring). R.◌⊗◌ x (product_of_parts rest)) (sym (mul_pow R (value g) (value h) p.times) ∙ ap (λ (x : P m L.ring). pow R x p.times) (sym k.multiplies))
          ∙ sym w.worths;
      lighter = omega (arith, weight_place h p.times (place g p.times rest), weight_place g p.times rest, w.weights, asks_open p open-part, k.degrees, k.left_positive, k.right_positive);
    }
      where
        regroup : (a b n r : ℕ) → b * n + (a * n + r) ≡ (a + b) * n + r
        regroup a b n r = omega arith

  whole_turned : (front : List PartMeaning) (p : PartMeaning) (back : List PartMeaning) → Fine F L Known (front ++ p ∷ back) → is_open p.mark ≡ true → Known p.codes → Turned (front ++ p ∷ back) (front ++ settled p ∷ back)
  whole_turned front p back w o i = record {
    fine = fine_middle F L Known front p back (settled p ∷ []) (refl, refl) (record { canonical = g.canonical; monic = g.monic; positive = g.positive; times = g.times }, tt) ((λ _. i), tt) w;
    degrees = omega (arith, degree_append front (p ∷ back), degree_append front (settled p ∷ back), degree_cons p back, degree_cons (settled p) back);
    worths =
        worth_append R value front (settled p ∷ back) ∙ ap (R.◌⊗◌ (product_of_parts front)) (worth_cons R value (settled p) back ∙ sym (worth_cons R value p back))
        ∙ sym (worth_append R value front (p ∷ back));
    lighter = omega (arith, weight_append front (p ∷ back), weight_append front (settled p ∷ back), weight_cons p back, weight_cons (settled p) back, asks_open p o, g.positive);
  }
    where
      g : GoodPart m p
      g = (each_back (GoodPart m) front (p ∷ back) w.parts).0

  -- the four kinds
  turned : ((f : List ℕ) → Irreducible (value f) → Known f) → (front : List PartMeaning) (p : PartMeaning) (back : List PartMeaning) → Fine F L Known (front ++ p ∷ back) → is_open p.mark ≡ true → (sp : Splitting) → SplitsInto F p.codes sp → Turned (front ++ p ∷ back) (replaced F p sp (front ++ p ∷ back))
  turned known front p back w o sp k = go sp k
    where
      r : Rest F L Known p (front ++ p ∷ back) (front ++ back)
      r = rest_of F L Known front p back w

      out : without p.codes (front ++ p ∷ back) ≡ front ++ back
      out = without_found front p back w.ordered

      pair : (g h : List ℕ) → IsPair F L p.codes g h → Turned (front ++ p ∷ back) (place h p.times (place g p.times (without p.codes (front ++ p ∷ back))))
      pair g h v = subst (λ (x : List PartMeaning). Turned (front ++ p ∷ back) (place h p.times (place g p.times x))) (sym out) (pair_turned p (front ++ p ∷ back) (front ++ back) r o g h v)

      go : (sp : Splitting) → SplitsInto F p.codes sp → Turned (front ++ p ∷ back) (replaced F p sp (front ++ p ∷ back))
      go (root x) k = subst (λ (y : List PartMeaning). Turned (front ++ p ∷ back) (place x (p.times * F.characteristic) y)) (sym out)
          (root_turned p (front ++ p ∷ back) (front ++ back) r o x (kind_root F L p.codes r.part.canonical r.part.monic r.part.positive x k))
      go (repeated g h) k = pair g h (kind_repeated F L p.codes r.part.canonical r.part.monic r.part.positive g h k)
      go (shifted g h) k = pair g h (kind_shifted F L p.codes r.part.canonical r.part.monic r.part.positive g h k)
      go whole k = subst (λ (y : List PartMeaning). Turned (front ++ p ∷ back) y) (sym (settle_found front p back w.ordered))
          (whole_turned front p back w o (known p.codes (kind_whole F L p.codes r.part.canonical r.part.monic r.part.positive k)))

  pub step_kept : ((f : List ℕ) → Irreducible (value f) → Known f) → (s : SheetMeaning) (a : ℕ × ℕ × ℕ) (t : SheetMeaning) → Sound F L Known s → Replaces F s a t → Kept F L Known [] [] 1 s t
  step_kept known s a t h w = go (found_open s.parts w.part w.next)
    where
      go : Found w.part s.parts × (is_open w.part.mark ≡ true) → Kept F L Known [] [] 1 s t
      go (v, o) = kept s t h w.unit (subst (λ (qs : List PartMeaning). Turned s.parts qs) (sym w.parts)
          (subst (λ (ps : List PartMeaning). Turned ps (replaced F w.part w.splitting ps)) (sym v.whole)
          (turned known v.front w.part v.back (subst (Fine F L Known) v.whole (fine_of F L Known s h)) o w.splitting w.splits)))

module _ (F : FieldMeaning) (L : FieldLaws F) where
  -- a step settles its part exactly if that does not split
  settled_exactly : (f : List ℕ) → Canonical F.ring f → Monic F.ring f → 0 < degree f → (sp : Splitting) → SplitsInto F f sp → ((answer F f sp).0 ≡ 4) ↔ (Splits F.ring f → ⊥)
  settled_exactly f c e h sp k = (
    λ a. (whole_unsplittable F L f c e h).0 (subst (SplitsInto F f) (kind_four sp a) k),
    λ n. elim (whole_or_splits F L f c e h sp k) [ inl q ↦ ap (λ (x : Splitting). (answer F f x).0) q | inr s ↦ absurd (n s) ],
  )
    where
      kind_four : (sp : Splitting) → (answer F f sp).0 ≡ 4 → sp ≡ whole
      kind_four (root r) a = absurd (omega arith)
      kind_four (repeated g x) a = absurd (omega arith)
      kind_four (shifted g x) a = absurd (omega arith)
      kind_four whole a = refl

  pub step_settles : (s : SheetMeaning) → GoodSheet F.ring s → (scratch after : List ℕ) (a : ℕ × ℕ × ℕ) (t : SheetMeaning) (p : PartMeaning) → Stepped F s scratch (Ok a) t after → next_open s.parts ≡ Some p →
      (a.0 ≡ 4) ↔ (Splits F.ring p.codes → ⊥)
  step_settles s h scratch after a t p w e = subst (λ (q : PartMeaning). (a.0 ≡ 4) ↔ (Splits F.ring q.codes → ⊥)) same
      (subst (λ (x : ℕ × ℕ × ℕ). (x.0 ≡ 4) ↔ (Splits F.ring r.part.codes → ⊥)) (sym r.answers) (settled_exactly r.part.codes g.canonical g.monic g.positive r.splitting r.splits))
    where
      r : Replaces F s a t
      r = w.1

      same : r.part ≡ p
      same = same_Some r.part p (sym r.next ∙ e)

      v : Found r.part s.parts
      v = (found_open s.parts r.part r.next).0

      g : GoodPart F.ring r.part
      g = (each_back (GoodPart F.ring) v.front (r.part ∷ v.back) (subst (Each (GoodPart F.ring)) v.whole h.parts)).0
