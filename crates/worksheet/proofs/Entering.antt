-- An accepted entry puts its leading code into the unit, and what is left, made monic, among the parts.
-- Main statement: enter-kept.
use Rattle.std.proofs.Common.{◌≡◌, ℕ, zero, suc, ◌+◌, ◌-◌, ◌*◌, ◌<◌, ◌≤◌, Bool, true, false, not, ◌&&◌, eqb, leb, List, [], ◌∷◌, map, length, get_or, Some, None, Ok, Option, sym, refl, ap, ◌∙◌, subst, ap₂, arith}
use native.Mathlib.Decide.{dec_lt}
use lib.ListN.{length-map, get_or-eq_default}
use Rattle.std.proofs.lemmas.List.{get_or-map}
use Rattle.std.proofs.lemmas.Bool.{leb-true, eq-eqb, eqb-true, eqb-false, cond-true, cond-false}
use Rattle.algebra.specs.Ring.{Ring}
use Rattle.algebra.proofs.Laws.{mul_one, mul_assoc, one_⊗, ⊗_zero}
use Rattle.algebra.proofs.Powers.{pow_one, prod_nil, prod_cons}
use Rattle.algebra.proofs.Solver.{ring, A, B, C, ◌:*◌}
use Rattle.algebra.proofs.Size.{no_zero_divisors}
use Rattle.algebra.proofs.Terms.{const, const_mul, const_mul_coef, const_one, is_const}
use Rattle.field.specs.Checks.{unless, ◌or_else◌}
use Rattle.field.specs.Ring.{RingMeaning, one}
use Rattle.field.specs.Field.{FieldMeaning, FieldLaws}
use Rattle.field.specs.Polynomial.{degree, leading, Canonical, Monic}
use Rattle.field.specs.Tests.{refuted}
use Rattle.field.specs.Scalars.{Code, CodeRing, CodeScalars, code_field, scalar, scalar_value, scalar_zero, scalar_one, scalar_product, scalar_nonzero, nonzero_positive, product_codes, zero_code}
use Rattle.field.specs.Polynomials.{P, code_at, poly_of_coef, poly_of_is, poly_of_size}
use Rattle.field.specs.Ranges.{some_none, passed, first_none, second_none}
use Rattle.poly.specs.declared.fault.PolyFault.{PolyFault}
use Rattle.poly.specs.Faults.{operand_refusal, is_zero}
use Rattle.poly.proofs.Operands.{taken_is_canonical}
use Rattle.worksheet.specs.declared.fault.SheetFault.{SheetFault}
use Rattle.worksheet.specs.declared.fault.SheetFault.TheVariants.{ZeroEntry, TotalDegree}
use Rattle.worksheet.specs.Sheet.{PartMeaning, SheetMeaning, most_degree, place, total_degree}
use Rattle.worksheet.specs.Faults.{passed_on, enter_refusal}
use Rattle.worksheet.specs.Calls.{scaled, monic_of, with_entry, Entered}
use Rattle.worksheet.specs.Law.{most_steps}
use Rattle.worksheet.proofs.Measures.{degree_place, weight, weight_place, worth, worth_place}
use Rattle.worksheet.proofs.Keeping.{poly, Ps, unit_of, holds, Sound, Kept}
use Rattle.worksheet.proofs.FineParts.{Fine, fine_of, fine_place}

none_passed : (o : Option PolyFault) → passed_on o ≡ None → o ≡ None
none_passed None e = refl
none_passed (Some x) e = absurd (some_none e)

module _ (F : FieldMeaning) (L : FieldLaws F) (Known : List ℕ → Type 0) where
  abbrev m : RingMeaning
  m = F.ring

  abbrev value : List ℕ → P m L.ring
  value = poly F L

  abbrev R : Ring (P m L.ring)
  R = Ps F L

  abbrev K : Ring (Code m L.ring)
  K = CodeRing m L.ring

  abbrev sc : ℕ → Code m L.ring
  sc = scalar m L.ring

  abbrev product_of_parts : List PartMeaning → P m L.ring
  product_of_parts = worth (Ps F L) (poly F L)

  -- what is known of an operand that is entered
  record Operand (s : SheetMeaning) (f : List ℕ) : Type 0 where
    pub canonical : Canonical m f
    pub leads : 0 < leading f
    pub fits : total_degree s.parts + degree f ≤ most_degree

  operand : (s : SheetMeaning) (f : List ℕ) → enter_refusal m s f ≡ None → Operand s f
  operand s f e = record { canonical = c; leads = positive (leading f) refl; fits = leb-true _ _ (passed _ TotalDegree (second_none not_zero not_long rest)) }
    where
      not_zero : Option SheetFault
      not_zero = unless (not (is_zero f)) ZeroEntry

      not_long : Option SheetFault
      not_long = unless (leb (total_degree s.parts + degree f) most_degree) TotalDegree

      rest : (not_zero or_else not_long) ≡ None
      rest = second_none (passed_on (operand_refusal m f)) (not_zero or_else not_long) e

      c : Canonical m f
      c = (taken_is_canonical m f (none_passed (operand_refusal m f) (first_none (passed_on (operand_refusal m f)) (not_zero or_else not_long) e))).0

      nonzero : leading f ≡ 0 → ⊥
      nonzero z = refuted (is_zero f) (passed (not (is_zero f)) ZeroEntry (first_none not_zero not_long rest)) (ap₂ ◌&&◌ (eq-eqb (length f) 1 single) (eq-eqb (leading f) 0 z))
        where
          single : length f ≡ 1
          single = elim (dec_lt 1 (length f)) [ yes l ↦ absurd (c.leads l z) | no l ↦ omega (arith, c.some_code) ]

      positive : (n : ℕ) → leading f ≡ n → 0 < leading f
      positive zero z = absurd (nonzero z)
      positive (suc n) z = omega arith

  -- f divided by its leading code
  record Divided (f g : List ℕ) : Type 0 where
    pub canonical : Canonical m g
    pub monic : Monic m g
    pub degrees : degree g ≡ degree f
    pub multiplies : value f ≡ R.◌⊗◌ (unit_of F L (leading f)) (value g)

  divided : (f : List ℕ) → Canonical m f → 0 < leading f → Divided f (monic_of F f)
  divided f c l = go (L.inverses.some (leading f) l code)
    where
      code : leading f < m.order
      code = code_at m L.ring f c (degree f)

      go : (b : ℕ) × (F.inverse (leading f) ≡ Some b) × (b < m.order) × (m.product (leading f) b ≡ one m) → Divided f (monic_of F f)
      go (b, e, hb, u) = subst (Divided f) (sym (ap (scaled m f) e)) (record { canonical = canonical; monic = leads; degrees = ap (λ (n : ℕ). n - 1) long; multiplies = multiplies })
        where
          g : List ℕ
          g = map (m.product b) f

          long : length g ≡ length f
          long = length-map f (m.product b)

          last : degree f < length f
          last = omega (arith, c.some_code)

          leads : leading g ≡ one m
          leads = ap (λ (n : ℕ). get_or g (n - 1) 0) long ∙ get_or-map (m.product b) f (degree f) 0 0 last ∙ L.ring.product_comm b (leading f) hb code ∙ u

          canonical : Canonical m g
          canonical = record {
            some_code = omega (arith, long, c.some_code);
            codes = λ i h. subst (λ (x : ℕ). x < m.order) (sym (get_or-map (m.product b) f i 0 0 (omega (arith, long)))) (L.ring.product_code b _);
            leads = λ h z. absurd (omega (arith, L.ring.one_code.0, sym leads ∙ z));
          }

          at : (i : ℕ) → get_or g i 0 ≡ ((R.◌⊗◌ (unit_of F L b) (value f)).coef i).0
          at i = elim (dec_lt i (length f)) [ yes h ↦ inside h | no h ↦ outside (omega arith) ]
            where
              whole : (R.◌⊗◌ (unit_of F L b) (value f)).coef i ≡ K.◌⊗◌ (sc b) (sc (get_or f i 0))
              whole = const_mul_coef (CodeScalars m L.ring) (sc b) (value f) i ∙ ap (K.◌⊗◌ (sc b)) (poly_of_coef m L.ring f i)

              inside : i < length f → get_or g i 0 ≡ ((R.◌⊗◌ (unit_of F L b) (value f)).coef i).0
              inside h =
                  get_or-map (m.product b) f i 0 0 h
                  ∙ sym (ap (λ (x : Code m L.ring). x.0) whole ∙ product_codes m L.ring _ _ ∙ ap₂ m.product (scalar_value m L.ring b hb) (scalar_value m L.ring _ (code_at m L.ring f c i)))

              outside : length f ≤ i → get_or g i 0 ≡ ((R.◌⊗◌ (unit_of F L b) (value f)).coef i).0
              outside h =
                  get_or-eq_default g 0 (omega (arith, long))
                  ∙ sym (ap (λ (x : Code m L.ring). x.0) (whole ∙ ap (K.◌⊗◌ (sc b)) (ap sc (get_or-eq_default f 0 h) ∙ scalar_zero m L.ring) ∙ ⊗_zero K (sc b)) ∙ zero_code m L.ring)

          multiplies : value f ≡ R.◌⊗◌ (unit_of F L (leading f)) (value g)
          multiplies = sym (
              ap (R.◌⊗◌ (unit_of F L (leading f))) (poly_of_is m L.ring g _ at) ∙ sym (mul_assoc R _ _ _)
              ∙ ap (λ (x : P m L.ring). R.◌⊗◌ x (value f)) (
              sym (const_mul (CodeScalars m L.ring) (sc (leading f)) (sc b))
              ∙ ap (const (CodeScalars m L.ring)) (sym (scalar_product m L.ring (leading f) b code hb) ∙ ap sc u ∙ scalar_one m L.ring)
              ∙ const_one (CodeScalars m L.ring))
              ∙ one_⊗ R (value f))

  -- the parts after an entry
  record Gained (f : List ℕ) (s : SheetMeaning) (qs : List PartMeaning) : Type 0 where
    pub fine : Fine F L Known qs
    pub fits : total_degree qs ≤ most_degree
    pub worths : R.◌⊗◌ (value f) (product_of_parts s.parts) ≡ R.◌⊗◌ (unit_of F L (leading f)) (product_of_parts qs)
    pub heavier : weight qs ≤ weight s.parts + (2 * degree f - 1)

  gained : (s : SheetMeaning) (f : List ℕ) → Sound F L Known s → Operand s f → Gained f s (with_entry F s f).parts
  gained s f h o = go (eqb (degree f) 0) refl
    where
      g : List ℕ
      g = monic_of F f

      d : Divided f g
      d = divided f o.canonical o.leads

      same : degree f ≡ 0 → Gained f s s.parts
      same z = record {
        fine = fine_of F L Known s h;
        fits = h.good.fits;
        worths = ap (λ (x : P m L.ring). R.◌⊗◌ x (product_of_parts s.parts)) (
            is_const (CodeScalars m L.ring) (value f) (omega (arith, poly_of_size m L.ring f o.canonical, o.canonical.some_code))
            ∙ ap (const (CodeScalars m L.ring)) (poly_of_coef m L.ring f 0 ∙ ap (λ (i : ℕ). sc (get_or f i 0)) (sym z)));
        heavier = omega arith;
      }

      placed : 0 < degree f → Gained f s (place g 1 s.parts)
      placed k = record {
        fine = fine_place F L Known g 1 s.parts d.canonical d.monic (omega (arith, d.degrees)) (omega arith) (fine_of F L Known s h);
        fits = omega (arith, degree_place g 1 s.parts, d.degrees, o.fits);
        worths =
            ap (λ (x : P m L.ring). R.◌⊗◌ x (product_of_parts s.parts)) d.multiplies ∙ mul_assoc R _ _ _
            ∙ ap (R.◌⊗◌ (unit_of F L (leading f))) (sym (worth_place R value g 1 s.parts ∙ ap (λ (x : P m L.ring). R.◌⊗◌ x (product_of_parts s.parts)) (pow_one R (value g))));
        heavier = omega (arith, weight_place g 1 s.parts, d.degrees);
      }

      go : (b : Bool) → eqb (degree f) 0 ≡ b → Gained f s (with_entry F s f).parts
      go true e = subst (Gained f s) (sym (cond-true (eqb (degree f) 0) s.parts (place g 1 s.parts) e)) (same (eqb-true _ _ e))
      go false e = subst (Gained f s) (sym (cond-false (eqb (degree f) 0) s.parts (place g 1 s.parts) e)) (placed (positive (degree f) refl))
        where
          positive : (n : ℕ) → degree f ≡ n → 0 < degree f
          positive zero z = absurd (eqb-false _ _ e z)
          positive (suc n) z = omega arith

  entered : (s : SheetMeaning) (f : List ℕ) → Sound F L Known s → Operand s f → Kept F L Known (f ∷ []) [] 0 s (with_entry F s f)
  unfolding most_steps
  entered s f h o = record {
    sound = record {
      good = record { unit_code = (positive, L.ring.product_code _ _); parts = w.fine.parts; ordered = w.fine.ordered; fits = w.fits };
      done = w.fine.done;
    };
    entered = (o.canonical, tt);
    wholes = tt;
    balance =
        ap (R.◌⊗◌ (holds F L s)) (prod_cons R (value f) [] ∙ ap (R.◌⊗◌ (value f)) (prod_nil R) ∙ mul_one R _)
        ∙ ring R (unit_of F L s.unit ∷ product_of_parts s.parts ∷ value f ∷ []) (A :* B :* C) (A :* (C :* B)) refl
        ∙ ap (R.◌⊗◌ (unit_of F L s.unit)) w.worths ∙ sym (mul_assoc R _ _ _)
        ∙ ap (λ (x : P m L.ring). R.◌⊗◌ x (product_of_parts (with_entry F s f).parts))
        (sym (ap (const (CodeScalars m L.ring)) (scalar_product m L.ring s.unit (leading f) h.good.unit_code.1 code) ∙ const_mul (CodeScalars m L.ring) _ _))
        ∙ sym (ap (R.◌⊗◌ (holds F L (with_entry F s f))) (prod_nil R) ∙ mul_one R _);
    few = omega (arith, w.heavier);
  }
    where
      w : Gained f s (with_entry F s f).parts
      w = gained s f h o

      code : leading f < m.order
      code = code_at m L.ring f o.canonical (degree f)

      positive : 0 < m.product s.unit (leading f)
      positive = subst (λ (x : ℕ). 0 < x) (product_codes m L.ring _ _ ∙ ap₂ m.product (scalar_value m L.ring _ h.good.unit_code.1) (scalar_value m L.ring _ code))
          (nonzero_positive m L.ring (K.◌⊗◌ (sc s.unit) (sc (leading f)))
          (no_zero_divisors (code_field F L) (sc s.unit) (sc (leading f)) (scalar_nonzero m L.ring _ h.good.unit_code.1 h.good.unit_code.0) (scalar_nonzero m L.ring _ code o.leads)))

  pub enter_kept : (s : SheetMeaning) (f : List ℕ) (d : ℕ) (t : SheetMeaning) → Sound F L Known s → Entered F s f (Ok d) t → Kept F L Known (f ∷ []) [] 0 s t
  enter_kept s f d t h w = subst (Kept F L Known (f ∷ []) [] 0 s) (sym w.2) (entered s f h (operand s f w.0))
