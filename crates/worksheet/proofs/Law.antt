-- The law of splitting, from what every run keeps and from unique factorisation.
-- Main statement: law.
use Rattle.std.proofs.Common.{◌≡◌, ℕ, ◌<◌, ◌≤◌, Bool, true, false, cond, List, [], ◌∷◌, ◌++◌, map, sym, refl, ap, ◌∙◌, subst, ap₂, arith}
use Rattle.algebra.specs.Ring.{Ring}
use Rattle.algebra.specs.Lists.{In, Permuted}
use Rattle.algebra.proofs.Laws.{mul_one, one_⊗, mul_assoc}
use Rattle.algebra.proofs.Lists.{in_map}
use Rattle.algebra.proofs.Powers.{prod_cons}
use Rattle.algebra.proofs.Terms.{const, const_one}
use Rattle.algebra.proofs.Irreducible.{Atom, Irreducible, unique}
use Rattle.field.specs.Ring.{RingMeaning}
use Rattle.field.specs.Field.{FieldMeaning, FieldLaws}
use Rattle.field.specs.Polynomial.{constant, product_of, Canonical, Monic, Unsplittable}
use Rattle.extension.specs.Extension.{Extends}
use Rattle.extension.specs.Judging.{extensions_judged, extensions_are_fields}
use Rattle.field.specs.Scalars.{Code, CodeScalars, code_field, scalar, scalar_value, scalar_one, scalar_nonzero}
use Rattle.field.specs.Polynomials.{P, list_of, list_of_poly, poly_of_injective, poly_constant, poly_product_of, poly_monic, product_of_canonical, constant_canonical, AllCanonical}
use Rattle.field.proofs.Factors.{unsplittable_to, unsplittable_from}
use Rattle.worksheet.specs.Sheet.{PartMeaning, SheetMeaning, empty, is_open, open_count, standing, Each, GoodPart}
use Rattle.worksheet.specs.Law.{Event, Run, entries, taken, steps, most_steps, occurrences, Reordered, IsSplitting, Holds, Law}
use Rattle.worksheet.proofs.EachOf.{each_map, each_both, each_append, each_in}
use Rattle.worksheet.proofs.Measures.{weight_nil, worth_nil, worth_standing}
use Rattle.worksheet.proofs.Keeping.{poly, Ps, unit_of, product_all, product_each_append, holds, Done, Whole, Kept}
use Rattle.worksheet.proofs.Stepping.{step_settles}
use Rattle.worksheet.proofs.Runs.{empty_sound, run_kept}
use Rattle.worksheet.proofs.Counts.{each_standing, permuted_map, occurrences_permuted}

-- with none open, no part is open
none_open : (ps : List PartMeaning) → open_count ps ≡ 0 → Each (λ p. is_open p.mark ≡ false) ps
unfolding open_count
none_open [] e = tt
none_open (p ∷ ps) e = (go (is_open p.mark) refl, none_open ps (omega arith))
  where
    go : (b : Bool) → is_open p.mark ≡ b → is_open p.mark ≡ false
    go true o = absurd (omega (arith, ap {B = ℕ} (λ (b : Bool). cond b 1 0) o))
    go false o = o

module _ (F : FieldMeaning) (L : FieldLaws F) where
  abbrev m : RingMeaning
  m = F.ring

  abbrev value : List ℕ → P m L.ring
  value = poly F L

  abbrev R : Ring (P m L.ring)
  R = Ps F L

  -- what is known of a part that is not open
  abbrev Known : List ℕ → Type 0
  Known f = Irreducible (value f)

  all_canonical : (fs : List (List ℕ)) → Each (Canonical m) fs → AllCanonical m L.ring fs
  all_canonical [] a = tt
  all_canonical (f ∷ fs) a = (a.0, all_canonical fs a.1)

  -- the polynomial of a product of lists
  poly_all : (fs : List (List ℕ)) → Each (Canonical m) fs → value (product_of m fs) ≡ product_all F L fs
  poly_all fs a = poly_product_of m L.ring fs (all_canonical fs a)

  -- that of a unit and a list
  poly_unit : (u : ℕ) (fs : List (List ℕ)) → u < m.order → Each (Canonical m) fs → value (product_of m (constant u ∷ fs)) ≡ R.◌⊗◌ (unit_of F L u) (product_all F L fs)
  poly_unit u fs h a = poly_all (constant u ∷ fs) (constant_canonical m L.ring u h, a) ∙ prod_cons R (value (constant u)) (map value fs) ∙ ap (λ (x : P m L.ring). R.◌⊗◌ x (product_all F L fs)) (poly_constant m L.ring u)

  -- a polynomial of a splitting is monic and irreducible
  whole_of : (f : List ℕ) → Unsplittable m f → Monic m f → Whole F L Known f
  whole_of f u e = record { canonical = u.0; monic = e; done = unsplittable_to m L.ring f u }

  whole_atom : (f : List ℕ) → Whole F L Known f → Atom (value f)
  whole_atom f w = record { monic = poly_monic m L.ring f w.canonical w.monic; irreducible = w.done }

  all_wholes : (fs : List (List ℕ)) → Each (Unsplittable m) fs → Each (Monic m) fs → Each (Whole F L Known) fs
  all_wholes [] a b = tt
  all_wholes (f ∷ fs) a b = (whole_of f a.0 b.0, all_wholes fs a.1 b.1)

  atoms : (fs : List (List ℕ)) → Each (Whole F L Known) fs → (x : P m L.ring) → In x (map value fs) → Atom x
  atoms fs a x i = let r = in_map value x fs i in subst Atom (sym r.2) (whole_atom r.0 (each_in (Whole F L Known) fs r.0 a r.1))

  wholes_canonical : (fs : List (List ℕ)) → Each (Whole F L Known) fs → Each (Canonical m) fs
  wholes_canonical fs a = each_map (Whole F L Known) (Canonical m) (λ f w. w.canonical) fs a

  back : (fs : List (List ℕ)) → Each (Canonical m) fs → map (list_of m L.ring) (map value fs) ≡ fs
  back [] a = refl
  back (f ∷ fs) a = ap₂ ◌∷◌ (list_of_poly m L.ring f a.0) (back fs a.1)

  -- two units with unsplittable monic polynomials that have the same product are the same, up to order
  splitting_unique : (u v : ℕ) (fs gs : List (List ℕ)) → (0 < u) × (u < m.order) → (0 < v) × (v < m.order) → Each (Whole F L Known) fs → Each (Whole F L Known) gs
      → product_of m (constant u ∷ fs) ≡ product_of m (constant v ∷ gs) → (u ≡ v) × Reordered fs gs
  splitting_unique u v fs gs hu hv a b e = go (unique (code_field F L) (sc u) (sc v) (map value fs) (map value gs) (scalar_nonzero m L.ring u hu.1 hu.0) (scalar_nonzero m L.ring v hv.1 hv.0) (atoms fs a) (atoms gs b) equal)
    where
      sc : ℕ → Code m L.ring
      sc = scalar m L.ring

      equal : R.◌⊗◌ (unit_of F L u) (product_all F L fs) ≡ R.◌⊗◌ (unit_of F L v) (product_all F L gs)
      equal = sym (poly_unit u fs hu.1 (wholes_canonical fs a)) ∙ ap value e ∙ poly_unit v gs hv.1 (wholes_canonical gs b)

      go : (scalar m L.ring u ≡ scalar m L.ring v) × Permuted (map value fs) (map value gs) → (u ≡ v) × Reordered fs gs
      go (c, p) = (
        sym (scalar_value m L.ring u hu.1) ∙ ap (λ (x : Code m L.ring). x.0) c ∙ scalar_value m L.ring v hv.1,
        λ f. ap (occurrences f) (sym (back fs (wholes_canonical fs a))) ∙ occurrences_permuted f (permuted_map (list_of m L.ring) p) ∙ ap (occurrences f) (back gs (wholes_canonical gs b)),
      )

  module _ (es : List Event) (s : SheetMeaning) (run : Run F (empty m) es s) where
    k : Kept F L Known (entries es) (taken es) (steps es) (empty m) s
    k = run_kept F L Known (λ f i. i) es (empty m) s (empty_sound F L Known) run

    left_canonical : Each (Canonical m) (standing s.parts ++ taken es)
    left_canonical = each_append (Canonical m) (standing s.parts) (taken es)
        (each_standing (Canonical m) s.parts (each_map (GoodPart m) (λ p. Canonical m p.codes) (λ p g. g.canonical) s.parts k.sound.good.parts))
        (wholes_canonical (taken es) k.wholes)

    -- the empty worksheet is worth one
    begins : holds F L (empty m) ≡ R.𝟙
    begins = ap₂ R.◌⊗◌ (ap (const (CodeScalars m L.ring)) (scalar_one m L.ring) ∙ const_one (CodeScalars m L.ring)) (worth_nil R value) ∙ mul_one R _

    balance : product_of m (entries es) ≡ product_of m (constant s.unit ∷ standing s.parts ++ taken es)
    balance = poly_of_injective m L.ring _ _ (product_of_canonical m L.ring _) (product_of_canonical m L.ring _) (
        poly_all (entries es) k.entered
        ∙ sym (ap (λ (x : P m L.ring). R.◌⊗◌ x (product_all F L (entries es))) begins ∙ one_⊗ R _)
        ∙ k.balance ∙ mul_assoc R _ _ _
        ∙ ap (R.◌⊗◌ (unit_of F L s.unit)) (sym (product_each_append F L (standing s.parts) (taken es) ∙ ap (λ (x : P m L.ring). R.◌⊗◌ x (product_all F L (taken es))) (worth_standing R value s.parts)))
        ∙ sym (poly_unit s.unit (standing s.parts ++ taken es) k.sound.good.unit_code.1 left_canonical))

    -- with none open all that is left is monic and irreducible
    left_wholes : open_count s.parts ≡ 0 → Each (Whole F L Known) (standing s.parts ++ taken es)
    left_wholes o = each_append (Whole F L Known) (standing s.parts) (taken es) (each_standing (Whole F L Known) s.parts parts_whole) k.wholes
      where
        closed : Each (λ p. Irreducible (value p.codes)) s.parts
        closed = each_both (Done F L Known) (λ p. is_open p.mark ≡ false) (λ p. Irreducible (value p.codes)) (λ p d n. d n) s.parts k.sound.done (none_open s.parts o)

        parts_whole : Each (λ p. Whole F L Known p.codes) s.parts
        parts_whole = each_both (GoodPart m) (λ p. Irreducible (value p.codes)) (λ p. Whole F L Known p.codes) (λ p g i. record { canonical = g.canonical; monic = g.monic; done = i }) s.parts k.sound.good.parts closed

    complete : open_count s.parts ≡ 0 → IsSplitting m (product_of m (entries es)) s.unit (standing s.parts ++ taken es)
    complete o = record {
      code = k.sound.good.unit_code;
      unsplittable = each_map (Whole F L Known) (Unsplittable m) (λ f w. unsplittable_from m L.ring f w.canonical w.done) _ (left_wholes o);
      monic = each_map (Whole F L Known) (Monic m) (λ f w. w.monic) _ (left_wholes o);
      multiplies = sym balance;
    }

    only : open_count s.parts ≡ 0 → (unit : ℕ) (parts : List (List ℕ)) → IsSplitting m (product_of m (entries es)) unit parts → (unit ≡ s.unit) × Reordered parts (standing s.parts ++ taken es)
    only o unit parts w = splitting_unique unit s.unit parts _ w.code k.sound.good.unit_code (all_wholes parts w.unsplittable w.monic) (left_wholes o) (w.multiplies ∙ balance)

    few_steps : steps es ≤ most_steps (entries es)
    few_steps = omega (arith, k.few, weight_nil)

    run_holds : Holds F es s
    run_holds = record { balance = balance; settles = step_settles F L s k.sound.good; complete = complete; only = only; few_steps = few_steps }

-- The law of splitting.
pub law : Law
law F L = (
  λ events s run. run_holds F L events s run,
  λ k n refusal x. record {
    refused = λ e. (extensions_judged F L k n e refusal x).0;
    made = λ e. (extensions_judged F L k n e refusal x).1;
    field = λ e. extensions_are_fields F L k n (subst (Extends F k n) e x);
  },
)
