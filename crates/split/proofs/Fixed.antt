-- Fixed polynomials, the least of them, and the smallest shift: of lists and of their polynomials.
-- Main statements: fixed_to, fixed_from, least_to, least_from, least_one, shift_exists, shift_one.
use Rattle.std.proofs.Common.{◌≡◌, ℕ, zero, suc, ◌<◌, ◌≤◌, ◌⊎◌, List, get_or, sym, ap, ◌∙◌, subst, inl, inr, le_of_suc-le-suc, eq-or-lt_of_le, arith}
use native.Mathlib.Decide.{dec_lt}
use lib.ListN.{get_or-eq_default}
use Rattle.algebra.specs.Ring.{Ring, Field}
use Rattle.algebra.specs.Powers.{pow}
use Rattle.algebra.specs.Finite.{FiniteField}
use Rattle.algebra.proofs.Divides.{Divides as DividesPoly}
use Rattle.algebra.proofs.Poly.{Polys, size}
use Rattle.algebra.proofs.Size.{dvd_one}
use Rattle.algebra.proofs.Gcd.{Shares}
use Rattle.algebra.proofs.Terms.{const}
use Rattle.algebra.proofs.Linear.{minus}
use Rattle.algebra.proofs.Monic.{Monic as MonicPoly}
use Rattle.algebra.proofs.Berlekamp.{Fixed as FixedPoly}
use Rattle.algebra.proofs.FixedSpace.{Least, least_unique}
use Rattle.algebra.proofs.Cases.{some_shift}
use Rattle.field.specs.Ring.{RingMeaning, one}
use Rattle.field.specs.Field.{FieldMeaning, FieldLaws}
use Rattle.field.specs.Polynomial.{degree, constant, difference, polynomial_power, Canonical, Monic}
use Rattle.field.specs.Scalars.{Code, CodeScalars, below_path, zero_code, code_field, code_finite, scalar_of}
use Rattle.field.specs.Polynomials.{P, canonical_unique, poly_of, poly_of_at, poly_of_injective, list_of, list_of_at, poly_of_list, list_of_canonical, poly_of_size, positive_size, poly_one, poly_constant, poly_difference, poly_power, poly_monic, monic_poly, difference_canonical, power_canonical, constant_canonical, one_canonical}
use Rattle.field.proofs.Factors.{divides_to, divides_from}
use Rattle.field.proofs.CommonDivisors.{common_monic, common_to, common_exists, common_unique}
use Rattle.split.specs.Splitting.{Fixed, LeastFixed, ShiftDivisor, SmallestShift}

-- a monic polynomial of degree 0 is one
pub monic_constant : (m : RingMeaning) (d : List ℕ) → Canonical m d → Canonical m (constant (one m)) → Monic m d → (0 < degree d → ⊥) → d ≡ constant (one m)
monic_constant m d c k e n = canonical_unique m d (constant (one m)) c k at
  where
    zeroth : 0 ≡ degree d
    zeroth = omega (arith, n)

    at : (i : ℕ) → get_or d i 0 ≡ get_or (constant (one m)) i 0
    at zero = ap (λ (i : ℕ). get_or d i 0) zeroth ∙ e
    at (suc i) = get_or-eq_default d 0 (omega (arith, n, c.some_code))

module _ (F : FieldMeaning) (L : FieldLaws F) where
  abbrev m : RingMeaning
  m = F.ring

  abbrev poly : List ℕ → P m L.ring
  poly = poly_of m L.ring

  abbrev list : P m L.ring → List ℕ
  list = list_of m L.ring

  abbrev Ps : Ring (P m L.ring)
  Ps = Polys (CodeScalars m L.ring)

  abbrev E : FiniteField (CodeScalars m L.ring)
  E = code_finite F L

  abbrev G : Field (CodeScalars m L.ring)
  G = code_field F L

  -- v^q - v
  gap_is : (v : List ℕ) → Canonical m v → poly (difference m (polynomial_power m v m.order) v) ≡ Ps.◌⊕◌ (pow Ps (poly v) m.order) (Ps.neg (poly v))
  gap_is v c =
      poly_difference m L.ring _ v (power_canonical m L.ring v m.order) c
      ∙ ap (λ (x : P m L.ring). Ps.◌⊕◌ x (Ps.neg (poly v))) (poly_power m L.ring v c m.order)

  pub fixed_to : (f v : List ℕ) → Canonical m f → Fixed m f v → FixedPoly m.order (poly f) (poly v)
  fixed_to f v c h = subst (λ (x : P m L.ring). DividesPoly Ps (poly f) x) (gap_is v h.canonical) (divides_to m L.ring f _ c h.divides)

  pub fixed_from : (f : List ℕ) (v : P m L.ring) → Canonical m f → 0 < degree f → size v < size (poly f) → FixedPoly m.order (poly f) v → Fixed m f (list v)
  fixed_from f v c p l h = record {
    canonical = list_of_canonical m L.ring v;
    lower = omega (arith, poly_of_size m L.ring (list v) (list_of_canonical m L.ring v), ap size (poly_of_list m L.ring v), l, poly_of_size m L.ring f c, p);
    divides = divides_from m L.ring f _ c (difference_canonical m L.ring _ (list v)) (subst (λ (x : P m L.ring). DividesPoly Ps (poly f) x)
        (sym (gap_is (list v) (list_of_canonical m L.ring v) ∙ ap (λ (x : P m L.ring). Ps.◌⊕◌ (pow Ps x m.order) (Ps.neg x)) (poly_of_list m L.ring v))) h);
  }

  -- of lower degree is smaller
  pub smaller : (f v : List ℕ) → Canonical m f → Fixed m f v → size (poly v) < size (poly f)
  smaller f v c h = omega (arith, poly_of_size m L.ring v h.canonical, poly_of_size m L.ring f c, h.lower)

  list_degree : (v : P m L.ring) → 2 ≤ size v → size v ≡ suc (degree (list v))
  list_degree v h = omega (arith, poly_of_size m L.ring (list v) (list_of_canonical m L.ring v), ap size (poly_of_list m L.ring v))

  module _ (f : List ℕ) (c : Canonical m f) (p : 0 < degree f) where
    pub least_to : (Q : List ℕ) → LeastFixed m f Q → Least E (poly f) (poly Q)
    least_to Q w = record {
      fixed = fixed_to f Q c w.fixed;
      monic = poly_monic m L.ring Q w.fixed.canonical w.monic;
      positive = positive_size m L.ring Q w.fixed.canonical w.positive;
      below = smaller f Q c w.fixed;
      no_constant = below_path m.order (poly_of_at m L.ring Q w.fixed.canonical 0 ∙ w.constant_zero ∙ sym (zero_code m L.ring));
      least = λ v h l b. omega (arith, w.least (list v) (fixed_from f v c p b h) (omega (arith, list_degree v l)), list_degree v l, poly_of_size m L.ring Q w.fixed.canonical, w.positive);
    }

    pub least_from : (v : P m L.ring) → Least E (poly f) v → LeastFixed m f (list v)
    least_from v w = record {
      fixed = fixed_from f v c p w.below w.fixed;
      monic = monic_poly m L.ring (list v) (list_of_canonical m L.ring v) (subst MonicPoly (sym (poly_of_list m L.ring v)) w.monic);
      constant_zero = list_of_at m L.ring v 0 ∙ ap (λ (x : Code m L.ring). x.0) w.no_constant ∙ zero_code m L.ring;
      positive = omega (arith, list_degree v w.positive, w.positive);
      least = λ u h k. omega (arith, w.least (poly u) (fixed_to f u c h) (positive_size m L.ring u h.canonical k) (smaller f u c h), list_degree v w.positive, poly_of_size m L.ring u h.canonical, w.positive);
    }

    -- there is one least fixed polynomial only
    pub least_one : (Q Q' : List ℕ) → LeastFixed m f Q → LeastFixed m f Q' → Q ≡ Q'
    least_one Q Q' a b = poly_of_injective m L.ring Q Q' a.fixed.canonical b.fixed.canonical (least_unique E (poly f) (poly Q) (poly Q') (least_to Q a) (least_to Q' b))

    long : 2 ≤ size (poly f)
    long = positive_size m L.ring f c p

    -- what a shift gives: a common divisor of positive degree, or one
    shift_or_one : (Q : List ℕ) (w : ℕ) → ((g : List ℕ) × ShiftDivisor m f Q w g × (0 < degree g)) ⊎ ShiftDivisor m f Q w (constant (one m))
    shift_or_one Q w = go (common_exists F L f (difference m Q (constant w)) c (difference_canonical m L.ring Q (constant w)) (omega (arith, long)))
      where
        go : (d : List ℕ) × ShiftDivisor m f Q w d → ((g : List ℕ) × ShiftDivisor m f Q w g × (0 < degree g)) ⊎ ShiftDivisor m f Q w (constant (one m))
        go (d, h) = elim (dec_lt 0 (degree d)) [
          | yes k ↦ inl (d, h, k)
          | no k ↦ inr (subst (ShiftDivisor m f Q w) (monic_constant m d h.canonical (one_canonical m L.ring) (common_monic F L f _ d (omega (arith, long)) h) k) h)
        ]

    -- the smallest among the first n
    first_shift : (Q : List ℕ) (n : ℕ) → n ≤ m.order → ((w : ℕ) × (g : List ℕ) × SmallestShift m f Q w g) ⊎ ((u : ℕ) → u < n → ShiftDivisor m f Q u (constant (one m)))
    first_shift Q zero l = inr (λ u h. absurd (omega arith))
    first_shift Q (suc n) l = go (first_shift Q n (omega arith)) (shift_or_one Q n)
      where
        go : ((w : ℕ) × (g : List ℕ) × SmallestShift m f Q w g) ⊎ ((u : ℕ) → u < n → ShiftDivisor m f Q u (constant (one m)))
            → ((g : List ℕ) × ShiftDivisor m f Q n g × (0 < degree g)) ⊎ ShiftDivisor m f Q n (constant (one m))
            → ((w : ℕ) × (g : List ℕ) × SmallestShift m f Q w g) ⊎ ((u : ℕ) → u < suc n → ShiftDivisor m f Q u (constant (one m)))
        go (inl r) d = inl r
        go (inr none) (inl (g, h, k)) = inl (n, g, record { code = l; divisor = h; positive = k; smallest = none })
        go (inr none) (inr h) = inr (λ u b. elim (eq-or-lt_of_le (le_of_suc-le-suc b)) [ inl e ↦ subst (λ (x : ℕ). ShiftDivisor m f Q x (constant (one m))) (sym e) h | inr k ↦ none u k ])

    -- some shift of the least fixed polynomial is of positive degree, so there is a smallest
    pub shift_exists : (Q : List ℕ) → LeastFixed m f Q → (w : ℕ) × (g : List ℕ) × SmallestShift m f Q w g
    shift_exists Q k = go (first_shift Q m.order (omega arith)) (some_shift E (poly f) (poly Q) long (fixed_to f Q c k.fixed))
      where
        go : ((w : ℕ) × (g : List ℕ) × SmallestShift m f Q w g) ⊎ ((u : ℕ) → u < m.order → ShiftDivisor m f Q u (constant (one m)))
            → (w : Code m L.ring) × Shares (poly f) (minus (CodeScalars m L.ring) (poly Q) w) → (w : ℕ) × (g : List ℕ) × SmallestShift m f Q w g
        go (inl r) s = r
        go (inr none) (w, s) = absurd (omega (arith, s.1, dvd_one G s.0.gcd divides))
          where
            k_is : poly (difference m Q (constant w.0)) ≡ minus (CodeScalars m L.ring) (poly Q) w
            k_is = poly_difference m L.ring Q (constant w.0) k.fixed.canonical (constant_canonical m L.ring w.0 w.1) ∙ ap (λ (x : P m L.ring). Ps.◌⊕◌ (poly Q) (Ps.neg x)) (poly_constant m L.ring w.0 ∙ ap (const (CodeScalars m L.ring)) (scalar_of m L.ring w))

            divides : DividesPoly Ps s.0.gcd Ps.𝟙
            divides = subst (λ (x : P m L.ring). DividesPoly Ps s.0.gcd x) (poly_one m L.ring)
                ((common_to F L f (difference m Q (constant w.0)) (constant (one m)) c (difference_canonical m L.ring Q (constant w.0)) (omega (arith, long)) (none w.0 w.1)).greatest s.0.gcd s.0.left
                (subst (λ (x : P m L.ring). DividesPoly Ps s.0.gcd x) (sym k_is) s.0.right))

    -- and one smallest only
    pub shift_one : (Q : List ℕ) (w w' : ℕ) (g g' : List ℕ) → SmallestShift m f Q w g → SmallestShift m f Q w' g' → (w ≡ w') × (g ≡ g')
    shift_one Q w w' g g' a b = (same, common_unique F L f _ g g' c (difference_canonical m L.ring Q (constant w)) (omega (arith, long)) a.divisor (subst (λ (x : ℕ). ShiftDivisor m f Q x g') (sym same) b.divisor))
      where
        apart : (u v : ℕ) (x y : List ℕ) → SmallestShift m f Q u x → SmallestShift m f Q v y → u < v → ⊥
        apart u v x y s t l = absurd (omega (arith, s.positive, ap degree (common_unique F L f _ x (constant (one m)) c (difference_canonical m L.ring Q (constant u)) (omega (arith, long)) s.divisor (t.smallest u l))))

        same : w ≡ w'
        same = elim (dec_lt w w') [ yes l ↦ absurd (apart w w' g g' a b l) | no l ↦ elim (dec_lt w' w) [ yes k ↦ absurd (apart w' w g' g b a k) | no k ↦ omega arith ] ]
