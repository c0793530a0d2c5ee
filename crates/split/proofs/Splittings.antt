-- What the four kinds give: a p-th root, two proper factors, or that the polynomial does not split.
-- Main statements: kind_root, kind_repeated, kind_shifted, kind_whole; root_splits, pair_splits.
use Rattle.std.proofs.Common.{◌≡◌, ℕ, zero, suc, ◌+◌, ◌*◌, ◌<◌, ◌≤◌, List, length, sym, refl, ap, ◌∙◌, subst, ap₂, inl, inr, mul_comm as times_comm, mul-le-mul_left, arith}
use Rattle.algebra.specs.Ring.{Ring, Field}
use Rattle.algebra.specs.Powers.{pow}
use Rattle.algebra.specs.Finite.{FiniteField}
use Rattle.algebra.proofs.Powers.{pow_suc}
use Rattle.algebra.proofs.Poly.{Polys, size}
use Rattle.algebra.proofs.Size.{size_pow, one_size}
use Rattle.algebra.proofs.Gcd.{gcd_of}
use Rattle.algebra.proofs.Monic.{Monic as MonicPoly}
use Rattle.algebra.proofs.Linear.{minus}
use Rattle.algebra.proofs.Derivative.{der, gcd_der_smaller}
use Rattle.algebra.proofs.Irreducible.{Irreducible, Splits as SplitsPoly}
use Rattle.algebra.proofs.Berlekamp.{Splitter, shift_smaller}
use Rattle.algebra.proofs.Cases.{prime_p, share, share_is, p_root, p_root_coef, p_root_power, p_root_size, p_root_monic, settles}
use Rattle.field.specs.Ring.{RingMeaning, one, power}
use Rattle.field.specs.Field.{FieldMeaning, FieldLaws}
use Rattle.field.specs.Polynomial.{coefficient, degree, zero_polynomial, constant, product, difference, derivative, Canonical, Monic, IsCommonDivisor}
use Rattle.field.specs.Scalars.{Code, CodeScalars, code_field, code_finite, scalar, power_codes, power_code, zero_is_code}
use Rattle.field.specs.Polynomials.{P, poly_of, poly_of_at, list_of, poly_of_list, list_of_canonical, poly_of_size, size_degree, positive_size, given, is_zero, poly_one, poly_constant, poly_product, poly_difference, poly_derivative, poly_monic, monic_poly, derivative_canonical, difference_canonical, constant_canonical}
use Rattle.field.specs.Forms.{polynomial_canonical}
use Rattle.field.proofs.Factors.{common_size, product_degree, cofactor_monic}
use Rattle.split.proofs.Fixed.{fixed_from, smaller as lower_smaller}
use Rattle.split.specs.Splitting.{root, repeated, shifted, whole, SplitsInto, root_of, LeastFixed, SmallestShift}

module _ (F : FieldMeaning) (L : FieldLaws F) where
  abbrev m : RingMeaning
  m = F.ring

  abbrev pub poly : List ℕ → P m L.ring
  poly = poly_of m L.ring

  abbrev pub Ps : Ring (P m L.ring)
  Ps = Polys (CodeScalars m L.ring)

  abbrev E : FiniteField (CodeScalars m L.ring)
  E = code_finite F L

  abbrev G : Field (CodeScalars m L.ring)
  G = code_field F L

  -- f is the p-th power of r
  pub record IsRoot (f r : List ℕ) : Type 0 where
    pub canonical : Canonical m r
    pub monic : Monic m r
    pub positive : 0 < degree r
    pub two : 2 ≤ F.characteristic
    pub degrees : degree f ≡ degree r * F.characteristic
    pub multiplies : pow Ps (poly r) F.characteristic ≡ poly f

  -- f is the product of g and h, both monic and of positive degree
  pub record IsPair (f g h : List ℕ) : Type 0 where
    pub left_canonical : Canonical m g
    pub left_monic : Monic m g
    pub left_positive : 0 < degree g
    pub right_canonical : Canonical m h
    pub right_monic : Monic m h
    pub right_positive : 0 < degree h
    pub degrees : degree g + degree h ≡ degree f
    pub multiplies : poly f ≡ Ps.◌⊗◌ (poly g) (poly h)

  pub pair_splits : (f g h : List ℕ) → IsPair f g h → SplitsPoly (poly f)
  pair_splits f g h w = record {
    left = poly g;
    right = poly h;
    product = w.multiplies;
    left_positive = positive_size m L.ring g w.left_canonical w.left_positive;
    right_positive = positive_size m L.ring h w.right_canonical w.right_positive;
  }

  pub root_splits : (f r : List ℕ) → IsRoot f r → SplitsPoly (poly f)
  root_splits f r w = go F.characteristic refl
    where
      d : size (poly r) ≡ suc (degree r)
      d = size_degree m L.ring r w.canonical (omega (arith, positive_size m L.ring r w.canonical w.positive))

      go : (n : ℕ) → F.characteristic ≡ n → SplitsPoly (poly f)
      go zero e = absurd (omega (arith, w.two))
      go (suc zero) e = absurd (omega (arith, w.two))
      go (suc (suc n)) e = record {
        left = poly r;
        right = pow Ps (poly r) (suc n);
        product = sym w.multiplies ∙ ap (pow Ps (poly r)) e ∙ pow_suc Ps (poly r) (suc n);
        left_positive = positive_size m L.ring r w.canonical w.positive;
        right_positive = omega (arith, size_pow G (poly r) (degree r) (suc n) d, w.positive);
      }

  module _ (f : List ℕ) (cf : Canonical m f) (mf : Monic m f) (pf : 0 < degree f) where
    long : 2 ≤ size (poly f)
    long = positive_size m L.ring f cf pf

    monic : MonicPoly (poly f)
    monic = poly_monic m L.ring f cf mf

    -- a common divisor with f is monic
    divisor_monic : (g d : List ℕ) → IsCommonDivisor m f g d → Monic m d
    divisor_monic g d c = elim c.form [ inl e ↦ e | inr z ↦ absurd (omega (arith, pf, ap degree z.0)) ]

    -- a common divisor of positive degree that is smaller than f splits it
    pair : (k g h : List ℕ) → IsCommonDivisor m f k g → 0 < degree g → size (poly g) < size (poly f) → Canonical m h → product m g h ≡ f → IsPair f g h
    pair k g h c p l ch e = record {
      left_canonical = c.canonical;
      left_monic = divisor_monic k g c;
      left_positive = p;
      right_canonical = ch;
      right_monic = monic_poly m L.ring h ch (cofactor_monic G (poly f) (poly g) (poly h) monic (poly_monic m L.ring g c.canonical (divisor_monic k g c)) whole_product);
      right_positive = omega (arith, w.0, size_degree m L.ring f cf (omega (arith, long)), size_degree m L.ring g c.canonical w.1);
      degrees = w.0;
      multiplies = whole_product;
    }
      where
        whole_product : poly f ≡ Ps.◌⊗◌ (poly g) (poly h)
        whole_product = ap poly (sym e) ∙ poly_product m L.ring g h c.canonical ch

        w : (degree g + degree h ≡ degree f) × (1 ≤ size (poly g)) × (1 ≤ size (poly h))
        w = product_degree F L f g h cf c.canonical ch (omega (arith, long)) e

    -- the derivative of the statements and that of the algebra
    derivative_zero : derivative m f ≡ zero_polynomial → der (poly f) ≡ Ps.𝟘
    derivative_zero e = sym (poly_derivative m L.ring f cf) ∙ (is_zero m L.ring _ (derivative_canonical m L.ring f)).1 e

    derivative_nonzero : (derivative m f ≡ zero_polynomial → ⊥) → der (poly f) ≡ Ps.𝟘 → ⊥
    derivative_nonzero n e = n ((is_zero m L.ring _ (derivative_canonical m L.ring f)).0 (poly_derivative m L.ring f cf ∙ e))

    derivative_size : (d : List ℕ) → IsCommonDivisor m f (derivative m f) d → size (poly d) ≡ size (gcd_of G (poly f) (der (poly f))).gcd
    derivative_size d c = common_size F L f _ d cf (derivative_canonical m L.ring f) (omega (arith, long)) c ∙ ap (λ (x : P m L.ring). size (gcd_of G (poly f) x).gcd) (poly_derivative m L.ring f cf)

    -- kind 1
    pub kind_root : (r : List ℕ) → SplitsInto F f (root r) → IsRoot f r
    kind_root r s = subst (IsRoot f) (sym s.1) (go (p_root_size E (poly f) (degree f) (size_degree m L.ring f cf (omega (arith, long))) z))
      where
        z : der (poly f) ≡ Ps.𝟘
        z = derivative_zero s.0

        canonical : Canonical m (root_of F f)
        canonical = polynomial_canonical m _ _ (zero_is_code m L.ring) (λ i. power_code m L.ring _ _)

        go : (k : ℕ) × (size (p_root E (poly f)) ≡ suc k) × (degree f ≡ k * F.characteristic) → IsRoot f (root_of F f)
        go w = record {
          canonical = canonical;
          monic = monic_poly m L.ring _ canonical (subst MonicPoly (sym same) (p_root_monic E (poly f) monic z));
          positive = omega (arith, above w.0 w.2, at);
          two = (prime_p E).two;
          degrees = w.2 ∙ ap (λ (n : ℕ). n * F.characteristic) (sym at);
          multiplies = ap (λ (x : P m L.ring). pow Ps x F.characteristic) same ∙ p_root_power E (poly f) z;
        }
          where
            above : (k : ℕ) → degree f ≡ k * F.characteristic → 0 < k
            above zero e = absurd (omega (arith, pf))
            above (suc k) e = omega arith

            smaller : (k : ℕ) → degree f ≡ k * F.characteristic → k ≤ degree f
            smaller k e = omega (arith, mul-le-mul_left k (prime_p E).two)

            same : poly (root_of F f) ≡ p_root E (poly f)
            same = given m L.ring (length f) _ (p_root E (poly f)) (omega (arith, w.1, smaller w.0 w.2, cf.some_code)) (λ i.
                ap (λ (x : Code m L.ring). x.0) (p_root_coef E (poly f) i) ∙ power_codes m L.ring (share E) _
                ∙ ap₂ (power m) (poly_of_at m L.ring f cf (i * F.characteristic) ∙ ap (coefficient f) (times_comm i F.characteristic)) (share_is E))

            at : degree (root_of F f) ≡ w.0
            at = omega (arith, poly_of_size m L.ring _ canonical, ap size same, w.1)

    -- kind 2
    pub kind_repeated : (g h : List ℕ) → SplitsInto F f (repeated g h) → IsPair f g h
    kind_repeated g h s = pair (derivative m f) g h s.1 s.2 smaller s.3 s.4
      where
        smaller : size (poly g) < size (poly f)
        smaller = omega (arith, derivative_size g s.1, gcd_der_smaller G (poly f) (derivative_nonzero s.0) (gcd_of G (poly f) (der (poly f))))

    -- kind 3
    pub kind_shifted : (g h : List ℕ) → SplitsInto F f (shifted g h) → IsPair f g h
    kind_shifted g h s = pair k g h shift.divisor shift.positive smaller s.2 s.3
      where
        Q : List ℕ
        Q = s.1.0

        w : ℕ
        w = s.1.1

        least : LeastFixed m f Q
        least = s.1.2

        shift : SmallestShift m f Q w g
        shift = s.1.3

        k : List ℕ
        k = difference m Q (constant w)

        same : poly k ≡ minus (CodeScalars m L.ring) (poly Q) (scalar m L.ring w)
        same = poly_difference m L.ring Q (constant w) least.fixed.canonical (constant_canonical m L.ring w shift.code) ∙ ap (λ (x : P m L.ring). Ps.◌⊕◌ (poly Q) (Ps.neg x)) (poly_constant m L.ring w)

        Q_long : 2 ≤ size (poly Q)
        Q_long = positive_size m L.ring Q least.fixed.canonical least.positive

        smaller : size (poly g) < size (poly f)
        smaller = omega (
          arith,
          common_size F L f k g cf (difference_canonical m L.ring Q (constant w)) (omega (arith, long)) shift.divisor ∙ ap (λ (x : P m L.ring). size (gcd_of G (poly f) x).gcd) same,
          shift_smaller G m.order E.listing (poly f) (poly Q) (scalar m L.ring w) Q_long (lower_smaller F L f Q cf least.fixed) (gcd_of G (poly f) (minus (CodeScalars m L.ring) (poly Q) (scalar m L.ring w))),
        )

    -- kind 4
    pub kind_whole : SplitsInto F f whole → Irreducible (poly f)
    kind_whole s = (settles E (poly f) long (gcd_of G (poly f) (der (poly f))) alone).1 none
      where
        alone : size (gcd_of G (poly f) (der (poly f))).gcd ≡ 1
        alone = sym (derivative_size (constant (one m)) s.0.1) ∙ ap size (poly_one m L.ring) ∙ one_size G

        none : Splitter m.order (poly f) → ⊥
        none w = s.1 v (fixed_from F L f w.v cf pf w.below w.fixed) (omega (arith, poly_of_size m L.ring v cv, ap size (poly_of_list m L.ring w.v), w.positive))
          where
            v : List ℕ
            v = list_of m L.ring w.v

            cv : Canonical m v
            cv = list_of_canonical m L.ring w.v
