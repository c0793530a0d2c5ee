-- Why a small polynomial splits as it does, from equations that are computed.
-- Main statements: common, stays, by_divisor, by_shift, replaces.
use Rattle.std.proofs.Common.{◌≡◌, ℕ, zero, suc, ◌+◌, ◌<◌, ◌≤◌, true, false, not, List, Some, sym, refl, ap, ◌∙◌, subst, ap₂, inl, inr, le_of_suc-le-suc, not-suc-le-zero, eq-or-lt_of_le, lit<}
use Rattle.algebra.specs.Ring.{Ring}
use Rattle.algebra.proofs.Poly.{Polys}
use Rattle.algebra.proofs.Divides.{Divides as DividesPoly, dvd_sum, dvd_mul}
use Rattle.field.specs.Checks.{same}
use Rattle.field.specs.Ring.{RingMeaning}
use Rattle.field.specs.Field.{FieldMeaning, FieldLaws}
use Rattle.field.specs.Polynomial.{degree, leading, constant, zero_polynomial, sum, product, difference, derivative, polynomial_power, Canonical, IsCommonDivisor}
use Rattle.field.specs.Tests.{refuted, list_test}
use Rattle.field.specs.Scalars.{CodeScalars}
use Rattle.field.specs.Polynomials.{P, poly_of, poly_sum, poly_product, product_canonical}
use Rattle.field.proofs.Factors.{divides_to, divides_from}
use Rattle.field.proofs.Unsplittable.{unsplit, unsplittable_by}
use Rattle.split.specs.FixedRows.{variable}
use Rattle.split.specs.Splitting.{Splitting, repeated, shifted, whole, SplitsInto, ShiftDivisor, answer}
use Rattle.split.proofs.Modulo.{variable_canonical}
use Rattle.split.proofs.WholeSplitting.{whole_unsplittable}
use Rattle.worksheet.specs.Sheet.{PartMeaning, SheetMeaning, next_open}
use Rattle.worksheet.specs.Calls.{replaced, Replaces}

-- P of each number below n
abbrev pub Under : ℕ → (ℕ → Type 0) → Type 0
Under zero P = Unit {0}
Under (suc n) P = Under n P × P n

under : (n : ℕ) (P : ℕ → Type 0) → Under n P → (u : ℕ) → u < n → P u
under zero P x u h = absurd (not-suc-le-zero h)
under (suc n) P x u h = elim (eq-or-lt_of_le (le_of_suc-le-suc h)) [
  | inl e ↦ subst P (sym e) x.1
  | inr l ↦ under n P x.0 u l
]

-- what is computed: five lists, their sum, and a code
abbrev Computed : Type 0
Computed = List ℕ × List ℕ × List ℕ × List ℕ × List ℕ × List ℕ × ℕ

module _ (F : FieldMeaning) (L : FieldLaws F) where
  abbrev m : RingMeaning
  m = F.ring

  abbrev poly : List ℕ → P m L.ring
  poly = poly_of m L.ring

  abbrev R : Ring (P m L.ring)
  R = Polys (CodeScalars m L.ring)

  -- times one: the codes of a polynomial stay as they are
  abbrev once : List ℕ → List ℕ
  once f = product m f (constant 1)

  pub canonical_by : (f : List ℕ) → once f ≡ f → Canonical m f
  canonical_by f e = subst (Canonical m) e (product_canonical m L.ring f (constant 1))

  -- d is the common divisor of d h and d k, if it is monic and s times the one plus t times the other
  pub common : (d h k s t : List ℕ) →
      ◌≡◌ {A = Computed} (once d, once h, once k, once s, once t, sum m (product m s (product m d h)) (product m t (product m d k)), leading d) (d, h, k, s, t, d, 1) →
      IsCommonDivisor m (product m d h) (product m d k) d
  common d h k s t e = record {
    canonical = cd;
    divides_left = record { quotient = h; canonical = canonical_by h (ap (λ (x : Computed). x.1) e); multiplies = refl };
    divides_right = record { quotient = k; canonical = canonical_by k (ap (λ (x : Computed). x.2) e); multiplies = refl };
    greatest = λ c cc p q. divides_from m L.ring c d cc cd (subst (λ (x : P m L.ring). DividesPoly R (poly c) x) (sym sums)
        (dvd_sum R (poly c) _ _ (dvd_mul R (poly c) (poly f) (poly s) (divides_to m L.ring c f cc p)) (dvd_mul R (poly c) (poly g) (poly t) (divides_to m L.ring c g cc q))));
    form = inl (ap (λ (x : Computed). x.6) e);
  }
    where
      cd : Canonical m d
      cd = canonical_by d (ap (λ (x : Computed). x.0) e)

      f : List ℕ
      f = product m d h

      g : List ℕ
      g = product m d k

      multiple : (s f : List ℕ) → once s ≡ s → Canonical m f → poly (product m s f) ≡ R.◌⊗◌ (poly s) (poly f)
      multiple s f c k = poly_product m L.ring s f (canonical_by s c) k

      sums : poly d ≡ R.◌⊕◌ (R.◌⊗◌ (poly s) (poly f)) (R.◌⊗◌ (poly t) (poly g))
      sums =
          ap poly (sym (ap (λ (x : Computed). x.5) e)) ∙ poly_sum m L.ring (product m s f) (product m t g) (product_canonical m L.ring s f) (product_canonical m L.ring t g)
          ∙ ap₂ R.◌⊕◌ (multiple s f (ap (λ (x : Computed). x.3) e) (product_canonical m L.ring d h)) (multiple t g (ap (λ (x : Computed). x.4) e) (product_canonical m L.ring d k))

  -- a monic polynomial of positive degree at most 2 half + 1 stays whole if none of positive degree up to half divides it
  pub stays : (f : List ℕ) (half : ℕ) → once f ≡ f → leading f ≡ 1 → 0 < degree f → degree f ≤ suc (half + half) → unsplit m f half ≡ true → SplitsInto F f whole
  stays f half e o p d t = (whole_unsplittable F L f (canonical_by f e) o p).1 (unsplittable_by F L f (canonical_by f e) p half d t)

  -- g h, if its derivative is not zero, where h is a polynomial
  module _ (g h : List ℕ) (n : same (derivative m (product m g h)) zero_polynomial ≡ false) (c : once h ≡ h) where
    abbrev f : List ℕ
    f = product m g h

    some_derivative : derivative m f ≡ zero_polynomial → ⊥
    some_derivative z = refuted (same (derivative m f) zero_polynomial) (ap not n) (list_test z)

    -- g is its common divisor with the derivative
    pub by_divisor : IsCommonDivisor m f (derivative m f) g → 0 < degree g → SplitsInto F f (repeated g h)
    by_divisor k p = (some_derivative, k, p, canonical_by h c, refl)

    -- it divides X^q - X, with the quotient u, so that X is the least fixed polynomial, and g is its common divisor with X - w
    pub by_shift : (u : List ℕ) (w : ℕ) → once u ≡ u → product m f u ≡ difference m (polynomial_power m (variable m) m.order) (variable m) → 1 < degree f → w < m.order → 0 < degree g →
        IsCommonDivisor m f (derivative m f) (constant 1) → Under w (λ v. ShiftDivisor m f (variable m) v (constant 1)) → ShiftDivisor m f (variable m) w g → SplitsInto F f (shifted g h)
    by_shift u w cu d l code p k less here = (
      (some_derivative, k),
      (
        variable m,
        w,
        record {
          fixed = record { canonical = variable_canonical m L.ring; lower = l; divides = record { quotient = u; canonical = canonical_by u cu; multiplies = d } };
          monic = refl;
          constant_zero = refl;
          positive = lit< tt;
          least = λ v x y. y;
        },
        record { code = code; divisor = here; positive = p; smallest = under w (λ v. ShiftDivisor m f (variable m) v (constant 1)) less },
      ),
      canonical_by h c,
      refl,
    )

-- the step on the first open part p of s, which splits into k
pub replaces : (F : FieldMeaning) {s : SheetMeaning} {p : PartMeaning} (k : Splitting) → next_open s.parts ≡ Some p → SplitsInto F p.codes k →
    Replaces F s (answer F p.codes k) (record { unit = s.unit; parts = replaced F p k s.parts })
replaces F {p} k e w = record { part = p; next = e; splitting = k; splits = w; answers = refl; unit = refl; parts = refl }
