-- Division with remainder: what the statements say of lists is what the algebra says of their polynomials. Over a field there is one
-- quotient with one remainder, and over any ring a division keeps the common divisors.
-- Main statements: inverse_none, inverse_nonzero, inverse_some; unit_code, taken_away, unit_zero; division_to, division_from, rows_division; division_exists, division_unique; common_step, common_row, common_none.
use Rattle.std.proofs.Common.{◌≡◌, ℕ, zero, suc, ◌-◌, ◌<◌, ◌≤◌, ◌≢◌, ◌⊎◌, List, [], ◌∷◌, length, get_or, Some, None, Option, sym, refl, ap, ◌∙◌, subst, ap₂, inl, inr, arith}
use native.Mathlib.Decide.{dec_lt}
use lib.ListN.{get_or-eq_default}
use Rattle.algebra.specs.Ring.{Ring, Field}
use Rattle.algebra.proofs.Laws.{add_zero, add_comm, ⊗_zero, mul_assoc, mul_comm, one_⊗, cancel}
use Rattle.algebra.proofs.Solver.{:0, :1, ◌:+◌, ◌:*◌, :neg, ◌:-◌, ring, A, B, C, D}
use Rattle.algebra.proofs.Poly.{Polys, size, low, zero_size}
use Rattle.algebra.proofs.Size.{Divided, divided, nonzero_size, poly_cancel}
use Rattle.algebra.proofs.Divides.{Divides as DividesPoly, dvd_mul, dvd_sum, dvd_rest, dvd_zero}
use Rattle.algebra.proofs.Terms.{const, const_mul, const_one}
use Rattle.algebra.proofs.Remainder.{Leading, field_leading, leading_size, small_equal}
use Rattle.field.specs.Ring.{RingMeaning, RingLaws, one}
use Rattle.field.specs.Field.{FieldMeaning, FieldLaws, Inverses}
use Rattle.field.specs.Polynomial.{coefficient, degree, leading, zero_polynomial, trimmed, or_zero, Canonical, Monic, Divides, IsDivision, IsCommonDivisor}
use Rattle.field.specs.Rows.{IsRow}
use Rattle.field.specs.Ranges.{some_none}
use Rattle.field.specs.Scalars.{Code, CodeRing, CodeScalars, below_path, zero_code, unit_code as one_code, product_zero, sum_codes, product_codes, opposite_codes, zero_product, opposite_zero, scalar, scalar_one, scalar_product, code_field}
use Rattle.field.specs.Polynomials.{P, Coded, code_at, poly_of, list_of, list_of_at, poly_of_list, list_of_canonical, poly_of_injective, poly_of_short, size_degree, is_zero, poly_zero, zero_canonical, canonical_unique, poly_product, poly_sum, product_canonical, sum_canonical}
use Rattle.field.proofs.Factors.{divides_to, divides_from}
use Rattle.field.proofs.RowPolynomials.{trimmed_coefficient, trimmed_canonical, poly_trimmed, poly_scaled, row_scaled, canonical_short, canonical_length}

-- what the inverse of a code tells
module _ (m : RingMeaning) (inverse : ℕ → Option ℕ) (I : Inverses m inverse) (a : ℕ) (code : a < m.order) where
  pub inverse_none : inverse a ≡ None → a ≡ 0
  inverse_none e = go (dec_lt 0 a)
    where
      go : Dec (0 < a) → a ≡ 0
      go (yes h) = absurd (some_none (sym (I.some a h code).1 ∙ e))
      go (no h) = omega arith

  pub inverse_nonzero : (u : ℕ) → inverse a ≡ Some u → a ≢ 0
  inverse_nonzero u e z = some_none (sym e ∙ ap inverse z ∙ I.none_zero)

  pub inverse_some : (u : ℕ) → inverse a ≡ Some u → m.product a u ≡ one m
  inverse_some u e = go (dec_lt 0 a)
    where
      go : Dec (0 < a) → m.product a u ≡ one m
      go (yes h) = let w = I.some a h code in let p : w.0 ≡ u = cc w.1 in ap (m.product a) (sym p) ∙ w.3
      go (no h) = let z : a ≡ 0 = omega arith in absurd (some_none (sym e ∙ ap inverse z ∙ I.none_zero))

module _ (m : RingMeaning) (L : RingLaws m) where
  abbrev R : Ring (P m L)
  R = Polys (CodeScalars m L)

  abbrev poly : List ℕ → P m L
  poly = poly_of m L

  -- a code v whose product with u is one: u is a code too, and v takes away what u takes from a code
  pub unit_code : (v u : ℕ) → v < m.order → m.product v u ≡ one m → u < m.order
  unit_code v u h i = go (dec_lt u m.order)
    where
      go : Dec (u < m.order) → u < m.order
      go (yes l) = l
      go (no l) = absurd (omega (arith, L.one_code.0, i, (L.no_product u v (omega arith)).1))

  pub taken_away : (v u a : ℕ) → v < m.order → a < m.order → m.product v u ≡ one m → m.sum a (m.product (m.opposite (m.product u a)) v) ≡ 0
  taken_away v u a hv ha i =
      sym (sum_codes m L x _ ∙ ap (m.sum a) (product_codes m L _ z ∙ ap (λ (w : ℕ). m.product w v) (opposite_codes m L _ ∙ ap m.opposite (product_codes m L y x))))
      ∙ ap (λ (w : Code m L). w.0) less ∙ zero_code m L
    where
      x : Code m L
      x = (a, ha)

      y : Code m L
      y = (u, unit_code v u hv i)

      z : Code m L
      z = (v, hv)

      e : (CodeRing m L).◌⊗◌ z y ≡ (CodeRing m L).𝟙
      e = below_path m.order (product_codes m L z y ∙ i ∙ sym (one_code m L))

      less : (CodeRing m L).◌⊕◌ x ((CodeRing m L).◌⊗◌ ((CodeRing m L).neg ((CodeRing m L).◌⊗◌ y x)) z) ≡ (CodeRing m L).𝟘
      less =
          ring (CodeRing m L) (x ∷ y ∷ z ∷ []) (A :+ :neg (B :* A) :* C) (A :- C :* B :* A) refl
          ∙ ap (λ (w : Code m L). (CodeRing m L).◌⊕◌ x ((CodeRing m L).neg ((CodeRing m L).◌⊗◌ w x))) e
          ∙ ring (CodeRing m L) (x ∷ []) (A :- :1 :* A) :0 refl

  pub unit_zero : (v u a : ℕ) → v < m.order → a < m.order → m.product v u ≡ one m → m.product u a ≡ 0 → a ≡ 0
  unit_zero v u a hv ha i z =
      sym (ap (m.sum a) (ap (λ (x : ℕ). m.product (m.opposite x) v) z ∙ ap (λ (x : ℕ). m.product x v) (opposite_zero m L) ∙ zero_product m L v hv) ∙ L.sum_zero a ha)
      ∙ taken_away v u a hv ha i

  pub division_to : (f g q r : List ℕ) → Canonical m g → IsDivision m f g q r → poly f ≡ R.◌⊕◌ (R.◌⊗◌ (poly q) (poly g)) (poly r)
  division_to f g q r c d =
      ap poly (sym d.adds_up) ∙ poly_sum m L _ r (product_canonical m L q g) d.remainder_canonical
      ∙ ap (λ (x : P m L). R.◌⊕◌ x (poly r)) (poly_product m L q g d.quotient_canonical c)

  -- the remainder is zero or of lower degree, by its coefficients
  low_remainder : (g r : List ℕ) → Canonical m r → ((i : ℕ) → degree g ≤ i → coefficient r i ≡ 0) → (r ≡ zero_polynomial) ⊎ (degree r < degree g)
  low_remainder g r c z = go (dec_lt 0 (degree g))
    where
      none : (i : ℕ) → 0 ≡ coefficient zero_polynomial i
      none zero = refl
      none (suc i) = refl

      go : Dec (0 < degree g) → (r ≡ zero_polynomial) ⊎ (degree r < degree g)
      go (yes h) = inr (omega (arith, canonical_short m r (degree g) c h z, c.some_code))
      go (no h) = inl (canonical_unique m r zero_polynomial c (zero_canonical m L) (λ i. z i (omega arith) ∙ none i))

  pub division_from : (f g q r : List ℕ) → Canonical m f → Canonical m g → Canonical m q → Canonical m r → poly f ≡ R.◌⊕◌ (R.◌⊗◌ (poly q) (poly g)) (poly r) →
      ((i : ℕ) → degree g ≤ i → coefficient r i ≡ 0) → IsDivision m f g q r
  division_from f g q r cf cg cq cr e z = record {
    quotient_canonical = cq;
    remainder_canonical = cr;
    adds_up = poly_of_injective m L _ f (sum_canonical m L _ r) cf
        (poly_sum m L _ r (product_canonical m L q g) cr ∙ ap (λ (x : P m L). R.◌⊕◌ x (poly r)) (poly_product m L q g cq cg) ∙ sym e);
    lower = low_remainder g r cr z;
  }

  -- rows of codes, with zeros at their ends
  pub rows_division : (f g q r : List ℕ) → Coded m f → Canonical m g → Coded m q → Coded m r → poly f ≡ R.◌⊕◌ (R.◌⊗◌ (poly q) (poly g)) (poly r) →
      ((i : ℕ) → degree g ≤ i → coefficient r i ≡ 0) → IsDivision m (or_zero (trimmed f)) g (or_zero (trimmed q)) (or_zero (trimmed r))
  rows_division f g q r cf cg cq cr e z =
      division_from (or_zero (trimmed f)) g (or_zero (trimmed q)) (or_zero (trimmed r)) (trimmed_canonical m L f cf) cg (trimmed_canonical m L q cq) (trimmed_canonical m L r cr)
      (poly_trimmed m L f ∙ e ∙ sym (ap₂ (λ (x y : P m L). R.◌⊕◌ (R.◌⊗◌ x (poly g)) y) (poly_trimmed m L q) (poly_trimmed m L r)))
      (λ i h. trimmed_coefficient r i ∙ z i h)

  -- a common divisor of divisor and remainder is one of dividend and divisor
  pub common_step : (f g q r d : List ℕ) → Canonical m f → Canonical m g → IsDivision m f g q r → IsCommonDivisor m g r d → IsCommonDivisor m f g d
  common_step f g q r d cf cg v w = record {
    canonical = w.canonical;
    divides_left = divides_from m L d f w.canonical cf (subst (DividesPoly R (poly d)) (sym whole)
        (dvd_sum R (poly d) _ _ (dvd_mul R (poly d) (poly g) (poly q) (divides_to m L d g w.canonical w.divides_left)) (divides_to m L d r w.canonical w.divides_right)));
    divides_right = w.divides_left;
    greatest = λ c cc p s. w.greatest c cc s (divides_from m L c r cc v.remainder_canonical
        (dvd_rest R (poly c) _ (poly r) (subst (DividesPoly R (poly c)) whole (divides_to m L c f cc p)) (dvd_mul R (poly c) (poly g) (poly q) (divides_to m L c g cc s))));
    form = elim w.form [ inl e ↦ inl e | inr z ↦ inr (zero_dividend z.0 z.1, z.0, z.2) ];
  }
    where
      whole : poly f ≡ R.◌⊕◌ (R.◌⊗◌ (poly q) (poly g)) (poly r)
      whole = division_to f g q r cg v

      zero_dividend : g ≡ zero_polynomial → r ≡ zero_polynomial → f ≡ zero_polynomial
      zero_dividend a b = (is_zero m L f cf).0
          (whole ∙ ap₂ (λ (x y : P m L). R.◌⊕◌ (R.◌⊗◌ (poly q) x) y) (ap poly a ∙ poly_zero m L) (ap poly b ∙ poly_zero m L)
          ∙ add_zero R _ ∙ ⊗_zero R (poly q))

  divides_zero : (d : List ℕ) → Canonical m d → Divides m d zero_polynomial
  divides_zero d c = divides_from m L d zero_polynomial c (zero_canonical m L) (subst (DividesPoly R (poly d)) (sym (poly_zero m L)) (dvd_zero R (poly d)))

  -- the monic multiple of a polynomial by a constant that has an inverse is the common divisor with zero
  common_scaled : (f d : List ℕ) (u v : ℕ) → Canonical m f → Canonical m d → u < m.order → v < m.order → m.product v u ≡ one m →
      poly d ≡ R.◌⊗◌ (const (CodeScalars m L) (scalar m L u)) (poly f) → Monic m d → IsCommonDivisor m f zero_polynomial d
  common_scaled f d u v cf cd lu lv i e k = record {
    canonical = cd;
    divides_left = divides_from m L d f cd cf (const (CodeScalars m L) (scalar m L v), sym back);
    divides_right = divides_zero d cd;
    greatest = λ c cc p s. divides_from m L c d cc cd (subst (DividesPoly R (poly c)) (sym e) (dvd_mul R (poly c) (poly f) _ (divides_to m L c f cc p)));
    form = inl k;
  }
    where
      back : R.◌⊗◌ (const (CodeScalars m L) (scalar m L v)) (poly d) ≡ poly f
      back =
          ap (R.◌⊗◌ (const (CodeScalars m L) (scalar m L v))) e ∙ sym (mul_assoc R _ _ (poly f))
          ∙ ap (λ (x : P m L). R.◌⊗◌ x (poly f)) (sym (const_mul (CodeScalars m L) _ _) ∙ ap (const (CodeScalars m L)) (sym (scalar_product m L v u lv lu) ∙ ap (scalar m L) i ∙ scalar_one m L) ∙ const_one (CodeScalars m L))
          ∙ one_⊗ R (poly f)

  -- a row that is scaled to be monic
  pub common_row : (old new : List ℕ) (u : ℕ) → Coded m old → m.product (leading (or_zero (trimmed old))) u ≡ one m →
      IsRow new (length old) (λ i. m.product u (get_or old i 0)) → IsCommonDivisor m (or_zero (trimmed old)) zero_polynomial (or_zero (trimmed new))
  common_row old new u c i w =
      common_scaled f d u (leading f) cf cd code_u code_v i (poly_trimmed m L new ∙ poly_scaled m L old new u c code_u w ∙ ap (R.◌⊗◌ (const (CodeScalars m L) (scalar m L u))) (sym (poly_trimmed m L old)))
      (ap (coefficient d) (ap (λ (k : ℕ). k - 1) long ∙ less) ∙ leads)
    where
      f : List ℕ
      f = or_zero (trimmed old)

      d : List ℕ
      d = or_zero (trimmed new)

      cf : Canonical m f
      cf = trimmed_canonical m L old c

      code_v : leading f < m.order
      code_v = code_at m L f cf (degree f)

      code_u : u < m.order
      code_u = unit_code (leading f) u code_v i

      cd : Canonical m d
      cd = trimmed_canonical m L new (λ k. subst (λ (x : ℕ). x < m.order) (sym (row_scaled m L old new u code_u w k)) (L.product_code u _))

      at : (k : ℕ) → coefficient d k ≡ m.product u (coefficient f k)
      at k = trimmed_coefficient new k ∙ row_scaled m L old new u code_u w k ∙ ap (m.product u) (sym (trimmed_coefficient old k))

      leads : coefficient d (degree f) ≡ one m
      leads = at (degree f) ∙ L.product_comm u (leading f) code_u code_v ∙ i

      long : length d ≡ suc (degree f)
      long = canonical_length m d (degree f) cd
          (λ k h. at k ∙ ap (m.product u) (get_or-eq_default f 0 (omega arith)) ∙ product_zero m L u code_u)
          (λ z. absurd (omega (arith, L.one_code.0, sym leads ∙ z)))

      less : suc (degree f) - 1 ≡ degree f
      less = omega arith

  -- zero is the common divisor of zeros
  pub common_none : IsCommonDivisor m zero_polynomial zero_polynomial zero_polynomial
  common_none = record {
    canonical = zero_canonical m L;
    divides_left = divides_zero zero_polynomial (zero_canonical m L);
    divides_right = divides_zero zero_polynomial (zero_canonical m L);
    greatest = λ c cc p s. p;
    form = inr (refl, refl, refl);
  }

module _ (F : FieldMeaning) (L : FieldLaws F) where
  abbrev m : RingMeaning
  m = F.ring

  abbrev polynomial : List ℕ → P m L.ring
  polynomial = poly_of m L.ring

  abbrev G : Field (CodeScalars m L.ring)
  G = code_field F L

  abbrev S : Ring (P m L.ring)
  S = Polys (CodeScalars m L.ring)

  some_size : (g : List ℕ) → Canonical m g → (g ≡ zero_polynomial → ⊥) → 1 ≤ size (polynomial g)
  some_size g c n = nonzero_size (polynomial g) (λ e. n ((is_zero m L.ring g c).0 e))

  pub division_exists : (f g : List ℕ) → Canonical m f → Canonical m g → (g ≡ zero_polynomial → ⊥) → (q : List ℕ) × (r : List ℕ) × IsDivision m f g q r
  division_exists f g cf cg n = go (divided G (polynomial f) (polynomial g) (some_size g cg n))
    where
      go : Divided (polynomial f) (polynomial g) → (q : List ℕ) × (r : List ℕ) × IsDivision m f g q r
      go v = (
        list_of m L.ring v.quotient,
        list_of m L.ring v.rest,
        division_from m L.ring f g _ _ cf cg (list_of_canonical m L.ring v.quotient) (list_of_canonical m L.ring v.rest)
            (v.adds_up ∙ sym (ap₂ (λ (x y : P m L.ring). S.◌⊕◌ (S.◌⊗◌ x (polynomial g)) y) (poly_of_list m L.ring v.quotient) (poly_of_list m L.ring v.rest)))
            (λ i h. list_of_at m L.ring v.rest i ∙ ap (λ (x : Code m L.ring). x.0) (low v.rest i (omega (arith, v.smaller, size_degree m L.ring g cg (some_size g cg n)))) ∙ zero_code m L.ring),
      )

  -- the size of a remainder
  low_size : (f g q r : List ℕ) (l : Leading (polynomial g)) → Canonical m g → 1 ≤ size (polynomial g) → IsDivision m f g q r → size (polynomial r) ≤ l.deg
  low_size f g q r l cg s d = elim d.lower [
    | inl z ↦ omega (arith, ap (λ (x : List ℕ). size (polynomial x)) z ∙ ap size (poly_zero m L.ring) ∙ zero_size (CodeScalars m L.ring))
    | inr h ↦ omega (arith, poly_of_short m L.ring r, d.remainder_canonical.some_code, leading_size (polynomial g) G.apart l, size_degree m L.ring g cg s)
  ]

  pub division_unique : (f g q r s t : List ℕ) → Canonical m g → (g ≡ zero_polynomial → ⊥) → IsDivision m f g q r → IsDivision m f g s t → (q ≡ s) × (r ≡ t)
  division_unique f g q r s t cg n a b = (
    poly_of_injective m L.ring q s a.quotient_canonical b.quotient_canonical same_quotient,
    poly_of_injective m L.ring r t a.remainder_canonical b.remainder_canonical same_rest,
  )
    where
      size_g : 1 ≤ size (polynomial g)
      size_g = some_size g cg n

      l : Leading (polynomial g)
      l = field_leading G (polynomial g) size_g

      -- two sums
      two : S.◌⊕◌ (S.◌⊗◌ (polynomial q) (polynomial g)) (polynomial r) ≡ S.◌⊕◌ (S.◌⊗◌ (polynomial s) (polynomial g)) (polynomial t)
      two = sym (division_to m L.ring f g q r cg a) ∙ division_to m L.ring f g s t cg b

      -- the difference of the remainders is a multiple of g
      apart : S.◌⊕◌ (polynomial r) (S.neg (polynomial t)) ≡ S.◌⊗◌ (S.◌⊕◌ (polynomial s) (S.neg (polynomial q))) (polynomial g)
      apart =
          ring S (S.◌⊗◌ (polynomial q) (polynomial g) ∷ polynomial r ∷ polynomial t ∷ []) (B :- C) (A :+ B :- C :- A) refl
          ∙ ap (λ (x : P m L.ring). S.◌⊕◌ (S.◌⊕◌ x (S.neg (polynomial t))) (S.neg (S.◌⊗◌ (polynomial q) (polynomial g)))) two
          ∙ ring S (polynomial s ∷ polynomial g ∷ polynomial t ∷ polynomial q ∷ []) (A :* B :+ C :- C :- D :* B) ((A :- D) :* B) refl

      same_rest : polynomial r ≡ polynomial t
      same_rest = small_equal l (polynomial r) (polynomial t) (low_size f g q r l cg size_g a) (low_size f g s t l cg size_g b) (_, apart)

      same_quotient : polynomial q ≡ polynomial s
      same_quotient = poly_cancel G (polynomial g) (polynomial q) (polynomial s) size_g
          (mul_comm S _ _ ∙ cancel S (polynomial t) _ _ (add_comm S _ _ ∙ ap (S.◌⊕◌ (S.◌⊗◌ (polynomial q) (polynomial g))) (sym same_rest) ∙ two ∙ add_comm S _ _) ∙ mul_comm S _ _)
