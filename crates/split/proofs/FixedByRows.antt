-- The search for a dependent row among X^(j q) - X^j modulo f finds the least fixed polynomial, or that there is none.
-- Main statements: none_found, least_found.
use Rattle.std.proofs.Common.{◌≡◌, ℕ, suc, ◌+◌, ◌-◌, ◌*◌, ◌<◌, ◌≤◌, List, sym, ap, ◌∙◌, subst, ap₂, zero-mul, arith}
use native.Mathlib.Decide.{dec_lt}
use Rattle.algebra.specs.Ring.{Ring, Field}
use Rattle.algebra.specs.Powers.{pow}
use Rattle.algebra.specs.Finite.{FiniteField}
use Rattle.algebra.proofs.Laws.{add_neg, ⊗_zero, zero_⊕}
use Rattle.algebra.proofs.Divides.{Divides as DividesPoly, dvd_zero}
use Rattle.algebra.proofs.Combination.{total_suc, combine, combine_coef}
use Rattle.algebra.proofs.Echelon.{total_same, total_none}
use Rattle.algebra.proofs.Poly.{Polys, poly_path, size, size_le, low, zero_coef}
use Rattle.algebra.proofs.Terms.{X}
use Rattle.algebra.proofs.Remainder.{Leading, field_leading, leading_size, rem_size, rem_unique, rem_zero}
use Rattle.algebra.proofs.Independence.{Independent as IndependentRows}
use Rattle.algebra.proofs.FixedSpace.{row, Least, least_by_rows, none_by_rows}
use Rattle.field.specs.Ring.{RingMeaning, one}
use Rattle.field.specs.Field.{FieldMeaning, FieldLaws}
use Rattle.field.specs.Polynomial.{coefficient, degree, Canonical}
use Rattle.field.specs.Rows.{IsRow}
use Rattle.field.specs.Coefficients.{polynomial_at, polynomial_beyond}
use Rattle.field.specs.Scalars.{Code, CodeRing, CodeScalars, code_path, zero_code, unit_code, zero_is_code, code_field, code_finite, scalar, scalar_of, scalar_zero}
use Rattle.field.specs.Polynomials.{P, Coded, code_at, poly_of, poly_of_coef, poly_of_at, list_of_poly, size_degree, positive_size, poly_difference, poly_monic, power_canonical, difference_canonical}
use Rattle.split.specs.Matrix.{cell, combined, Codes, Independent, Dependent}
use Rattle.split.specs.Splitting.{Fixed, LeastFixed}
use Rattle.split.specs.FixedRows.{variable, power_gap, row_polynomial, FixedRows}
use Rattle.split.proofs.Carrier.{combined_is, combined_same, combined_longer}
use Rattle.split.proofs.Rows.{row_code, combination_code}
use Rattle.split.proofs.Modulo.{poly_x_power, modulo_to}
use Rattle.split.proofs.Fixed.{fixed_to, smaller, least_from}

module _ (F : FieldMeaning) (L : FieldLaws F) (f : List ℕ) (c : Canonical F.ring f) (p : 0 < degree f) (d : ℕ) (sized : degree f ≡ d)
    (old : List ℕ) (hold : Codes F.ring (d * d) old) (rows : FixedRows F.ring f d old) where
  abbrev m : RingMeaning
  m = F.ring

  abbrev poly : List ℕ → P m L.ring
  poly = poly_of m L.ring

  abbrev R : Ring (Code m L.ring)
  R = CodeRing m L.ring

  abbrev Ps : Ring (P m L.ring)
  Ps = Polys (CodeScalars m L.ring)

  abbrev E : FiniteField (CodeScalars m L.ring)
  E = code_finite F L

  abbrev G : Field (CodeScalars m L.ring)
  G = code_field F L

  size_f : size (poly f) ≡ suc d
  size_f = omega (arith, size_degree m L.ring f c (omega (arith, positive_size m L.ring f c p)))

  lead : Leading (poly f)
  lead = field_leading G (poly f) (omega (arith, size_f))

  lead_deg : lead.deg ≡ d
  lead_deg = omega (arith, leading_size (poly f) G.apart lead, size_f)

  -- the rows of the algebra
  abbrev fixed_row : ℕ → P m L.ring
  fixed_row = row E (poly f) lead

  first_row : fixed_row 0 ≡ Ps.𝟘
  first_row = (rem_zero lead _).0 (subst (λ (x : P m L.ring). DividesPoly Ps (poly f) x) (sym none) (dvd_zero Ps (poly f)))
    where
      none : Ps.◌⊕◌ (pow Ps (X (CodeScalars m L.ring)) (0 * m.order)) (Ps.neg (pow Ps (X (CodeScalars m L.ring)) 0)) ≡ Ps.𝟘
      none = ap (λ (n : ℕ). Ps.◌⊕◌ (pow Ps (X (CodeScalars m L.ring)) n) (Ps.neg (pow Ps (X (CodeScalars m L.ring)) 0))) (zero-mul m.order) ∙ add_neg Ps _

  -- a row of the matrix as a polynomial
  row_coded : (j : ℕ) → j < d → Coded m (row_polynomial d old j)
  row_coded j h i = elim (dec_lt i d) [
    | yes k ↦ subst (λ (x : ℕ). x < m.order) (sym (polynomial_at d (cell old d j) i k)) (row_code m d j i old hold h k)
    | no k ↦ subst (λ (x : ℕ). x < m.order) (sym (polynomial_beyond d (cell old d j) i (omega arith))) (zero_is_code m L.ring)
  ]

  row_low : (j : ℕ) → size (poly (row_polynomial d old j)) ≤ lead.deg
  row_low j = size_le (poly (row_polynomial d old j)) lead.deg (λ i h. poly_of_coef m L.ring _ i ∙ ap (scalar m L.ring) (polynomial_beyond d (cell old d j) i (omega (arith, lead_deg))) ∙ scalar_zero m L.ring)

  gap_is : (j : ℕ) → poly (power_gap m j) ≡ Ps.◌⊕◌ (pow Ps (X (CodeScalars m L.ring)) (j * m.order)) (Ps.neg (pow Ps (X (CodeScalars m L.ring)) j))
  gap_is j =
      poly_difference m L.ring _ _ (power_canonical m L.ring (variable m) (j * m.order)) (power_canonical m L.ring (variable m) j)
      ∙ ap₂ (λ (x y : P m L.ring). Ps.◌⊕◌ x (Ps.neg y)) (poly_x_power m L.ring (j * m.order)) (poly_x_power m L.ring j)

  -- the matrix holds the rows of the algebra
  row_is : (j : ℕ) → 1 ≤ j → j < d → fixed_row j ≡ poly (row_polynomial d old j)
  row_is j h k = rem_unique lead _ _ (row_low j)
      (subst (λ (x : P m L.ring). DividesPoly Ps (poly f) (Ps.◌⊕◌ x (Ps.neg (poly (row_polynomial d old j))))) (gap_is j)
      (modulo_to m L.ring f c _ _ (code_at m L.ring _ (difference_canonical m L.ring _ _)) (row_coded j k) (rows j h k)))

  row_at : (j i : ℕ) → 1 ≤ j → j < d → i < d → (fixed_row j).coef i ≡ scalar m L.ring (cell old d j i)
  row_at j i h k l = ap (λ (x : P m L.ring). x.coef i) (row_is j h k) ∙ poly_of_coef m L.ring _ i ∙ ap (scalar m L.ring) (polynomial_at d (cell old d j) i l)

  -- a combination of the rows of the algebra, at one column
  column : (n i : ℕ) (b : ℕ → Code m L.ring) → n < d → i < d → ((combine (suc n) b fixed_row).coef i).0 ≡ combined m n (λ j. (b j).0) (λ j. cell old d j i)
  column n i b h k =
      ap (λ (x : Code m L.ring). x.0)
      (combine_coef (suc n) b fixed_row i
      ∙ total_suc R n _
      ∙ ap₂ R.◌⊕◌
      (ap (R.◌⊗◌ (b 0)) (ap (λ (x : P m L.ring). x.coef i) first_row ∙ zero_coef (CodeScalars m L.ring) i) ∙ ⊗_zero R (b 0))
      (total_same R n _ _ (λ j l. ap₂ R.◌⊗◌ (sym (scalar_of m L.ring (b (suc j)))) (row_at (suc j) i (omega arith) (omega arith) k)))
      ∙ zero_⊕ R _)
      ∙ combined_is m L.ring n (λ j. (b j).0) (λ j. cell old d j i) (λ j p q. (b j).1) (λ j p q. row_code m d j i old hold (omega arith) k)

  -- beyond the degree of f it is zero
  column_beyond : (n i : ℕ) (b : ℕ → Code m L.ring) → d ≤ i → (combine n b fixed_row).coef i ≡ R.𝟘
  column_beyond n i b h =
      combine_coef n b fixed_row i
      ∙ total_none R n _ (λ j l. ap (R.◌⊗◌ (b j)) (low (fixed_row j) i (omega (arith, rem_size lead (Ps.◌⊕◌ (pow Ps (X (CodeScalars m L.ring)) (j * m.order)) (Ps.neg (pow Ps (X (CodeScalars m L.ring)) j))), lead_deg))) ∙ ⊗_zero R (b j))

  -- independent rows of the matrix are independent in the algebra
  independent_to : (n : ℕ) → n < d → Independent m d n old → IndependentRows 1 (suc n) fixed_row
  independent_to n h ind b z j k l =
      code_path m L.ring
      (ind (λ i. (b i).0) (λ i. (b i).1)
      (λ i q. sym (column n i b h q) ∙ ap (λ (x : P m L.ring). (x.coef i).0) z ∙ ap (λ (x : Code m L.ring). x.0) (zero_coef (CodeScalars m L.ring) i) ∙ zero_code m L.ring)
      j k (omega arith) ∙ sym (zero_code m L.ring))

  independent_before : (n : ℕ) → 1 ≤ n → n ≤ d → Independent m d (n - 1) old → IndependentRows 1 n fixed_row
  independent_before n h k ind = let s : suc (n - 1) ≡ n = omega arith in subst (λ (x : ℕ). IndependentRows 1 x fixed_row) s (independent_to (n - 1) (omega arith) ind)

  -- If rows 1 to d - 1 are independent, there is no fixed polynomial of positive degree.
  pub none_found : Independent m d (d - 1) old → (v : List ℕ) → Fixed m f v → 0 < degree v → ⊥
  none_found ind v h k = none_by_rows E (poly f) lead d size_f (independent_before d (omega arith) (omega arith) ind)
      (record { v = poly v; positive = positive_size m L.ring v h.canonical k; below = smaller F L f v c h; fixed = fixed_to F L f v c h })

  -- If row e is the first that depends on those before it, the combination that shows it is the least fixed polynomial.
  module _ (new : List ℕ) (hnew : Codes m (2 * (d * d)) new) (e : ℕ) (dep : Dependent m d e old new) (Q : List ℕ) (is : IsRow Q (suc e) (cell new d (d + e))) where
    leads_one : coefficient Q (degree Q) ≡ one m
    leads_one = let s : degree Q ≡ e = omega (arith, is.sized) in ap (coefficient Q) s ∙ is.at e (omega arith) ∙ dep.unit

    canonical : Canonical m Q
    canonical = record {
      some_code = omega (arith, is.sized);
      codes = λ i h. subst (λ (x : ℕ). x < m.order) (sym (is.at i (omega (arith, is.sized)))) (combination_code m d e i new hnew dep.high (omega (arith, is.sized, dep.high)));
      leads = λ h z. omega (arith, leads_one, L.ring.one_code.0);
    }

    size_Q : size (poly Q) ≡ suc e
    size_Q = let k = poly_monic m L.ring Q canonical leads_one in omega (arith, k.sized, size_degree m L.ring Q canonical (omega (arith, k.sized)), is.sized)

    at : (j : ℕ) → j ≤ e → ((poly Q).coef j).0 ≡ cell new d (d + e) j
    at j h = poly_of_at m L.ring Q canonical j ∙ is.at j (omega arith)

    vanishes : combine (suc e) (poly Q).coef fixed_row ≡ Ps.𝟘
    vanishes = poly_path _ _ (λ i. elim (dec_lt i d) [
      | yes h ↦ code_path m L.ring (inside i h) ∙ sym (zero_coef (CodeScalars m L.ring) i)
      | no h ↦ column_beyond (suc e) i (poly Q).coef (omega arith) ∙ sym (zero_coef (CodeScalars m L.ring) i)
    ])
      where
        s : (d - 1 - e) + e ≡ d - 1
        s = omega (arith, dep.high)

        inside : (i : ℕ) → i < d → ((combine (suc e) (poly Q).coef fixed_row).coef i).0 ≡ R.𝟘.0
        inside i h =
            column e i (poly Q).coef dep.high h
            ∙ combined_same m L.ring e _ (cell new d (d + e)) (λ j. cell old d j i) (λ j p q. at j q)
            ∙ sym (combined_longer m L.ring (d - 1 - e) e (cell new d (d + e)) (λ j. cell old d j i)
            (λ j p q. combination_code m d e j new hnew dep.high (omega (arith, dep.high))) (λ j p q. row_code m d j i old hold (omega (arith, dep.high)) h)
            (λ j p q. dep.none_beyond j p (omega (arith, dep.high))))
            ∙ ap (λ (x : ℕ). combined m x (cell new d (d + e)) (λ j. cell old d j i)) s
            ∙ dep.vanishes i h ∙ sym (zero_code m L.ring)

    least : Least E (poly f) (poly Q)
    least = least_by_rows E (poly f) lead e (poly Q) dep.low (omega (arith, size_f, dep.high)) size_Q
        (code_path m L.ring (at e (omega arith) ∙ dep.unit ∙ sym (unit_code m L.ring)))
        (code_path m L.ring (at 0 (omega arith) ∙ dep.none_first ∙ sym (zero_code m L.ring)))
        (independent_before e dep.low (omega (arith, dep.high)) dep.least) vanishes

    pub least_found : LeastFixed m f Q
    least_found = subst (LeastFixed m f) (list_of_poly m L.ring Q canonical) (least_from F L f c p (poly Q) least)
