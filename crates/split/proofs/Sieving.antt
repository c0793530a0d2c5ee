-- A polynomial t with f dividing t(Q) tells the shifts that are worth a try: f itself where Q is X, and what a dependent row among
-- the powers of Q gives.
-- Main statements: value_point, sieve_composed, sieve_itself, relation_is.
use Rattle.std.proofs.Common.{◌≡◌, ℕ, zero, suc, ◌+◌, ◌-◌, ◌*◌, ◌<◌, ◌≤◌, cond, eqb, List, [], ◌∷◌, length, sym, ap, ◌∙◌, subst, ap₂, arith}
use native.Mathlib.Decide.{dec_lt}
use Rattle.std.proofs.lemmas.Bool.{cond-false, ne_eqb}
use Rattle.algebra.specs.Ring.{Ring, Scalars}
use Rattle.algebra.specs.Powers.{pow}
use Rattle.algebra.proofs.Laws.{add_neg, neg_zero, zero_⊗, ⊗_zero, mul_one, add_zero}
use Rattle.algebra.proofs.Divides.{Divides as DividesPoly, dvd_refl}
use Rattle.algebra.proofs.Powers.{pow_zero}
use Rattle.algebra.proofs.Poly.{Polys, poly_path, size, zero_coef, one_coef_zero, one_coef_suc}
use Rattle.algebra.proofs.Terms.{const, X}
use Rattle.algebra.proofs.Low.{onto_coef_zero, onto_coef_suc}
use Rattle.algebra.proofs.Combination.{total as sum_of, total_suc, combine, combine_coef}
use Rattle.algebra.proofs.Echelon.{total_same, total_none}
use Rattle.algebra.proofs.Value.{value_sum, value_mul, value_const, value_X, value_zero}
use Rattle.algebra.proofs.Linear.{minus, same, at_point, compose}
use Rattle.algebra.proofs.Sieve.{at_shift, compose_combine, compose_variable, combine_modulo}
use Rattle.field.specs.Ring.{RingMeaning, RingLaws, one}
use Rattle.field.specs.Field.{FieldMeaning, FieldLaws}
use Rattle.field.specs.Polynomial.{coefficient, constant, polynomial, difference, value, Canonical}
use Rattle.field.specs.Rows.{IsRow}
use Rattle.field.specs.Coefficients.{polynomial_at, polynomial_beyond}
use Rattle.field.proofs.Totals.{value_none, value_more}
use Rattle.field.specs.Scalars.{Code, CodeRing, CodeScalars, code_path, zero_code, sum_codes, product_codes, zero_is_code, total_code, code_field, scalar, scalar_zero, scalar_of}
use Rattle.field.specs.Polynomials.{P, Coded, code_at, poly_of, poly_of_coef, poly_of_code, poly_of_is, poly_of_short, positive_size, poly_constant, poly_difference, poly_power, power_canonical, constant_canonical}
use Rattle.field.proofs.Factors.{divides_to}
use Rattle.split.specs.Matrix.{cell, combined, Codes, Dependent}
use Rattle.split.specs.FixedRows.{variable}
use Rattle.split.specs.Sieve.{Sieves, IsSieve, PowerRows, restored, relation_at}
use Rattle.split.proofs.Carrier.{combined_is, combined_rows, combined_longer}
use Rattle.split.proofs.Rows.{row_code, combination_code}
use Rattle.split.proofs.Modulo.{poly_variable, modulo_to}

-- a choice that is made at 0 only
chosen : (i a b : ℕ) → cond (eqb (suc i) 0) a b ≡ b
chosen i a b = cond-false (eqb (suc i) 0) a b (ne_eqb (suc i) 0 (omega arith))

module _ (m : RingMeaning) (L : RingLaws m) where
  abbrev S : Scalars (Code m L)
  S = CodeScalars m L

  abbrev R : Ring (P m L)
  R = Polys S

  -- the value of the statements is that of the algebra
  pub value_point : (t : List ℕ) → Coded m t → (w : Code m L) → (at_point S w (poly_of m L t)).0 ≡ value m t w.0
  unfolding same
  value_point [] h w = ap (λ (x : P m L). (at_point S w x).0) none ∙ ap (λ (x : Code m L). x.0) (value_zero S (same S) w) ∙ zero_code m L ∙ sym (value_none m L w.0)
    where
      none : poly_of m L [] ≡ R.𝟘
      none = poly_of_is m L [] R.𝟘 (λ i. sym (ap (λ (x : Code m L). x.0) (zero_coef S i) ∙ zero_code m L))
  value_point (a ∷ t) h w =
      ap (λ (x : P m L). (at_point S w x).0) grown
      ∙ ap (λ (x : Code m L). x.0) (value_sum S (same S) w _ _ ∙ ap₂ S.ring.◌⊕◌ (value_const S (same S) w a') (value_mul S (same S) w _ _ ∙ ap (λ (x : Code m L). S.ring.◌⊗◌ x (at_point S w (poly_of m L t))) (value_X S (same S) w)))
      ∙ sum_codes m L a' _ ∙ ap (m.sum a) (product_codes m L w _ ∙ ap (m.product w.0) (value_point t (λ i. h (suc i)) w))
      ∙ sym (value_more m L a t w.0 (h 0) (λ i. h (suc i)) w.1)
    where
      a' : Code m L
      a' = (a, h 0)

      grown : poly_of m L (a ∷ t) ≡ R.◌⊕◌ (const S a') (R.◌⊗◌ (X S) (poly_of m L t))
      grown = poly_of_is m L (a ∷ t) _ at
        where
          at : (i : ℕ) → coefficient (a ∷ t) i ≡ ((R.◌⊕◌ (const S a') (R.◌⊗◌ (X S) (poly_of m L t))).coef i).0
          at zero = sym (ap (λ (x : Code m L). x.0) (onto_coef_zero S a' (poly_of m L t)))
          at (suc i) = sym (ap (λ (x : Code m L). x.0) (onto_coef_suc S a' (poly_of m L t) i) ∙ poly_of_code m L t (λ k. h (suc k)) i)

module _ (F : FieldMeaning) (L : FieldLaws F) (f Q : List ℕ) (cf : Canonical F.ring f) (cQ : Canonical F.ring Q) where
  abbrev m : RingMeaning
  m = F.ring

  abbrev poly : List ℕ → P m L.ring
  poly = poly_of m L.ring

  abbrev Sc : Scalars (Code m L.ring)
  Sc = CodeScalars m L.ring

  abbrev C : Ring (Code m L.ring)
  C = CodeRing m L.ring

  abbrev Ps : Ring (P m L.ring)
  Ps = Polys Sc

  pub sieve_composed : (t : List ℕ) → Coded m t → DividesPoly Ps (poly f) (compose Sc (poly Q) (poly t)) → Sieves m f Q t
  sieve_composed t ct divides w h code d p =
      sym (value_point m L.ring t ct (w, code))
      ∙ ap (λ (x : Code m L.ring). x.0)
      (at_shift (code_field F L) (poly f) (poly Q) (poly h) (poly t) (w, code) (divides_to m L.ring h f d.canonical d.divides_left)
      (subst (DividesPoly Ps (poly h)) shift_is (divides_to m L.ring h _ d.canonical d.divides_right)) divides (positive_size m L.ring h d.canonical p))
      ∙ zero_code m L.ring
    where
      shift_is : poly (difference m Q (constant w)) ≡ minus Sc (poly Q) (w, code)
      shift_is =
          poly_difference m L.ring Q (constant w) cQ (constant_canonical m L.ring w code)
          ∙ ap (λ (x : P m L.ring). Ps.◌⊕◌ (poly Q) (Ps.neg x)) (poly_constant m L.ring w ∙ ap (const Sc) (scalar_of m L.ring (w, code)))

  -- f itself, where Q is X
  pub sieve_itself : Q ≡ variable m → Sieves m f Q f
  sieve_itself e = sieve_composed f (code_at m L.ring f cf)
      (subst (DividesPoly Ps (poly f)) (sym (ap (λ (x : P m L.ring). compose Sc x (poly f)) (ap poly e ∙ poly_variable m L.ring) ∙ compose_variable (poly f))) (dvd_refl Ps (poly f)))

  -- a dependent row among the powers of Q
  module _ (d : ℕ) (some : 1 ≤ d) (old constants : List ℕ) (hold : Codes m (d * d) old) (hk : Coded m constants) (rows : PowerRows m f Q d old constants)
      (new : List ℕ) (hnew : Codes m (2 * (d * d)) new) (e : ℕ) (dep : Dependent m d e old new) (t : List ℕ) (is : IsRow t (suc e) (relation_at m new d e constants)) where
    abbrev c : ℕ → ℕ
    c = cell new d (d + e)

    c_code : (j : ℕ) → j ≤ e → c j < m.order
    c_code j h = combination_code m d e j new hnew dep.high (omega (arith, dep.high))

    zeroth : coefficient t 0 ≡ m.opposite (combined m e c (coefficient constants))
    zeroth = is.at 0 (omega arith)

    later : (j : ℕ) → suc j ≤ e → coefficient t (suc j) ≡ c (suc j)
    later j h = is.at (suc j) (omega arith) ∙ chosen j _ _

    leads_one : coefficient t (length t - 1) ≡ one m
    leads_one =
        let s : length t - 1 ≡ suc (e - 1) = omega (arith, is.sized, dep.low) in
        let r : suc (e - 1) ≡ e = omega (arith, dep.low) in
        ap (coefficient t) s ∙ later (e - 1) (omega (arith, dep.low)) ∙ ap c r ∙ dep.unit

    relation_canonical : Canonical m t
    relation_canonical = record {
      some_code = omega (arith, is.sized);
      codes = codes;
      leads = λ h z. omega (arith, leads_one, z, L.ring.one_code.0);
    }
      where
        codes : (i : ℕ) → i < length t → coefficient t i < m.order
        codes zero h = subst (λ (x : ℕ). x < m.order) (sym zeroth) (L.ring.opposite_code _)
        codes (suc i) h = subst (λ (x : ℕ). x < m.order) (sym (later i (omega (arith, is.sized)))) (c_code (suc i) (omega (arith, is.sized)))

    coded : Coded m t
    coded = code_at m L.ring t relation_canonical

    -- the powers of Q modulo f
    remainder : ℕ → P m L.ring
    remainder zero = Ps.𝟙
    remainder (suc j) = poly (polynomial d (restored old constants d (suc j)))

    restored_code : (j i : ℕ) → j < d → i < d → restored old constants d j i < m.order
    restored_code j zero h k = hk j
    restored_code j (suc i) h k = subst (λ (x : ℕ). x < m.order) (sym (chosen i _ _)) (row_code m d j (suc i) old hold h k)

    restored_coded : (j : ℕ) → j < d → Coded m (polynomial d (restored old constants d j))
    restored_coded j h i = elim (dec_lt i d) [
      | yes k ↦ subst (λ (x : ℕ). x < m.order) (sym (polynomial_at d (restored old constants d j) i k)) (restored_code j i h k)
      | no k ↦ subst (λ (x : ℕ). x < m.order) (sym (polynomial_beyond d (restored old constants d j) i (omega arith))) (zero_is_code m L.ring)
    ]

    equal : (j : ℕ) → j < suc e → DividesPoly Ps (poly f) (Ps.◌⊕◌ (pow Ps (poly Q) j) (Ps.neg (remainder j)))
    unfolding remainder
    equal zero h = (Ps.𝟘, ap (λ (x : P m L.ring). Ps.◌⊕◌ x (Ps.neg Ps.𝟙)) (pow_zero Ps (poly Q)) ∙ add_neg Ps _ ∙ sym (zero_⊗ Ps (poly f)))
    equal (suc j) h = subst (λ (x : P m L.ring). DividesPoly Ps (poly f) (Ps.◌⊕◌ x (Ps.neg (remainder (suc j))))) (poly_power m L.ring Q cQ (suc j))
        (modulo_to m L.ring f cf _ _ (code_at m L.ring _ (power_canonical m L.ring Q (suc j))) (restored_coded (suc j) (omega (arith, dep.high))) (rows (suc j) (omega arith) (omega (arith, dep.high))).1)

    -- one column of the combination of the remainders
    tail_is : (i : ℕ) → i < d → (sum_of C e (λ j. C.◌⊗◌ ((poly t).coef (suc j)) ((remainder (suc j)).coef i))).0 ≡ combined m e c (λ j. restored old constants d j i)
    unfolding remainder
    tail_is i h =
        ap (λ (x : Code m L.ring). x.0)
        (total_same C e _ _ (λ j k. ap₂ C.◌⊗◌
        (poly_of_coef m L.ring t (suc j) ∙ ap (scalar m L.ring) (later j (omega arith)))
        (poly_of_coef m L.ring _ i ∙ ap (scalar m L.ring) (polynomial_at d (restored old constants d (suc j)) i h))))
        ∙ combined_is m L.ring e c (λ j. restored old constants d j i) (λ j p q. c_code j q) (λ j p q. restored_code j i (omega (arith, dep.high)) h)

    vanishes : combine (suc e) (poly t).coef remainder ≡ Ps.𝟘
    unfolding remainder
    vanishes = poly_path _ _ (λ i. combine_coef (suc e) (poly t).coef remainder i ∙ total_suc C e _ ∙ column i ∙ sym (zero_coef Sc i))
      where
        column : (i : ℕ) → C.◌⊕◌ (C.◌⊗◌ ((poly t).coef 0) ((remainder 0).coef i)) (sum_of C e (λ j. C.◌⊗◌ ((poly t).coef (suc j)) ((remainder (suc j)).coef i))) ≡ C.𝟘
        column zero = code_path m L.ring
            (sum_codes m L.ring _ _
            ∙ ap₂ m.sum (ap (λ (x : Code m L.ring). x.0) (ap (C.◌⊗◌ ((poly t).coef 0)) (one_coef_zero Sc) ∙ mul_one C _) ∙ poly_of_code m L.ring t coded 0 ∙ zeroth) (tail_is 0 some)
            ∙ L.ring.sum_comm _ _ (L.ring.opposite_code _) (total_code m L.ring e _) ∙ L.ring.sum_opposite _ (total_code m L.ring e _) ∙ sym (zero_code m L.ring))
        column (suc i) =
            ap₂ C.◌⊕◌ (ap (C.◌⊗◌ ((poly t).coef 0)) (one_coef_suc Sc i) ∙ ⊗_zero C _)
            (elim (dec_lt (suc i) d) [ yes h ↦ code_path m L.ring (tail_is (suc i) h ∙ combined_rows m L.ring e c (λ j. restored old constants d j (suc i)) (λ j. cell old d j (suc i)) (λ j p q. chosen i (coefficient constants j) (cell old d j (suc i))) ∙ none (suc i) h ∙ sym (zero_code m L.ring)) | no h ↦ total_none C e _ (λ j k. ap (C.◌⊗◌ ((poly t).coef (suc j))) (beyond (suc j) (suc i) h) ∙ ⊗_zero C _) ])
            ∙ add_zero C C.𝟘
          where
            s : (d - 1 - e) + e ≡ d - 1
            s = omega (arith, dep.high)

            -- rows 1 to d - 1, of which those after e take no part
            none : (k : ℕ) → k < d → combined m e c (λ j. cell old d j k) ≡ 0
            none k h =
                sym (combined_longer m L.ring (d - 1 - e) e c (λ j. cell old d j k)
                (λ j p q. combination_code m d e j new hnew dep.high (omega (arith, dep.high))) (λ j p q. row_code m d j k old hold (omega (arith, dep.high)) h) (λ j p q. dep.none_beyond j p (omega (arith, dep.high))))
                ∙ ap (λ (x : ℕ). combined m x c (λ j. cell old d j k)) s ∙ dep.vanishes k h

            beyond : (j k : ℕ) → (k < d → ⊥) → (poly (polynomial d (restored old constants d j))).coef k ≡ C.𝟘
            beyond j k h = poly_of_coef m L.ring _ k ∙ ap (scalar m L.ring) (polynomial_beyond d (restored old constants d j) k (omega (arith, h))) ∙ scalar_zero m L.ring

    relation_sieves : Sieves m f Q t
    relation_sieves = sieve_composed t coded (subst (DividesPoly Ps (poly f)) (ap (λ (x : P m L.ring). Ps.◌⊕◌ (combine (suc e) (poly t).coef (pow Ps (poly Q))) (Ps.neg x)) vanishes ∙ ap (Ps.◌⊕◌ _) (neg_zero Ps) ∙ add_zero Ps _ ∙ sym (compose_combine (poly Q) (poly t) (suc e) (subst (λ (n : ℕ). size (poly t) ≤ n) is.sized (poly_of_short m L.ring t))))
        (combine_modulo (poly f) (suc e) (poly t).coef (pow Ps (poly Q)) remainder equal))

    pub relation_is : IsSieve m f Q t
    relation_is = record { canonical = relation_canonical; sieves = relation_sieves }
