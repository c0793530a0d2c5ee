-- Rows of remainders modulo a monic polynomial f: how products are reduced, and powers of X.
-- Main statements: monic_form, product_residue, multiplied, residue_product, power_sum, power_none, power_start, power_raised.
use Rattle.std.proofs.Common.{◌≡◌, ℕ, zero, suc, ◌+◌, ◌-◌, ◌<◌, ◌≤◌, Bool, true, ◌≢◌, List, [], ◌∷◌, ◌++◌, map, length, take, set, replicate, MatchBool, Result, IsOk, IsErr, sym, refl, ap, ◌∙◌, subst, ap₂, arith}
use Rattle.std.proofs.lemmas.List.{take_more, take_all, length-take-le, length-replicate, length-set, get_or-set_same, get_or-set_other}
use Rattle.algebra.specs.Ring.{Ring}
use Rattle.algebra.proofs.Powers.{pow_one}
use Rattle.algebra.proofs.Solver.{◌:-◌, ring, A, B}
use Rattle.algebra.proofs.Divides.{Divides as DividesPoly}
use Rattle.algebra.proofs.Poly.{Polys}
use Rattle.algebra.proofs.Terms.{X, const, X_coef_zero, X_coef_suc}
use Rattle.field.specs.Checks.{below}
use Rattle.field.specs.declared.row_products.RowFault.{RowFault}
use Rattle.field.specs.Ring.{RingMeaning, RingLaws, one}
use Rattle.field.specs.Polynomial.{coefficient, degree, constant, product, polynomial_power}
use Rattle.field.specs.Quotient.{from_digits, modulus, lowered, reduced_by}
use Rattle.field.specs.Rows.{IsRow, rows_suit, MultipliesModulo}
use Rattle.field.specs.Digits.{digits_number}
use Rattle.field.proofs.Rows.{row_is}
use Rattle.field.specs.Scalars.{Code, CodeScalars, zero_code, zero_is_code}
use Rattle.field.specs.Polynomials.{P, Coded, code_at, poly_of, poly_of_code, poly_of_is, poly_of_injective, poly_power, poly_product_coded, product_canonical, power_canonical, one_canonical}
use Rattle.field.specs.Quotients.{modulus_poly_is, lowered_poly, lowered_coded, lowered_length}
use Rattle.field.proofs.Remainders.{reduced_by_length, reduced_by_coded, reduced_by_divides, suits}
use Rattle.split.specs.Calls.{Taken}
use Rattle.split.specs.FixedRows.{variable, EqualModulo, RowBelow, Residue, PowerRow}
use Rattle.split.proofs.Modulo.{variable_canonical, poly_variable, x_power_coded, modulo_from, modulo_same, modulo_trans, modulo_product, power_plus}

-- the code at place i of X times a row, less the multiple of f that takes its highest power away
abbrev pub raised : RingMeaning → List ℕ → List ℕ → ℕ → ℕ
raised m f row i = m.sum (coefficient (0 ∷ row) i) (m.opposite (m.product (coefficient row (length row - 1)) (coefficient f i)))

module _ (m : RingMeaning) (L : RingLaws m) (f : List ℕ) (t : Taken m f) where
  abbrev poly : List ℕ → P m L
  poly = poly_of m L

  abbrev Ps : Ring (P m L)
  Ps = Polys (CodeScalars m L)

  abbrev d : ℕ
  d = degree f

  -- the codes below the leading one
  abbrev lower : List ℕ
  lower = take d f

  coded : Coded m f
  coded = code_at m L f t.canonical

  lower_length : length lower ≡ d
  lower_length = length-take-le d f (omega arith)

  pub lower_coded : Coded m lower
  lower_coded = coded_take d f coded
    where
      coded_take : (n : ℕ) (xs : List ℕ) → Coded m xs → Coded m (take n xs)
      coded_take zero xs h i = zero_is_code m L
      coded_take (suc n) [] h i = zero_is_code m L
      coded_take (suc n) (x ∷ xs) h zero = h 0
      coded_take (suc n) (x ∷ xs) h (suc i) = coded_take n xs (λ k. h (suc k)) i

  -- f is its lower codes with a one behind them
  pub monic_form : lower ++ one m ∷ [] ≡ f
  monic_form =
      let p = t.positive in
      ap (λ (x : ℕ). take d f ++ x ∷ []) (sym t.monic) ∙ sym (take_more f d 0 (omega arith)) ∙ take_all (d + 1) f (omega arith)

  -- what the product of two rows is reduced to
  pub product_residue : (left right row : List ℕ) → Coded m left → Coded m right → row ≡ reduced_by m lower (product m left right) → Residue m f (product m left right) row
  product_residue left right row hl hr e = record {
    sized = ap length e ∙ reduced_by_length m lower _ ∙ lower_length;
    codes = λ i. subst (λ (xs : List ℕ). coefficient xs i < m.order) (sym e) (reduced_by_coded m L lower _ i);
    same = modulo_from m L f t.canonical _ row coded_product (λ i. subst (λ (xs : List ℕ). coefficient xs i < m.order) (sym e) (reduced_by_coded m L lower _ i))
        (subst (λ (xs : List ℕ). DividesPoly Ps (poly f) (Ps.◌⊕◌ (poly (product m left right)) (Ps.neg (poly xs)))) (sym e)
        (subst (λ (xs : List ℕ). DividesPoly Ps (poly xs) (Ps.◌⊕◌ (poly (product m left right)) (Ps.neg (poly (reduced_by m lower (product m left right)))))) monic_form
        (reduced_by_divides m L lower lower_coded (omega (arith, lower_length, t.positive)) (product m left right) coded_product)));
  }
    where
      coded_product : Coded m (product m left right)
      coded_product = code_at m L _ (product_canonical m L left right)

  -- the product of two rows modulo f is not refused, and what it leaves
  pub multiplied : (lower' left right old new : List ℕ) (r : Result Unit RowFault) → lower' ≡ lower → RowBelow m f left → RowBelow m f right → length old ≡ d
      → MultipliesModulo m lower' left right old r new → IsOk r × Residue m f (product m left right) new
  multiplied lower' left right old new r same hl hr long w = (said.0, product_residue left right new hl.codes hr.codes said.1)
    where
      fits : rows_suit m lower left right old ≡ true
      fits = suits m lower left right old (record {
        some = omega (arith, t.positive);
        lower_long = omega (arith, lower_length);
        left_long = omega (arith, hl.sized);
        right_long = omega (arith, hr.sized);
        lower_codes = λ i h. lower_coded i;
        left_codes = λ i h. hl.codes i;
        right_codes = λ i h. hr.codes i;
      })

      said : IsOk r × (new ≡ reduced_by m lower (product m left right))
      said = subst (λ (b : Bool). MatchBool b (IsOk r × (new ≡ reduced_by m lower (product m left right))) (IsErr r × (new ≡ old))) fits
          (subst (λ (xs : List ℕ). MultipliesModulo m xs left right old r new) same w)

  -- the product of what two rows are equal to
  pub residue_product : (a b r s row : List ℕ) → Coded m a → Coded m b → Residue m f a r → Residue m f b s → Residue m f (product m r s) row → Residue m f (product m a b) row
  residue_product a b r s row ca cb hr hs w = record {
    sized = w.sized;
    codes = w.codes;
    same = modulo_trans m L f t.canonical (product m a b) (product m r s) row (code_at m L _ (product_canonical m L a b)) (code_at m L _ (product_canonical m L r s)) w.codes
        (modulo_product m L f t.canonical a r b s ca hr.codes cb hs.codes hr.same hs.same) w.same;
  }

  pub power_sum : (i j : ℕ) (r s row : List ℕ) → PowerRow m f i r → PowerRow m f j s → Residue m f (product m r s) row → PowerRow m f (i + j) row
  power_sum i j r s row hr hs w = record {
    sized = w.sized;
    codes = w.codes;
    same = power_plus m L f t.canonical i j r s row hr.codes hs.codes w.codes hr.same hs.same w.same;
  }

  variable_coded : Coded m (variable m)
  variable_coded = code_at m L (variable m) (variable_canonical m L)

  -- X itself
  variable_same : EqualModulo m f (polynomial_power m (variable m) 1) (variable m)
  variable_same = modulo_same m L f t.canonical _ (variable m) (x_power_coded m L 1) variable_coded (λ i. ap (λ (xs : List ℕ). coefficient xs i) first)
    where
      first : polynomial_power m (variable m) 1 ≡ variable m
      first = poly_of_injective m L _ (variable m) (power_canonical m L (variable m) 1) (variable_canonical m L)
          (poly_power m L (variable m) (variable_canonical m L) 1 ∙ pow_one Ps (poly (variable m)))

  -- a row with a one and then zeros is X^0
  pub power_none : (row : List ℕ) → length row ≡ d → coefficient row 0 ≡ one m → ((i : ℕ) → coefficient row (suc i) ≡ 0) → PowerRow m f 0 row
  unfolding polynomial_power
  power_none row long first none = record {
    sized = long;
    codes = λ i. subst (λ (x : ℕ). x < m.order) (at i) (code_at m L (constant (one m)) (one_canonical m L) i);
    same = modulo_same m L f t.canonical (constant (one m)) row (code_at m L _ (one_canonical m L)) (λ i. subst (λ (x : ℕ). x < m.order) (at i) (code_at m L (constant (one m)) (one_canonical m L) i)) at;
  }
    where
      at : (i : ℕ) → coefficient (constant (one m)) i ≡ coefficient row i
      at zero = sym first
      at (suc i) = sym (none i)

  -- zeros with a one at the start
  pub power_start : (n : ℕ) (row : List ℕ) → n ≡ d → row ≡ replicate n 0 → PowerRow m f 0 (set row 0 1)
  power_start n row long e = power_none (set row 0 1) (simp length-set (omega (arith, sized))) (get_or-set_same row 0 1 0 (omega (arith, sized, t.positive)))
      (λ i. let ne : suc i ≢ 0 = omega arith in get_or-set_other row 0 (suc i) 1 0 ne ∙ ap (λ (xs : List ℕ). coefficient xs (suc i)) e ∙ zeros n (suc i))
    where
      sized : length row ≡ d
      sized = ap length e ∙ length-replicate n 0 ∙ long

      zeros : (k i : ℕ) → coefficient (replicate k 0) i ≡ 0
      zeros zero i = refl
      zeros (suc k) zero = refl
      zeros (suc k) (suc i) = zeros k i

  module _ (n : ℕ) (old new : List ℕ) (w : PowerRow m f n old) (is : IsRow new (length old) (raised m f old)) where
    abbrev k : ℕ
    k = length lower

    abbrev code : ℕ
    code = from_digits m.order lower

    some : 1 ≤ k
    some = omega (arith, lower_length, t.positive)

    long : length old ≡ k
    long = w.sized ∙ sym lower_length

    modulus_is : modulus m k code ≡ f
    modulus_is = ap (λ (xs : List ℕ). xs ++ one m ∷ []) (digits_number m.order lower lower_coded) ∙ monic_form

    new_is : new ≡ lowered m k code 0 old
    new_is =
        row_is new k (raised m f old) (subst (λ (x : ℕ). IsRow new x (raised m f old)) long is)
        ∙ ap₂ (λ (x : ℕ) (M : List ℕ). map (λ i. m.sum (coefficient (0 ∷ old) i) (m.opposite (m.product (coefficient old (x - 1)) (coefficient M i)))) (below k)) long (sym modulus_is)

    grown : poly (0 ∷ old) ≡ Ps.◌⊗◌ (X (CodeScalars m L)) (poly old)
    grown = poly_of_is m L (0 ∷ old) _ at
      where
        at : (i : ℕ) → coefficient (0 ∷ old) i ≡ ((Ps.◌⊗◌ (X (CodeScalars m L)) (poly old)).coef i).0
        at zero = sym (ap (λ (x : Code m L). x.0) (X_coef_zero (CodeScalars m L) (poly old)) ∙ zero_code m L)
        at (suc i) = sym (ap (λ (x : Code m L). x.0) (X_coef_suc (CodeScalars m L) (poly old) i) ∙ poly_of_code m L old w.codes i)

    top : Code m L
    top = (coefficient old (k - 1), w.codes (k - 1))

    coded_grown : Coded m (0 ∷ old)
    coded_grown zero = zero_is_code m L
    coded_grown (suc i) = w.codes i

    new_poly : poly new ≡ Ps.◌⊕◌ (Ps.◌⊗◌ (poly (variable m)) (poly old)) (Ps.neg (Ps.◌⊗◌ (const (CodeScalars m L) top) (poly f)))
    unfolding top
    new_poly =
        ap poly new_is ∙ lowered_poly m L k code some 0 old coded_grown w.codes long top refl
        ∙ ap₂ (λ (x y : P m L). Ps.◌⊕◌ x (Ps.neg (Ps.◌⊗◌ (const (CodeScalars m L) top) y))) (grown ∙ ap (λ (x : P m L). Ps.◌⊗◌ x (poly old)) (sym (poly_variable m L))) (sym (modulus_poly_is m L k code some) ∙ ap poly modulus_is)

    new_coded : Coded m new
    new_coded i = subst (λ (xs : List ℕ). coefficient xs i < m.order) (sym new_is) (lowered_coded m L k code some 0 old i)

    step : Residue m f (product m (variable m) old) new
    step = record {
      sized = ap length new_is ∙ lowered_length m L k code some 0 old ∙ lower_length;
      codes = new_coded;
      same = modulo_from m L f t.canonical _ new (code_at m L _ (product_canonical m L (variable m) old)) new_coded (
        const (CodeScalars m L) top,
        ap₂ (λ (x y : P m L). Ps.◌⊕◌ x (Ps.neg y)) (poly_product_coded m L (variable m) old variable_coded w.codes) new_poly
            ∙ ring Ps (Ps.◌⊗◌ (poly (variable m)) (poly old) ∷ Ps.◌⊗◌ (const (CodeScalars m L) top) (poly f) ∷ []) (A :- (A :- B)) B refl,
      );
    }

    -- X times X^n
    pub power_raised : PowerRow m f (n + 1) new
    power_raised = record {
      sized = step.sized;
      codes = step.codes;
      same =
          let s : 1 + n ≡ n + 1 = omega arith in
          subst (λ (i : ℕ). EqualModulo m f (polynomial_power m (variable m) i) new) s
          (power_plus m L f t.canonical 1 n (variable m) old new variable_coded w.codes step.codes variable_same w.same step.same);
    }
