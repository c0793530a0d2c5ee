-- Polynomials that are equal modulo f, and how the rows X^(j q) - X^j come from products that are reduced modulo f.
-- Main statements: variable_canonical, poly_variable, x_power_here, x_power_other; modulo_to, modulo_from, modulo_trans,
-- modulo_same, modulo_product, modulo_division; power_plus, gap_row.
use Rattle.std.proofs.Common.{◌≡◌, ℕ, zero, suc, ◌+◌, ◌-◌, ◌*◌, ◌<◌, ◌≤◌, List, [], ◌∷◌, sym, refl, ap, ◌∙◌, subst, ap₂, ⊎_elim, add-zero, arith}
use native.Mathlib.Decide.{dec_lt}
use Rattle.std.proofs.lemmas.Bool.{cases_eq}
use Rattle.algebra.specs.Ring.{Ring}
use Rattle.algebra.specs.Powers.{pow}
use Rattle.algebra.proofs.Laws.{mul_one, add_neg}
use Rattle.algebra.proofs.Solver.{◌:+◌, ◌:*◌, ◌:-◌, ring, A, B, C, D}
use Rattle.algebra.proofs.Divides.{Divides as DividesPoly, dvd_sum, dvd_mul, dvd_mul_right, dvd_right, dvd_zero}
use Rattle.algebra.proofs.Powers.{pow_add}
use Rattle.algebra.proofs.Poly.{Polys, sum_coef, neg_coef, one_coef_zero, one_coef_suc}
use Rattle.algebra.proofs.Terms.{X, X_coef_zero, X_coef_suc, X_pow_above, X_pow_below}
use Rattle.field.specs.Ring.{RingMeaning, RingLaws, one}
use Rattle.field.specs.Polynomial.{coefficient, product, polynomial_power, Canonical, IsDivision}
use Rattle.field.specs.Coefficients.{polynomial_at, polynomial_beyond}
use Rattle.field.specs.Scalars.{Code, CodeRing, CodeScalars, zero_code, unit_code, sum_codes, opposite_codes, zero_is_code, opposite_zero}
use Rattle.field.specs.Polynomials.{P, Coded, code_at, poly_of, poly_of_code, poly_of_is, poly_of_same, poly_power, poly_product_coded, poly_sum, poly_product, poly_difference_coded, product_canonical, difference_canonical, power_canonical}
use Rattle.field.proofs.Factors.{divides_to, divides_from}
use Rattle.split.specs.Matrix.{cell}
use Rattle.split.specs.FixedRows.{variable, EqualModulo, power_gap, row_polynomial}

module _ (m : RingMeaning) (L : RingLaws m) where
  abbrev poly : List ℕ → P m L
  poly = poly_of m L

  abbrev Ps : Ring (P m L)
  Ps = Polys (CodeScalars m L)

  pub variable_canonical : Canonical m (variable m)
  variable_canonical = record { some_code = omega arith; codes = codes; leads = λ h z. omega (arith, L.one_code.0) }
    where
      codes : (i : ℕ) → i < 2 → coefficient (variable m) i < m.order
      codes zero h = zero_is_code m L
      codes (suc zero) h = L.one_code.1
      codes (suc (suc i)) h = absurd (omega arith)

  -- it is the X of the algebra
  pub poly_variable : poly (variable m) ≡ X (CodeScalars m L)
  poly_variable = poly_of_is m L (variable m) (X (CodeScalars m L)) (λ i. at i ∙ ap (λ (x : P m L). (x.coef i).0) (mul_one Ps (X (CodeScalars m L))))
    where
      at : (i : ℕ) → coefficient (variable m) i ≡ ((Ps.◌⊗◌ (X (CodeScalars m L)) Ps.𝟙).coef i).0
      at zero = sym (ap (λ (x : Code m L). x.0) (X_coef_zero (CodeScalars m L) _) ∙ zero_code m L)
      at (suc zero) = sym (ap (λ (x : Code m L). x.0) (X_coef_suc (CodeScalars m L) _ 0 ∙ one_coef_zero (CodeScalars m L)) ∙ unit_code m L)
      at (suc (suc i)) = sym (ap (λ (x : Code m L). x.0) (X_coef_suc (CodeScalars m L) _ (suc i) ∙ one_coef_suc (CodeScalars m L) i) ∙ zero_code m L)

  -- X^n
  abbrev pub x_power : ℕ → List ℕ
  x_power n = polynomial_power m (variable m) n

  pub x_power_coded : (n : ℕ) → Coded m (x_power n)
  x_power_coded n = code_at m L _ (power_canonical m L (variable m) n)

  pub poly_x_power : (n : ℕ) → poly (x_power n) ≡ pow Ps (X (CodeScalars m L)) n
  poly_x_power n = poly_power m L (variable m) variable_canonical n ∙ ap (λ (x : P m L). pow Ps x n) poly_variable

  -- its coefficients: one at X^n, else zero
  x_power_coef : (n i : ℕ) → coefficient (x_power n) i ≡ ((Ps.◌⊗◌ (pow Ps (X (CodeScalars m L)) n) Ps.𝟙).coef i).0
  x_power_coef n i =
      sym (poly_of_code m L (x_power n) (x_power_coded n) i)
      ∙ ap (λ (x : P m L). (x.coef i).0) (poly_x_power n ∙ sym (mul_one Ps (pow Ps (X (CodeScalars m L)) n)))

  x_power_above : (n k : ℕ) → coefficient (x_power n) (n + k) ≡ (Ps.𝟙.coef k).0
  x_power_above n k = x_power_coef n (n + k) ∙ ap (λ (x : Code m L). x.0) (X_pow_above (CodeScalars m L) n Ps.𝟙 k)

  pub x_power_here : (n : ℕ) → coefficient (x_power n) n ≡ one m
  x_power_here n =
      ap (coefficient (x_power n)) (sym (add-zero n)) ∙ x_power_above n 0
      ∙ ap (λ (x : Code m L). x.0) (one_coef_zero (CodeScalars m L)) ∙ unit_code m L

  pub x_power_other : (n i : ℕ) → (i ≡ n → ⊥) → coefficient (x_power n) i ≡ 0
  x_power_other n i ne = elim (dec_lt i n) [
    | yes h ↦ x_power_coef n i ∙ ap (λ (x : Code m L). x.0) (X_pow_below (CodeScalars m L) n Ps.𝟙 i h) ∙ zero_code m L
    | no h ↦
        let s : i ≡ n + suc (i - n - 1) = omega (arith, ne) in
        ap (coefficient (x_power n)) s ∙ x_power_above n (suc (i - n - 1)) ∙ ap (λ (x : Code m L). x.0) (one_coef_suc (CodeScalars m L) (i - n - 1)) ∙ zero_code m L
  ]

  module _ (f : List ℕ) (cf : Canonical m f) where
    infix 40 ◌≈◌
    -- equal modulo f, in the algebra
    abbrev ◌≈◌ : P m L → P m L → Type 0
    ◌≈◌ a b = DividesPoly Ps (poly f) (Ps.◌⊕◌ a (Ps.neg b))

    pub modulo_to : (a b : List ℕ) → Coded m a → Coded m b → EqualModulo m f a b → DividesPoly Ps (poly f) (Ps.◌⊕◌ (poly a) (Ps.neg (poly b)))
    modulo_to a b ca cb e = subst (λ (x : P m L). DividesPoly Ps (poly f) x) (poly_difference_coded m L a b ca cb) (divides_to m L f _ cf e)

    pub modulo_from : (a b : List ℕ) → Coded m a → Coded m b → DividesPoly Ps (poly f) (Ps.◌⊕◌ (poly a) (Ps.neg (poly b))) → EqualModulo m f a b
    modulo_from a b ca cb e = divides_from m L f _ cf (difference_canonical m L a b) (subst (λ (x : P m L). DividesPoly Ps (poly f) x) (sym (poly_difference_coded m L a b ca cb)) e)

    same_trans : (a b e : P m L) → a ≈ b → b ≈ e → a ≈ e
    same_trans a b e h k = subst (λ (x : P m L). DividesPoly Ps (poly f) x) (ring Ps (a ∷ b ∷ e ∷ []) ((A :- B) :+ (B :- C)) (A :- C) refl) (dvd_sum Ps (poly f) _ _ h k)

    same_product : (a b a' b' : P m L) → a ≈ b → a' ≈ b' → Ps.◌⊗◌ a a' ≈ Ps.◌⊗◌ b b'
    same_product a b a' b' h k = subst (λ (x : P m L). DividesPoly Ps (poly f) x) (ring Ps (a ∷ b ∷ a' ∷ b' ∷ []) ((A :- B) :* C :+ B :* (C :- D)) (A :* C :- B :* D) refl)
        (dvd_sum Ps (poly f) _ _ (dvd_mul_right Ps (poly f) _ a' h) (dvd_mul Ps (poly f) _ b k))

    pub modulo_trans : (a b e : List ℕ) → Coded m a → Coded m b → Coded m e → EqualModulo m f a b → EqualModulo m f b e → EqualModulo m f a e
    modulo_trans a b e ca cb ce h k = modulo_from a e ca ce (same_trans (poly a) (poly b) (poly e) (modulo_to a b ca cb h) (modulo_to b e cb ce k))

    pub modulo_product : (a b a' b' : List ℕ) → Coded m a → Coded m b → Coded m a' → Coded m b' → EqualModulo m f a b → EqualModulo m f a' b'
        → EqualModulo m f (product m a a') (product m b b')
    modulo_product a b a' b' ca cb ca' cb' h k =
        modulo_from (product m a a') (product m b b') (code_at m L _ (product_canonical m L a a')) (code_at m L _ (product_canonical m L b b'))
        (subst (λ (x : P m L). DividesPoly Ps (poly f) x) (sym (ap₂ (λ (x y : P m L). Ps.◌⊕◌ x (Ps.neg y)) (poly_product_coded m L a a' ca ca') (poly_product_coded m L b b' cb cb')))
        (same_product (poly a) (poly b) (poly a') (poly b') (modulo_to a b ca cb h) (modulo_to a' b' ca' cb' k)))

    -- a remainder is equal to what was divided
    pub modulo_division : (a s r : List ℕ) → Coded m a → IsDivision m a f s r → EqualModulo m f a r
    modulo_division a s r ca w = modulo_from a r ca (code_at m L r w.remainder_canonical) (subst (λ (x : P m L). DividesPoly Ps (poly f) x) (sym same) (dvd_right Ps (poly s) (poly f)))
      where
        same : Ps.◌⊕◌ (poly a) (Ps.neg (poly r)) ≡ Ps.◌⊗◌ (poly s) (poly f)
        same =
            ap (λ (x : P m L). Ps.◌⊕◌ x (Ps.neg (poly r)))
            (ap poly (sym w.adds_up) ∙ poly_sum m L (product m s f) r (product_canonical m L s f) w.remainder_canonical
            ∙ ap (λ (x : P m L). Ps.◌⊕◌ x (poly r)) (poly_product m L s f w.quotient_canonical cf))
            ∙ ring Ps (Ps.◌⊗◌ (poly s) (poly f) ∷ poly r ∷ []) (A :+ B :- B) A refl

    -- a power of X from two: each reduced, and the product reduced
    pub power_plus : (i j : ℕ) (r s r' : List ℕ) → Coded m r → Coded m s → Coded m r' → EqualModulo m f (x_power i) r → EqualModulo m f (x_power j) s
        → EqualModulo m f (product m r s) r' → EqualModulo m f (x_power (i + j)) r'
    power_plus i j r s r' cr cs cr' h k w = modulo_from (x_power (i + j)) r' (x_power_coded (i + j)) cr'
        (subst (λ (x : P m L). x ≈ poly r') (sym split)
        (same_trans _ (Ps.◌⊗◌ (poly r) (poly s)) (poly r')
        (same_product (poly (x_power i)) (poly r) (poly (x_power j)) (poly s) (modulo_to _ r (x_power_coded i) cr h) (modulo_to _ s (x_power_coded j) cs k))
        (subst (λ (x : P m L). x ≈ poly r') (poly_product_coded m L r s cr cs) (modulo_to _ r' (code_at m L _ (product_canonical m L r s)) cr' w))))
      where
        split : poly (x_power (i + j)) ≡ Ps.◌⊗◌ (poly (x_power i)) (poly (x_power j))
        split = poly_x_power (i + j) ∙ pow_add Ps (X (CodeScalars m L)) i j ∙ sym (ap₂ Ps.◌⊗◌ (poly_x_power i) (poly_x_power j))

    -- lists with the same coefficients are equal
    pub modulo_same : (a b : List ℕ) → Coded m a → Coded m b → ((i : ℕ) → coefficient a i ≡ coefficient b i) → EqualModulo m f a b
    modulo_same a b ca cb e = modulo_from a b ca cb
        (subst (λ (x : P m L). DividesPoly Ps (poly f) (Ps.◌⊕◌ (poly a) (Ps.neg x))) (poly_of_same m L a b e)
        (subst (λ (x : P m L). DividesPoly Ps (poly f) x) (sym (add_neg Ps (poly a))) (dvd_zero Ps (poly f))))

    -- a row with the codes of r but for one that is taken away at column j, where r is X^(j q) modulo f and of lower degree than X^d
    pub gap_row : (d j : ℕ) (codes r : List ℕ) → j < d → Coded m r → ((i : ℕ) → d ≤ i → coefficient r i ≡ 0) → EqualModulo m f (x_power (j * m.order)) r
        → ((i : ℕ) → i < d → (i ≡ j → ⊥) → cell codes d j i ≡ coefficient r i) → cell codes d j j ≡ m.sum (coefficient r j) (m.opposite (one m))
        → EqualModulo m f (power_gap m j) (row_polynomial d codes j)
    gap_row d j codes r high cr beyond h others here = modulo_from (power_gap m j) (row_polynomial d codes j) (code_at m L _ (difference_canonical m L _ _)) coded
        (subst (λ (x : P m L). DividesPoly Ps (poly f) x) same (modulo_to (x_power (j * m.order)) r (x_power_coded (j * m.order)) cr h))
      where
        -- away from column j nothing is taken away
        nothing : (i : ℕ) → (i ≡ j → ⊥) → coefficient r i ≡ m.sum (coefficient r i) (m.opposite (coefficient (x_power j) i))
        nothing i ne =
            sym (L.sum_zero (coefficient r i) (cr i))
            ∙ ap (m.sum (coefficient r i)) (sym (opposite_zero m L) ∙ ap m.opposite (sym (x_power_other j i ne)))

        at : (i : ℕ) → coefficient (row_polynomial d codes j) i ≡ m.sum (coefficient r i) (m.opposite (coefficient (x_power j) i))
        at i =
            ⊎_elim
            (λ (q : i ≡ j).
            ap (coefficient (row_polynomial d codes j)) q ∙ polynomial_at d (cell codes d j) j high ∙ here
            ∙ ap (λ (x : ℕ). m.sum (coefficient r j) (m.opposite x)) (sym (x_power_here j)) ∙ ap (λ (x : ℕ). m.sum (coefficient r x) (m.opposite (coefficient (x_power j) x))) (sym q))
            (λ (q : i ≡ j → ⊥). elim (dec_lt i d) [
              | yes k ↦ polynomial_at d (cell codes d j) i k ∙ others i k q ∙ nothing i q
              | no k ↦ polynomial_beyond d (cell codes d j) i (omega arith) ∙ sym (beyond i (omega arith)) ∙ nothing i q
            ])
            (cases_eq i j)

        coded : Coded m (row_polynomial d codes j)
        coded i = subst (λ (x : ℕ). x < m.order) (sym (at i)) (L.sum_code _ _)

        row_is : poly (row_polynomial d codes j) ≡ Ps.◌⊕◌ (poly r) (Ps.neg (poly (x_power j)))
        row_is = poly_of_is m L _ _ (λ i. at i ∙ sym
            (ap (λ (x : Code m L). x.0) (sum_coef (CodeScalars m L) _ _ i ∙ ap ((CodeRing m L).◌⊕◌ ((poly r).coef i)) (neg_coef (CodeScalars m L) (poly (x_power j)) i))
            ∙ sum_codes m L _ _ ∙ ap₂ m.sum (poly_of_code m L r cr i) (opposite_codes m L _ ∙ ap m.opposite (poly_of_code m L _ (x_power_coded j) i))))

        same : Ps.◌⊕◌ (poly (x_power (j * m.order))) (Ps.neg (poly r)) ≡ Ps.◌⊕◌ (poly (power_gap m j)) (Ps.neg (poly (row_polynomial d codes j)))
        same =
            ring Ps (poly (x_power (j * m.order)) ∷ poly r ∷ poly (x_power j) ∷ []) (A :- B) ((A :- C) :- (B :- C)) refl
            ∙ sym (ap₂ (λ (x y : P m L). Ps.◌⊕◌ x (Ps.neg y)) (poly_difference_coded m L _ _ (x_power_coded (j * m.order)) (x_power_coded j)) row_is)
