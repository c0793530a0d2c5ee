-- The powers of Q modulo f in the matrix, written one after the other.
-- Main statements: power_none_of, power_next_of; power_put_rows, constants_coded.
use Rattle.std.proofs.Common.{◌≡◌, ℕ, zero, suc, ◌+◌, ◌*◌, ◌<◌, ◌≤◌, cond, eqb, ◌≢◌, List, length, set, sym, ap, ◌∙◌, subst, ap₂, ⊎_elim, add-one, arith}
use native.Mathlib.Decide.{dec_lt}
use lib.ListN.{get_or-eq_default}
use Rattle.std.proofs.lemmas.List.{get_or-set_same, get_or-set_other}
use Rattle.std.proofs.lemmas.Bool.{cases_eq, cond-false, ne_eqb}
use Rattle.algebra.proofs.Laws.{mul_comm}
use Rattle.algebra.proofs.Poly.{Polys}
use Rattle.field.specs.Ring.{RingMeaning, RingLaws}
use Rattle.field.specs.Polynomial.{coefficient, degree, polynomial, polynomial_power, product, Canonical}
use Rattle.field.specs.Rows.{Written}
use Rattle.field.specs.Coefficients.{polynomial_at, polynomial_beyond}
use Rattle.field.specs.Scalars.{CodeScalars, zero_is_code}
use Rattle.field.specs.Polynomials.{code_at, poly_of_injective, poly_product, product_canonical, power_canonical}
use Rattle.split.specs.Matrix.{cell}
use Rattle.split.specs.Calls.{Taken}
use Rattle.split.specs.FixedRows.{EqualModulo, RowBelow, Residue, PowerRow, changed_at}
use Rattle.split.specs.Sieve.{restored}
use Rattle.split.proofs.Frames.{written_row}
use Rattle.split.proofs.Modulo.{modulo_same, modulo_trans}
use Rattle.split.proofs.Residues.{residue_product}
use Rattle.split.proofs.MatrixRows.{polynomial_same}

-- all constants are codes, and what is read past them
pub constants_all : (m : RingMeaning) (L : RingLaws m) (constants : List ℕ) (n : ℕ) → length constants ≤ n → ((i : ℕ) → i < n → coefficient constants i < m.order) → (i : ℕ) → coefficient constants i < m.order
constants_all m L constants n h codes i = elim (dec_lt i n) [
  | yes l ↦ codes i l
  | no l ↦ subst (λ (x : ℕ). x < m.order) (sym (get_or-eq_default constants 0 (omega arith))) (zero_is_code m L)
]

module _ (m : RingMeaning) (L : RingLaws m) (f : List ℕ) (t : Taken m f) where
  -- the zeroth power of any polynomial
  pub power_none_of : (q row : List ℕ) → PowerRow m f 0 row → Residue m f (polynomial_power m q 0) row
  unfolding polynomial_power
  power_none_of q row w = w

  -- one power more
  pub power_next_of : (q row fixed new : List ℕ) (j : ℕ) → Canonical m q → Residue m f (polynomial_power m q j) row → Residue m f q fixed → Residue m f (product m row fixed) new
      → Residue m f (polynomial_power m q (j + 1)) new
  unfolding polynomial_power
  power_next_of q row fixed new j c w r n =
      subst (λ (x : List ℕ). Residue m f x new) (swapped ∙ ap (polynomial_power m q) (sym (add-one j)))
      (residue_product m L f t (polynomial_power m q j) q row fixed new (code_at m L _ (power_canonical m L q j)) (code_at m L q c) w r n)
    where
      swapped : product m (polynomial_power m q j) q ≡ product m q (polynomial_power m q j)
      swapped = poly_of_injective m L _ _ (product_canonical m L _ _) (product_canonical m L _ _)
          (poly_product m L _ q (power_canonical m L q j) c ∙ mul_comm (Polys (CodeScalars m L)) _ _ ∙ sym (poly_product m L q _ c (power_canonical m L q j)))

  module _ (j : ℕ) (high : j < degree f) (row constants old new : List ℕ) (w : RowBelow m f row) (room : degree f ≤ length constants) (put : Written old new (j * degree f) (degree f) (changed_at row 0 0)) where
    abbrev d : ℕ
    d = degree f

    abbrev constants' : List ℕ
    constants' = set constants j (coefficient row 0)

    pub constants_coded : ((i : ℕ) → i < j → coefficient constants i < m.order) → (i : ℕ) → i < j + 1 → coefficient constants' i < m.order
    constants_coded h i l =
        ⊎_elim
        (λ (e : i ≡ j). subst (λ (x : ℕ). x < m.order) (sym (ap (coefficient constants') e ∙ get_or-set_same constants j (coefficient row 0) 0 (omega arith))) (w.codes 0))
        (λ (n : i ≢ j). subst (λ (x : ℕ). x < m.order) (sym (get_or-set_other constants j i (coefficient row 0) 0 n)) (h i (omega (arith, n))))
        (cases_eq i j)

    -- row j is what the row was
    here : (i : ℕ) → coefficient row i ≡ coefficient (polynomial d (restored new constants' d j)) i
    here i = elim (dec_lt i d) [
      | yes h ↦ at i h ∙ sym (polynomial_at d (restored new constants' d j) i h)
      | no h ↦ get_or-eq_default row 0 (omega (arith, w.sized)) ∙ sym (polynomial_beyond d (restored new constants' d j) i (omega arith))
    ]
      where
        at : (k : ℕ) → k < d → coefficient row k ≡ restored new constants' d j k
        at zero h = sym (get_or-set_same constants j (coefficient row 0) 0 (omega arith))
        at (suc k) h =
            let ne : suc k ≢ 0 = omega arith in
            sym (cond-false (eqb (suc k) 0) _ _ (ne_eqb (suc k) 0 ne) ∙ put.inside (suc k) h ∙ cond-false (eqb (suc k) 0) _ _ (ne_eqb (suc k) 0 ne))

    -- the rows up to it
    pub power_put_rows : (q : List ℕ) → Residue m f (polynomial_power m q j) row
        → ((i : ℕ) → 1 ≤ i → i < j → (cell old d i 0 ≡ 0) × EqualModulo m f (polynomial_power m q i) (polynomial d (restored old constants d i)))
        → (i : ℕ) → 1 ≤ i → i < j + 1 → (cell new d i 0 ≡ 0) × EqualModulo m f (polynomial_power m q i) (polynomial d (restored new constants' d i))
    power_put_rows q r h i a b =
        ⊎_elim
        (λ (e : i ≡ j). subst (λ (x : ℕ). (cell new d x 0 ≡ 0) × EqualModulo m f (polynomial_power m q x) (polynomial d (restored new constants' d x))) (sym e)
        (put.inside 0 (omega arith), modulo_trans m L f t.canonical _ row _ (code_at m L _ (power_canonical m L q j)) w.codes coded r.same (modulo_same m L f t.canonical row _ w.codes coded here)))
        (λ (n : i ≢ j). let k = h i a (omega (arith, n)) in
        (written_row d j i 0 put n (omega arith) ∙ k.0, subst (EqualModulo m f (polynomial_power m q i)) (polynomial_same d (restored old constants d i) (restored new constants' d i) (λ c l. kept i n c l)) k.1))
        (cases_eq i j)
      where
        coded : (i : ℕ) → coefficient (polynomial d (restored new constants' d j)) i < m.order
        coded i = subst (λ (x : ℕ). x < m.order) (here i) (w.codes i)

        kept : (i : ℕ) → i ≢ j → (c : ℕ) → c < d → restored old constants d i c ≡ restored new constants' d i c
        kept i n c l = ap₂ (cond (eqb c 0)) (sym (get_or-set_other constants j i (coefficient row 0) 0 n)) (sym (written_row d j i c put n l))
