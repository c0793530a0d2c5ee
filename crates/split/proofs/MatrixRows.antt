-- Rows of the matrix, written one after the other, and those that are X^(j q) - X^j.
-- Main statements: polynomial_same; changed_code, row_codes; row_put_gap, row_put_rows.
use Rattle.std.proofs.Common.{◌≡◌, ℕ, ◌+◌, ◌-◌, ◌*◌, ◌<◌, ◌≤◌, eqb, List, map, get_or, sym, refl, ap, ◌∙◌, subst, inr, ⊎_elim, add-mul, arith}
use lib.ListN.{length-map, get_or-eq_default}
use Rattle.std.proofs.lemmas.Bool.{cases_lt, cond-true, cond-false, cond_both, eq-eqb, ne_eqb, cases_eq}
use Rattle.field.specs.Ring.{RingMeaning, RingLaws, one}
use Rattle.field.specs.Polynomial.{coefficient, degree, polynomial}
use Rattle.field.specs.Checks.{below}
use Rattle.field.specs.Rows.{Written}
use Rattle.field.specs.Coefficients.{below_length, map_below_at}
use Rattle.field.proofs.Rows.{row_polynomial as row_polynomial_is}
use Rattle.field.proofs.Writing.{written_outside}
use Rattle.split.specs.Matrix.{Codes}
use Rattle.split.specs.Calls.{Taken}
use Rattle.split.specs.FixedRows.{PowerRow, EqualModulo, power_gap, row_polynomial, changed_at}
use Rattle.split.proofs.Rows.{row_end}
use Rattle.split.proofs.Frames.{written_row}
use Rattle.split.proofs.Modulo.{gap_row}

-- polynomials with the same coefficients
pub polynomial_same : (n : ℕ) (c e : ℕ → ℕ) → ((i : ℕ) → i < n → c i ≡ e i) → polynomial n c ≡ polynomial n e
polynomial_same n c e h = row_polynomial_is (map c (below n)) n e (record { sized = length-map (below n) c ∙ below_length n; at = λ i l. map_below_at c n i l ∙ h i l })

-- a row with a code changed is a row of codes
pub changed_code : (m : RingMeaning) (row : List ℕ) (i v : ℕ) → v < m.order → ((k : ℕ) → coefficient row k < m.order) → (k : ℕ) → changed_at row i v k < m.order
changed_code m row i v h codes k = cond_both (eqb k i) v (coefficient row k) (λ x. x < m.order) (λ _. h) (λ _. codes k)

-- one row of codes more
pub row_codes : (m : RingMeaning) (d j : ℕ) (old new : List ℕ) (c : ℕ → ℕ) → Written old new (j * d) d c → ((i : ℕ) → c i < m.order) → Codes m (j * d) old → Codes m ((j + 1) * d) new
row_codes m d j old new c put codes b k h =
    ⊎_elim
    (λ (l : k < j * d). subst (λ (x : ℕ). x < m.order) (sym (put.before k l)) (b k l))
    (λ (l : j * d ≤ k).
    let s : j * d + (k - j * d) ≡ k = omega arith in
    let i : k - j * d < d = omega (arith, add-mul j 1 d) in
    subst (λ (x : ℕ). x < m.order) (sym (ap (λ (x : ℕ). get_or new x 0) (sym s) ∙ put.inside (k - j * d) i)) (codes (k - j * d)))
    (cases_lt k (j * d))

-- the codes past the matrix stay
pub row_past : (d j : ℕ) (old new : List ℕ) (c : ℕ → ℕ) → j < d → Written old new (j * d) d c → (k : ℕ) → d * d ≤ k → get_or new k 0 ≡ get_or old k 0
row_past d j old new c high put k h = written_outside put k (inr (omega (arith, row_end d j d high)))

module _ (m : RingMeaning) (L : RingLaws m) (f : List ℕ) (t : Taken m f) (q j v : ℕ) (order : q ≡ m.order) (high : j < degree f)
    (row old new : List ℕ) (w : PowerRow m f (j * q) row) (less : v ≡ m.sum (coefficient row j) (m.opposite (one m)))
    (put : Written old new (j * degree f) (degree f) (changed_at row j v)) where
  abbrev d : ℕ
  d = degree f

  -- row j is X^(j q) - X^j
  pub row_put_gap : EqualModulo m f (power_gap m j) (row_polynomial d new j)
  row_put_gap = gap_row m L f t.canonical d j new row high w.codes (λ i h. get_or-eq_default row 0 (omega (arith, w.sized)))
      (subst (λ (k : ℕ). PowerRow m f (j * k) row) order w).same
      (λ i h n. put.inside i h ∙ cond-false (eqb i j) _ _ (ne_eqb i j n))
      (put.inside j high ∙ cond-true (eqb j j) _ _ (eq-eqb j j refl) ∙ less)

  -- the rows before it stay
  pub row_put_rows : ((i : ℕ) → 1 ≤ i → i < j → EqualModulo m f (power_gap m i) (row_polynomial d old i))
      → (i : ℕ) → 1 ≤ i → i < j + 1 → EqualModulo m f (power_gap m i) (row_polynomial d new i)
  row_put_rows h i a b =
      ⊎_elim
      (λ (e : i ≡ j). subst (λ (x : ℕ). EqualModulo m f (power_gap m x) (row_polynomial d new x)) (sym e) row_put_gap)
      (λ (n : i ≡ j → ⊥). subst (EqualModulo m f (power_gap m i)) (polynomial_same d _ _ (λ k l. sym (written_row d j i k put n l))) (h i a (omega (arith, n))))
      (cases_eq i j)
