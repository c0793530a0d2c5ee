-- Division of a row of codes from the top down, by a polynomial whose last code has an inverse: before each turn the codes from place n
-- on are zero, and the quotient so far times the divisor, plus the row, is the dividend.
-- Main statements: zeros_past; Dividing, dividing_none, dividing_more, dividing_skip, dividing_all.
use Rattle.std.proofs.Common.{◌≡◌, ℕ, ◌+◌, ◌-◌, ◌<◌, ◌≤◌, ◌≢◌, List, [], ◌∷◌, length, get_or, set, sym, refl, ap, ◌∙◌, subst, ap₂, arith}
use native.Mathlib.Decide.{dec_lt, ℕ_discrete}
use Rattle.std.proofs.lemmas.List.{get_or_past, get_or-set_same, get_or-set_other}
use Rattle.algebra.specs.Ring.{Ring}
use Rattle.algebra.proofs.Laws.{zero_⊕, zero_⊗}
use Rattle.algebra.proofs.Solver.{◌:+◌, ◌:*◌, :neg, ring, A, B, C, D}
use Rattle.algebra.proofs.Poly.{Polys}
use Rattle.field.specs.Ring.{RingMeaning, RingLaws, one}
use Rattle.field.specs.Polynomial.{coefficient, degree, leading, trimmed, or_zero, Canonical, IsDivision}
use Rattle.field.specs.Rows.{IsRow, Written}
use Rattle.field.specs.Scalars.{CodeScalars, zero_is_code}
use Rattle.field.specs.Polynomials.{P, Coded, code_at, poly_of}
use Rattle.field.proofs.RowPolynomials.{poly_nothing, monomial, monomial_opposite, poly_added, poly_placed}
use Rattle.field.proofs.Divisions.{rows_division, taken_away}

-- of a row of zeros each code is 0, past its end too
pub zeros_past : (row : List ℕ) (n : ℕ) → IsRow row n (λ _. 0) → (i : ℕ) → get_or row i 0 ≡ 0
zeros_past row n w i = elim (dec_lt i n) [
  | yes h ↦ w.at i h
  | no h ↦ get_or_past row i 0 (omega (arith, w.sized))
]

module _ (m : RingMeaning) (L : RingLaws m) where
  abbrev R : Ring (P m L)
  R = Polys (CodeScalars m L)

  pub record Dividing (f g quotient row : List ℕ) (n : ℕ) : Type 0 where
    pub quotient_codes : Coded m quotient
    pub row_codes : Coded m row
    pub adds_up : poly_of m L f ≡ R.◌⊕◌ (R.◌⊗◌ (poly_of m L quotient) (poly_of m L g)) (poly_of m L row)
    pub row_ends : (i : ℕ) → n ≤ i → get_or row i 0 ≡ 0
    pub quotient_starts : (i : ℕ) → i + degree g < n → get_or quotient i 0 ≡ 0

  -- nothing is divided yet
  pub dividing_none : (f g quotient : List ℕ) → Coded m f → ((i : ℕ) → get_or quotient i 0 ≡ 0) → Dividing f g quotient f (length f)
  dividing_none f g quotient c zeros = record {
    quotient_codes = λ i. subst (λ (x : ℕ). x < m.order) (sym (zeros i)) (zero_is_code m L);
    row_codes = c;
    adds_up = sym (ap (λ (x : P m L). R.◌⊕◌ (R.◌⊗◌ x (poly_of m L g)) (poly_of m L f)) (poly_nothing m L quotient zeros) ∙ ap (λ (x : P m L). R.◌⊕◌ x (poly_of m L f)) (zero_⊗ R _) ∙ zero_⊕ R _);
    row_ends = λ i h. get_or_past f i 0 h;
    quotient_starts = λ i h. zeros i;
  }

  -- the code at the top is zero
  pub dividing_skip : (f g quotient row : List ℕ) (n : ℕ) → degree g < n → Dividing f g quotient row n → get_or row (n - 1) 0 ≡ 0 → Dividing f g quotient row (n - 1)
  dividing_skip f g quotient row n above d z = record {
    quotient_codes = d.quotient_codes;
    row_codes = d.row_codes;
    adds_up = d.adds_up;
    row_ends = λ i h. ends i h (dec_lt i n);
    quotient_starts = λ i h. d.quotient_starts i (omega arith);
  }
    where
      ends : (i : ℕ) → n - 1 ≤ i → Dec (i < n) → get_or row i 0 ≡ 0
      ends i h (yes l) =
          let e : i ≡ n - 1 = omega arith in
          ap (λ (k : ℕ). get_or row k 0) e ∙ z
      ends i h (no l) = d.row_ends i (omega arith)

  module _ (f g quotient row : List ℕ) (u n : ℕ) (cg : Canonical m g) (unit : m.product (leading g) u ≡ one m) (above : degree g < n)
      (d : Dividing f g quotient row n) where
    lead_code : leading g < m.order
    lead_code = code_at m L g cg (degree g)

    -- a multiple of the divisor is taken away
    pub dividing_more : (c t : ℕ) (new : List ℕ) → n - 1 - degree g < length quotient → c ≡ m.product u (get_or row (n - 1) 0) → t ≡ m.opposite c →
        Written row new (n - 1 - degree g) (length g) (λ i. m.sum (get_or row (n - 1 - degree g + i) 0) (m.product t (coefficient g i))) →
        Dividing f g (set quotient (n - 1 - degree g) c) new (n - 1)
    dividing_more c t new fits is_c is-t w = record {
      quotient_codes = λ i. placed i (ℕ_discrete i p);
      row_codes = λ i. written i (dec_lt i p) (dec_lt i (p + length g));
      adds_up = d.adds_up ∙ sym sums;
      row_ends = λ i h. ends i h (dec_lt i n);
      quotient_starts = λ i h. let ne : i ≢ p = omega arith in get_or-set_other quotient p i c 0 ne ∙ d.quotient_starts i (omega arith);
    }
      where
        p : ℕ
        p = n - 1 - degree g

        code_c : c < m.order
        code_c = subst (λ (x : ℕ). x < m.order) (sym is_c) (L.product_code u _)

        code_t : t < m.order
        code_t = subst (λ (x : ℕ). x < m.order) (sym is-t) (L.opposite_code c)

        placed : (i : ℕ) → Dec (i ≡ p) → get_or (set quotient p c) i 0 < m.order
        placed i (yes e) = subst (λ (x : ℕ). x < m.order) (sym (ap (λ (k : ℕ). get_or (set quotient p c) k 0) e ∙ get_or-set_same quotient p c 0 fits)) code_c
        placed i (no e) = subst (λ (x : ℕ). x < m.order) (sym (get_or-set_other quotient p i c 0 e)) (d.quotient_codes i)

        written : (i : ℕ) → Dec (i < p) → Dec (i < p + length g) → get_or new i 0 < m.order
        written i (yes a) b = subst (λ (x : ℕ). x < m.order) (sym (w.before i a)) (d.row_codes i)
        written i (no a) (yes b) =
            let back : p + (i - p) ≡ i = omega arith in
            subst (λ (x : ℕ). x < m.order) (sym (w.inside (i - p) (omega arith)) ∙ ap (λ (k : ℕ). get_or new k 0) back) (L.sum_code _ _)
        written i (no a) (no b) = subst (λ (x : ℕ). x < m.order) (sym (w.after i (omega arith))) (d.row_codes i)

        ends : (i : ℕ) → n - 1 ≤ i → Dec (i < n) → get_or new i 0 ≡ 0
        ends i h (yes l) =
            let here : i ≡ p + degree g = omega arith in
            let top : p + degree g ≡ n - 1 = omega arith in
            ap (λ (k : ℕ). get_or new k 0) here ∙ w.inside (degree g) (omega (arith, cg.some_code))
            ∙ ap₂ (λ (x y : ℕ). m.sum x (m.product y (leading g))) (ap (λ (k : ℕ). get_or row k 0) top) (is-t ∙ ap m.opposite is_c)
            ∙ taken_away m L (leading g) u (get_or row (n - 1) 0) lead_code (d.row_codes (n - 1)) unit
        ends i h (no l) = w.after i (omega (arith, cg.some_code)) ∙ d.row_ends i (omega arith)

        -- what the row loses the quotient gains
        sums : R.◌⊕◌ (R.◌⊗◌ (poly_of m L (set quotient p c)) (poly_of m L g)) (poly_of m L new) ≡ R.◌⊕◌ (R.◌⊗◌ (poly_of m L quotient) (poly_of m L g)) (poly_of m L row)
        sums =
            ap₂ (λ (x y : P m L). R.◌⊕◌ (R.◌⊗◌ x (poly_of m L g)) y)
            (poly_placed m L quotient c p d.quotient_codes code_c fits (d.quotient_starts p (omega arith)))
            (poly_added m L row new g t p d.row_codes (code_at m L g cg) code_t w
            ∙ ap (λ (x : P m L). R.◌⊕◌ (poly_of m L row) (R.◌⊗◌ x (poly_of m L g))) (ap (λ (x : ℕ). monomial m L x p) is-t ∙ monomial_opposite m L c p code_c))
            ∙ ring R (poly_of m L quotient ∷ monomial m L c p ∷ poly_of m L g ∷ poly_of m L row ∷ []) ((A :+ B) :* C :+ (D :+ :neg B :* C)) (A :* C :+ D) refl

  -- all is divided
  pub dividing_all : (f g quotient row : List ℕ) (n : ℕ) → n ≤ degree g → Coded m f → Canonical m g → Dividing f g quotient row n →
      IsDivision m (or_zero (trimmed f)) g (or_zero (trimmed quotient)) (or_zero (trimmed row))
  dividing_all f g quotient row n h cf cg d =
      rows_division m L f g quotient row cf cg d.quotient_codes d.row_codes d.adds_up (λ i l. d.row_ends i (omega arith))
