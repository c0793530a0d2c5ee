-- Combinations of codes are combinations of scalars, so that what is proved over any ring can be said of codes.
-- Main statements: less_zero, less_self, less_equal; combined_is, combined_same, combined_less, combined_scale, combined_unit,
-- combined_longer.
use Rattle.std.proofs.Common.{◌≡◌, ℕ, suc, ◌+◌, ◌-◌, ◌<◌, ◌≤◌, List, [], ◌∷◌, length, get_or, sym, refl, ap, ◌∙◌, ap₂, ⊎_elim, add-one, arith}
use Rattle.std.proofs.lemmas.Bool.{cases_eq}
use Rattle.algebra.specs.Ring.{Ring}
use Rattle.algebra.proofs.Laws.{zero_⊗, eq_of_diff}
use Rattle.algebra.proofs.Solver.{:0, :1, ◌:+◌, ◌:*◌, :neg, ring, A, B}
use Rattle.algebra.proofs.Echelon.{total_longer, dot, dot_same, dot_less, dot_scale, dot_unit}
use Rattle.field.specs.Ring.{RingMeaning, RingLaws, one}
use Rattle.field.specs.Rows.{IsRow}
use Rattle.field.proofs.Totals.{total_none, total_more, total_same}
use Rattle.field.specs.Scalars.{Code, CodeRing, code_path, zero_code, unit_code, sum_codes, opposite_codes, product_codes, total_codes, scalar, scalar_value, scalar_zero, scalar_one, scalar_product}
use Rattle.split.specs.Matrix.{combined}
use Rattle.split.specs.Echelon.{less}

-- no term, and one term more
pub combined_none : (m : RingMeaning) (c v : ℕ → ℕ) → 0 ≡ combined m 0 c v
combined_none m c v = sym (total_none m (λ j. m.product (c (suc j)) (v (suc j))))

pub combined_more : (m : RingMeaning) (n : ℕ) (c v : ℕ → ℕ) {s t p x y : ℕ} → t ≡ m.sum s p → s ≡ combined m n c v → p ≡ m.product x y → x ≡ c (1 + n) → y ≡ v (1 + n) → t ≡ combined m (n + 1) c v
combined_more m n c v a b e h k =
    let s : 1 + n ≡ suc n = omega arith in
    a ∙ ap₂ m.sum b (e ∙ ap₂ m.product (h ∙ ap c s) (k ∙ ap v s)) ∙ sym (total_more m n (λ j. m.product (c (suc j)) (v (suc j)))) ∙ ap (λ (i : ℕ). combined m i c v) (sym (add-one n))

-- the coefficients of a combination, from a row of them
pub combined_of_row : (m : RingMeaning) (e : ℕ) (row : List ℕ) (c v : ℕ → ℕ) → IsRow row (suc e) c → combined m (length row - 1) (λ i. get_or row i 0) v ≡ combined m e c v
combined_of_row m e row c v is =
    let s : length row - 1 ≡ e = omega (arith, is.sized) in
    ap (λ (n : ℕ). combined m n (λ i. get_or row i 0) v) s ∙ total_same m e _ _ (λ j h. ap (λ (x : ℕ). m.product x (v (suc j))) (is.at (suc j) (omega arith)))

module _ (m : RingMeaning) (L : RingLaws m) where
  -- the scalar of f j at j
  abbrev pub scalars : (ℕ → ℕ) → ℕ → Code m L
  scalars f j = scalar m L (f j)

  abbrev R : Ring (Code m L)
  R = CodeRing m L

  abbrev number : Code m L → ℕ
  number a = a.0

  -- f 1 to f n are codes
  abbrev pub CodesTo : ℕ → (ℕ → ℕ) → Type 0
  CodesTo n f = (j : ℕ) → 1 ≤ j → j ≤ n → f j < m.order

  -- single codes

  less_codes : (t x y : Code m L) → (R.◌⊕◌ x (R.neg (R.◌⊗◌ t y))).0 ≡ less m t.0 x.0 y.0
  less_codes t x y = sum_codes m L x _ ∙ ap (m.sum x.0) (opposite_codes m L _ ∙ ap m.opposite (product_codes m L t y))

  less_same : (t x y : ℕ) {t' x' y' : ℕ} → t ≡ t' → x ≡ x' → y ≡ y' → less m t x y ≡ less m t' x' y'
  less_same t x y {t'} a b c = ap (λ (z : ℕ). less m z x y) a ∙ ap₂ (less m t') b c

  pub less_zero : (t x : ℕ) → t < m.order → x < m.order → less m t x 0 ≡ x
  less_zero t x h k = sym (less_codes (t, h) (x, k) R.𝟘 ∙ ap (less m t x) (zero_code m L)) ∙ ap number (ring R ((t, h) ∷ (x, k) ∷ []) (B :+ :neg (A :* :0)) B refl)

  pub less_self : (t : ℕ) → t < m.order → less m t t (one m) ≡ 0
  less_self t h =
      sym (less_codes (t, h) (t, h) R.𝟙 ∙ ap (less m t t) (unit_code m L)) ∙ ap number (ring R ((t, h) ∷ []) (A :+ :neg (A :* :1)) :0 refl) ∙ zero_code m L

  -- x - y is zero only if x is y
  pub less_equal : (x y : ℕ) → x < m.order → y < m.order → less m (one m) x y ≡ 0 → x ≡ y
  less_equal x y h k e =
      let same : m.product (one m) y ≡ y = L.product_comm (one m) y L.one_code.1 k ∙ L.product_one y k in
      ap number (eq_of_diff R (x, h) (y, k) (code_path m L
      (sum_codes m L (x, h) _ ∙ ap (m.sum x) (opposite_codes m L (y, k) ∙ ap m.opposite (sym same)) ∙ e ∙ sym (zero_code m L))))

  scalar_less : (t x y : ℕ) → t < m.order → x < m.order → y < m.order
      → scalar m L (less m t x y) ≡ R.◌⊕◌ (scalar m L x) (R.neg (R.◌⊗◌ (scalar m L t) (scalar m L y)))
  scalar_less t x y ht hx hy =
      code_path m L (scalar_value m L (less m t x y) (L.sum_code _ _)
      ∙ sym (less_codes (scalar m L t) (scalar m L x) (scalar m L y) ∙ less_same _ _ _ (scalar_value m L t ht) (scalar_value m L x hx) (scalar_value m L y hy)))

  -- combinations

  pub combined_is : (n : ℕ) (c v : ℕ → ℕ) → CodesTo n c → CodesTo n v → (dot R n (scalars c) (scalars v)).0 ≡ combined m n c v
  combined_is n c v hc hv =
      total_codes m L n _
      ∙ total_same m n _ _ (λ j h. product_codes m L _ _
      ∙ ap₂ m.product (scalar_value m L (c (suc j)) (hc (suc j) (omega arith) (omega arith))) (scalar_value m L (v (suc j)) (hv (suc j) (omega arith) (omega arith))))

  -- the same, of scalars
  pub combined_scalar : (n : ℕ) (c v : ℕ → ℕ) → CodesTo n c → CodesTo n v → combined m n c v ≡ 0 → dot R n (scalars c) (scalars v) ≡ R.𝟘
  combined_scalar n c v hc hv e = code_path m L (combined_is n c v hc hv ∙ e ∙ sym (zero_code m L))

  pub combined_same : (n : ℕ) (c b v : ℕ → ℕ) → ((j : ℕ) → 1 ≤ j → j ≤ n → c j ≡ b j) → combined m n c v ≡ combined m n b v
  combined_same n c b v e = total_same m n _ _ (λ j h. ap (λ (x : ℕ). m.product x (v (suc j))) (e (suc j) (omega arith) (omega arith)))

  -- over other rows that are the same
  pub combined_rows : (n : ℕ) (c v w : ℕ → ℕ) → ((j : ℕ) → 1 ≤ j → j ≤ n → v j ≡ w j) → combined m n c v ≡ combined m n c w
  combined_rows n c v w e = total_same m n _ _ (λ j h. ap (m.product (c (suc j))) (e (suc j) (omega arith) (omega arith)))

  pub combined_less : (n t : ℕ) (c b v : ℕ → ℕ) → t < m.order → CodesTo n c → CodesTo n b → CodesTo n v
      → combined m n (λ j. less m t (c j) (b j)) v ≡ less m t (combined m n c v) (combined m n b v)
  combined_less n t c b v ht hc hb hv =
      sym (combined_is n (λ j. less m t (c j) (b j)) v (λ j h k. L.sum_code _ _) hv)
      ∙ ap number (dot_same R n _ _ (scalars v) (λ j h k. scalar_less t (c j) (b j) ht (hc j h k) (hb j h k)) ∙ dot_less R n (scalar m L t) (scalars c) (scalars b) (scalars v))
      ∙ less_codes (scalar m L t) _ _ ∙ less_same _ _ _ (scalar_value m L t ht) (combined_is n c v hc hv) (combined_is n b v hb hv)

  pub combined_scale : (n u : ℕ) (c v : ℕ → ℕ) → u < m.order → CodesTo n c → CodesTo n v → combined m n (λ j. m.product u (c j)) v ≡ m.product u (combined m n c v)
  combined_scale n u c v hu hc hv =
      sym (combined_is n (λ j. m.product u (c j)) v (λ j h k. L.product_code _ _) hv)
      ∙ ap number (dot_same R n _ _ (scalars v) (λ j h k. scalar_product m L u (c j) hu (hc j h k)) ∙ dot_scale R n (scalar m L u) (scalars c) (scalars v))
      ∙ product_codes m L _ _ ∙ ap₂ m.product (scalar_value m L u hu) (combined_is n c v hc hv)

  -- a combination with a one at e and nothing else is row e
  pub combined_unit : (n e : ℕ) (c v : ℕ → ℕ) → 1 ≤ e → e ≤ n → CodesTo n v → c e ≡ one m → ((j : ℕ) → 1 ≤ j → j ≤ n → (j ≡ e → ⊥) → c j ≡ 0) → combined m n c v ≡ v e
  combined_unit n e c v low high hv unit none =
      let two = L.one_code.1 in
      let hc : CodesTo n c = λ j h k.
      ⊎_elim (λ (q : j ≡ e). let z : c j ≡ one m = ap c q ∙ unit in omega arith) (λ (q : j ≡ e → ⊥). let z = none j h k q in omega arith) (cases_eq j e) in
      sym (combined_is n c v hc hv)
      ∙ ap number (dot_unit R n e (scalars c) (scalars v) low high (ap (scalar m L) unit ∙ scalar_one m L) (λ j h k q. ap (scalar m L) (none j h k q) ∙ scalar_zero m L))
      ∙ scalar_value m L (v e) (hv e low high)

  -- coefficients that are zero add nothing
  pub combined_longer : (k n : ℕ) (c v : ℕ → ℕ) → CodesTo (k + n) c → CodesTo (k + n) v → ((j : ℕ) → n < j → j ≤ k + n → c j ≡ 0) → combined m (k + n) c v ≡ combined m n c v
  combined_longer k n c v hc hv z =
      sym (combined_is (k + n) c v hc hv)
      ∙ ap number
      (total_longer R k n _ (λ j h l. ap (λ (x : Code m L). R.◌⊗◌ x (scalar m L (v (suc j)))) (ap (scalar m L) (z (suc j) (omega arith) (omega arith)) ∙ scalar_zero m L) ∙ zero_⊗ R (scalar m L (v (suc j)))))
      ∙ combined_is n c v (λ j h l. hc j h (omega arith)) (λ j h l. hv j h (omega arith))
