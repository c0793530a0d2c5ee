-- Rows of which an echelon form was made are independent, and the combination that shows that one more row depends on them is the only one.
-- Main statements: independent, independent_all, same_combination.
use Rattle.std.proofs.Common.{◌≡◌, ℕ, zero, suc, ◌+◌, ◌-◌, ◌*◌, ◌<◌, ◌≤◌, List, sym, ap, ◌∙◌, subst, ap₂, ⊎_elim, arith}
use Rattle.std.proofs.lemmas.Bool.{cases_eq, cases_order}
use Rattle.field.specs.Ring.{RingMeaning, RingLaws, one}
use Rattle.algebra.specs.Ring.{Ring}
use Rattle.algebra.proofs.Echelon.{dot, Sees, sees_none, sees_more}
use Rattle.field.specs.Scalars.{Code, CodeRing, code_path, zero_is_code, zero_code, unit_code, scalar, scalar_value}
use Rattle.split.specs.Matrix.{cell, Codes, combined, Independent}
use Rattle.split.specs.Echelon.{Echelon, pivot_of, less}
use Rattle.split.proofs.Rows.{row_code, combination_code}
use Rattle.split.proofs.Carrier.{scalars, combined_is, combined_scalar, combined_longer, combined_less, less_zero, less_self, less_equal}

module _ (m : RingMeaning) (L : RingLaws m) (d n : ℕ) (old codes : List ℕ) (size : n < d) (hold : Codes m (d * d) old) (hcodes : Codes m (2 * (d * d)) codes) (ech : Echelon m d old codes n) where
  abbrev R : Ring (Code m L)
  R = CodeRing m L

  -- old row j at column i, and the coefficients that made row r
  abbrev row : ℕ → ℕ → Code m L
  row j i = scalar m L (cell old d j i)

  abbrev made_by : ℕ → ℕ → Code m L
  made_by r = scalars m L (cell codes d (d + r))

  -- the reduced row r as a combination of old rows 1 to r
  made_short : (r i : ℕ) → 1 ≤ r → r ≤ n → i < d → (dot R r (made_by r) (λ j. row j i)).0 ≡ cell codes d r i
  made_short r i h k l =
      let s : (d - 1 - r) + r ≡ d - 1 = omega arith in
      let c : ℕ → ℕ = cell codes d (d + r) in
      let v : ℕ → ℕ = λ j. cell old d j i in
      let hc : (j : ℕ) → j < d → c j < m.order = λ j a. combination_code m d r j codes hcodes (omega arith) a in
      let hv : (j : ℕ) → j < d → v j < m.order = λ j a. row_code m d j i old hold a l in
      combined_is m L r c v (λ j a b. hc j (omega arith)) (λ j a b. hv j (omega arith))
      ∙ sym (combined_longer m L (d - 1 - r) r c v (λ j a b. hc j (omega arith)) (λ j a b. hv j (omega arith)) (λ j a b. ech.none_beyond r j h k a (omega arith)))
      ∙ ap (λ (x : ℕ). combined m x c v) s
      ∙ sym (ech.made r i h k l)

  sees : (k : ℕ) → k ≤ n → Sees R k row (pivot_of codes d)
  sees zero h = sees_none R row (pivot_of codes d)
  sees (suc k) h =
      sees_more R k row (pivot_of codes d) (sees k (omega arith)) (made_by (suc k))
      (λ r a b. code_path m L (made_short (suc k) (pivot_of codes d r) (omega arith) h (ech.pivot_in r a (omega arith)) ∙ ech.clear r (suc k) a (omega arith) h ∙ sym (zero_code m L)))
      (code_path m L (made_short (suc k) (pivot_of codes d (suc k)) (omega arith) h (ech.pivot_in (suc k) (omega arith) h) ∙ ech.pivot_one (suc k) (omega arith) h ∙ sym (unit_code m L)))

  pub independent : Independent m d n old
  independent c hc zeros j h k =
      sym (scalar_value m L (c j) (hc j))
      ∙ ap (λ (x : Code m L). x.0)
      (sees n (omega arith) (scalars m L c)
      (λ r a b.
      combined_scalar m L n c (λ i. cell old d i (pivot_of codes d r)) (λ i p q. hc i) (λ i p q. row_code m d i (pivot_of codes d r) old hold (omega arith) (ech.pivot_in r a b))
      (zeros (pivot_of codes d r) (ech.pivot_in r a b)))
      j h k)
      ∙ zero_code m L

-- all rows, where a count from 1 has come to the side of the matrix
pub independent_all : (m : RingMeaning) (L : RingLaws m) (d e : ℕ) (old codes : List ℕ) → 1 ≤ e → d ≤ e → (1 ≤ d → e ≤ d) → Codes m (d * d) old → Codes m (2 * (d * d)) codes
    → Echelon m d old codes (e - 1) → Independent m d (d - 1) old
independent_all m L d e old codes first left end hold hcodes ech =
    ⊎_elim
    (λ (z : d ≡ 0). λ c hc zeros j h k. absurd (omega arith))
    (λ (z : d ≡ 0 → ⊥).
    let last : e ≤ d = end (omega arith) in
    let s : e - 1 ≡ d - 1 = omega arith in
    subst (λ (x : ℕ). Independent m d x old) s (independent m L d (e - 1) old codes (omega arith) hold hcodes ech))
    (cases_eq d 0)

-- Two combinations that are zero, with a one at e and nothing beyond, are equal if the rows before e are independent.
module _ (m : RingMeaning) (L : RingLaws m) (d e : ℕ) (old : List ℕ) (low : 1 ≤ e) (high : e < d) (hold : Codes m (d * d) old) (least : Independent m d (e - 1) old)
    (c b : ℕ → ℕ) (hc : (j : ℕ) → c j < m.order) (hb : (j : ℕ) → j < d → b j < m.order) (c-one : c e ≡ one m) (b_one : b e ≡ one m)
    (c-none : (j : ℕ) → e < j → j < d → c j ≡ 0) (b-none : (j : ℕ) → e < j → j < d → b j ≡ 0)
    (c-zero : (i : ℕ) → i < d → combined m (d - 1) c (λ j. cell old d j i) ≡ 0) (b-zero : (i : ℕ) → i < d → combined m (d - 1) b (λ j. cell old d j i) ≡ 0) where
  -- their difference
  abbrev between : ℕ → ℕ
  between j = less m (one m) (c j) (b j)

  none_from : (j : ℕ) → e ≤ j → j < d → between j ≡ 0
  none_from j h k =
      ⊎_elim
      (λ (q : e ≡ j). ap between (sym q) ∙ ap₂ (less m (one m)) c-one b_one ∙ less_self m L (one m) L.one_code.1)
      (⊎_elim (λ (q : e < j). ap₂ (less m (one m)) (c-none j q k) (b-none j q k) ∙ less_zero m L (one m) 0 L.one_code.1 (zero_is_code m L)) (λ (q : j < e). absurd (omega arith)))
      (cases_order e j)

  between_zero : (i : ℕ) → i < d → combined m (e - 1) between (λ j. cell old d j i) ≡ 0
  between_zero i h =
      let s : (d - e) + (e - 1) ≡ d - 1 = omega arith in
      let hv : (j : ℕ) → j < d → cell old d j i < m.order = λ j k. row_code m d j i old hold k h in
      sym (combined_longer m L (d - e) (e - 1) between (λ j. cell old d j i) (λ j p q. L.sum_code _ _) (λ j p q. hv j (omega arith)) (λ j p q. none_from j (omega arith) (omega arith)))
      ∙ ap (λ (x : ℕ). combined m x between (λ j. cell old d j i)) s
      ∙ combined_less m L (d - 1) (one m) c b (λ j. cell old d j i) L.one_code.1 (λ j p q. hc j) (λ j p q. hb j (omega arith)) (λ j p q. hv j (omega arith))
      ∙ ap₂ (less m (one m)) (c-zero i h) (b-zero i h) ∙ less_zero m L (one m) 0 L.one_code.1 (zero_is_code m L)

  pub same_combination : (j : ℕ) → 1 ≤ j → j < d → c j ≡ b j
  same_combination j h k =
      less_equal m L (c j) (b j) (hc j) (hb j k)
      (⊎_elim (λ (q : e ≡ j). none_from j (omega arith) k) (⊎_elim (λ (q : e < j). none_from j (omega arith) k) (λ (q : j < e). least between (λ x. L.sum_code _ _) between_zero j h (omega arith))) (cases_order e j))
