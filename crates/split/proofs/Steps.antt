-- What each step of the elimination does to the echelon form.
-- Main statements: scaled, echelon_frame, partly_none, partly_more, echelon_more.
use Rattle.std.proofs.Common.{◌≡◌, ℕ, ◌+◌, ◌-◌, ◌*◌, ◌<◌, ◌≤◌, eqb, List, get_or, sym, refl, ap, ◌∙◌, subst, ap₂, ⊎_elim, arith}
use Rattle.std.proofs.lemmas.Bool.{cases_eq, cond-true, cond-false, eq-eqb, ne_eqb}
use Rattle.field.specs.Ring.{RingMeaning, RingLaws, one}
use Rattle.field.specs.Rows.{Written}
use Rattle.split.specs.Matrix.{cell, Codes, combined}
use Rattle.split.specs.Echelon.{Echelon, Partly, Frame, Subtracted, Scaled, pivot_of, less, unit_at}
use Rattle.split.proofs.Rows.{row_code, scratch_code, combination_code}
use Rattle.split.proofs.Leads.{lead_is}
use Rattle.split.proofs.Frames.{frame_row, frame_pivot, frame_two, written_row}
use Rattle.field.specs.Scalars.{product_zero, zero_is_code}
use Rattle.split.proofs.Carrier.{less_zero, less_self, combined_same, combined_less, combined_scale, combined_unit}

-- The two writes that multiply row e and its combination by the inverse of what the row has at its pivot.
pub scaled : (m : RingMeaning) (L : RingLaws m) (d e u q : ℕ) {old mid new : List ℕ} → e < d → Codes m (2 * (d * d)) old → ((k : ℕ) → k < q → cell old d e k ≡ 0) → q < d → u < m.order
    → m.product (cell old d e q) u ≡ one m
    → Written old mid (e * d) d (λ i. m.product u (get_or old (e * d + i) 0))
    → Written mid new ((d + e) * d) d (λ i. m.product u (get_or mid ((d + e) * d + i) 0))
    → Scaled m d e u old new
scaled m L d e u q {old} {mid} {new} high b before hq hu inverse w v =
    let row : (i : ℕ) → i < d → cell new d e i ≡ m.product u (cell old d e i) = λ i h. written_row d (d + e) e i v (omega arith) h ∙ w.inside i h in
    let unit : cell new d e q ≡ one m = row q hq ∙ L.product_comm u (cell old d e q) hu (scratch_code m d e q old b high hq) ∙ inverse in
    let pivot : pivot_of new d e ≡ q =
    lead_is d q (cell new d e) (omega arith) (λ k h. row k (omega arith) ∙ ap (m.product u) (before k h) ∙ product_zero m L u hu) (λ h z. omega arith) in
    record {
      code = hu;
      frame = frame_two d e w v;
      row = row;
      combination = λ i h. v.inside i h ∙ ap (m.product u) (written_row d e (d + e) i w (omega arith) h);
      pivot_in = omega arith;
      pivot_one = ap (cell new d e) pivot ∙ unit;
    }

module _ (m : RingMeaning) (L : RingLaws m) (d e : ℕ) (low : 1 ≤ e) (high : e < d) where
  -- rows before e stay in echelon form while row e is worked on
  pub echelon_frame : (old codes new : List ℕ) (n : ℕ) → n < e → Frame d e codes new → Echelon m d old codes n → Echelon m d old new n
  echelon_frame old codes new n h f a =
      let pivot : (r : ℕ) → r ≤ n → pivot_of new d r ≡ pivot_of codes d r = λ r k. frame_pivot d e r f (omega arith) (omega arith) in
      let row : (r i : ℕ) → r ≤ n → i < d → cell new d r i ≡ cell codes d r i = λ r i k l. frame_row d e r i f (omega arith) (omega arith) l in
      let combination : (r i : ℕ) → r ≤ n → i < d → cell new d (d + r) i ≡ cell codes d (d + r) i = λ r i k l. frame_row d e (d + r) i f (omega arith) (omega arith) l in
      record {
        pivot_in = λ r k l. subst (λ (x : ℕ). x < d) (sym (pivot r l)) (a.pivot_in r k l);
        pivot_one = λ r k l. ap (cell new d r) (pivot r l) ∙ row r _ l (a.pivot_in r k l) ∙ a.pivot_one r k l;
        clear = λ r s k l z. ap (cell new d s) (pivot r (omega arith)) ∙ row s _ z (a.pivot_in r k (omega arith)) ∙ a.clear r s k l z;
        made = λ r i k l z. row r i l z ∙ a.made r i k l z ∙ combined_same m L (d - 1) _ _ (λ j. cell old d j i) (λ j p q. sym (combination r j l (omega arith)));
        none_first = λ r k l. combination r 0 l (omega arith) ∙ a.none_first r k l;
        none_beyond = λ r j k l z w. combination r j l w ∙ a.none_beyond r j k l z w;
      }

  -- Before any row is taken from it, row e is the old row e.
  pub partly_none : (old codes new : List ℕ) → Codes m (d * d) old → Written codes new ((d + e) * d) d (unit_at e)
      → ((i : ℕ) → i < d → cell codes d e i ≡ cell old d e i) → Partly m d old new e 0
  partly_none old codes new b w same =
      let row : (i : ℕ) → i < d → cell new d e i ≡ cell old d e i = λ i h. written_row d (d + e) e i w (omega arith) h ∙ same i h in
      let unit : cell new d (d + e) e ≡ one m = w.inside e high ∙ cond-true (eqb e e) 1 0 (eq-eqb e e refl) in
      let none : (j : ℕ) → j < d → (j ≡ e → ⊥) → cell new d (d + e) j ≡ 0 = λ j h ne. w.inside j h ∙ cond-false (eqb j e) 1 0 (ne_eqb j e ne) in
      record {
        clear = λ r h k. absurd (omega arith);
        made = λ i h. row i h ∙ sym (combined_unit m L (d - 1) e (cell new d (d + e)) (λ j. cell old d j i) low (omega arith)
            (λ j p q. row_code m d j i old b (omega arith) h) unit (λ j p q ne. none j (omega arith) ne));
        unit = unit;
        none_first = none 0 (omega arith) (omega arith);
        none_beyond = λ j h k. none j k (omega arith);
      }

  -- One row more is taken from row e.
  module _ (old codes new : List ℕ) (r : ℕ) (first : 1 ≤ r) (above : r < e) (hold : Codes m (d * d) old) (hcodes : Codes m (2 * (d * d)) codes)
      (ech : Echelon m d old codes (e - 1)) (sub : Subtracted m d r e (cell codes d e (pivot_of codes d r)) codes new) where
    abbrev t : ℕ
    t = cell codes d e (pivot_of codes d r)

    t_code : t < m.order
    t_code = scratch_code m d e (pivot_of codes d r) codes hcodes high (ech.pivot_in r first (omega arith))

    pivot_same : (s : ℕ) → s < e → pivot_of new d s ≡ pivot_of codes d s
    pivot_same s h = frame_pivot d e s sub.frame (omega arith) (omega arith)

    -- where row r has a zero, row e keeps what it has
    keeps : (i x : ℕ) → x < m.order → cell codes d e i ≡ x → i < d → cell codes d r i ≡ 0 → cell new d e i ≡ x
    keeps i x b p h z = sub.row i h ∙ ap₂ (less m t) p z ∙ less_zero m L t x t_code b

    combination_keeps : (i x : ℕ) → x < m.order → cell codes d (d + e) i ≡ x → i < d → cell codes d (d + r) i ≡ 0 → cell new d (d + e) i ≡ x
    combination_keeps i x b p h z = sub.combination i h ∙ ap₂ (less m t) p z ∙ less_zero m L t x t_code b

    clear_at : Partly m d old codes e (r - 1) → (s : ℕ) → 1 ≤ s → s ≤ r → cell new d e (pivot_of codes d s) ≡ 0
    clear_at part s h k =
        ⊎_elim
        (λ (q : s ≡ r).
        ap (λ (x : ℕ). cell new d e (pivot_of codes d x)) q ∙ sub.row (pivot_of codes d r) (ech.pivot_in r first (omega arith))
        ∙ ap (less m t t) (ech.pivot_one r first (omega arith)) ∙ less_self m L t t_code)
        (λ (q : s ≡ r → ⊥).
        keeps (pivot_of codes d s) 0 (zero_is_code m L) (part.clear s h (omega arith)) (ech.pivot_in s h (omega arith)) (ech.clear s r h (omega arith) (omega arith)))
        (cases_eq s r)

    pub partly_more : Partly m d old codes e (r - 1) → Partly m d old new e r
    partly_more part = record {
      clear = λ s h k. ap (cell new d e) (pivot_same s (omega arith)) ∙ clear_at part s h k;
      made = λ i h.
          sub.row i h
          ∙ ap₂ (less m t) (part.made i h) (ech.made r i first (omega arith) h)
          ∙ sym (combined_less m L (d - 1) t (cell codes d (d + e)) (cell codes d (d + r)) (λ j. cell old d j i) t_code
          (λ j p q. combination_code m d e j codes hcodes high (omega arith)) (λ j p q. combination_code m d r j codes hcodes (omega arith) (omega arith)) (λ j p q. row_code m d j i old hold (omega arith) h))
          ∙ combined_same m L (d - 1) _ _ (λ j. cell old d j i) (λ j p q. sym (sub.combination j (omega arith)));
      unit = combination_keeps e (one m) L.one_code.1 part.unit high (ech.none_beyond r e first (omega arith) above high);
      none_first = combination_keeps 0 0 (zero_is_code m L) part.none_first (omega arith) (ech.none_first r first (omega arith));
      none_beyond = λ j h k. combination_keeps j 0 (zero_is_code m L) (part.none_beyond j h k) k (ech.none_beyond r j first (omega arith) (omega arith) k);
    }

  -- Row e, cleared at all pivots before it and scaled to one at its own, is the next of the echelon form.
  pub echelon_more : (old codes new : List ℕ) (u : ℕ) → Codes m (d * d) old → Codes m (2 * (d * d)) codes
      → Echelon m d old codes (e - 1) → Partly m d old codes e (e - 1) → Scaled m d e u codes new → Echelon m d old new e
  echelon_more old codes new u hold hcodes a part s = record {
    pivot_in = λ r h k. split r k (λ x. pivot_of new d x < d) (λ l. b.pivot_in r h (omega arith)) s.pivot_in;
    pivot_one = λ r h k. split r k (λ x. cell new d x (pivot_of new d x) ≡ one m) (λ l. b.pivot_one r h (omega arith)) s.pivot_one;
    clear = λ r z h k l. split z l (λ x. cell new d x (pivot_of new d r) ≡ 0) (λ q. b.clear r z h k (omega arith)) (cleared r h (omega arith));
    made = λ r i h k l. split r k (λ x. cell new d x i ≡ combined m (d - 1) (cell new d (d + x)) (λ j. cell old d j i)) (λ q. b.made r i h (omega arith) l) (made_here i l);
    none_first = λ r h k. split r k (λ x. cell new d (d + x) 0 ≡ 0) (λ q. b.none_first r h (omega arith)) (zero_here 0 (omega arith) part.none_first);
    none_beyond = λ r j h k l z. split r k (λ x. x < j → cell new d (d + x) j ≡ 0) (λ q. λ y. b.none_beyond r j h (omega arith) y z) (λ y. zero_here j z (part.none_beyond j y z)) l;
  }
    where
      b : Echelon m d old new (e - 1)
      b = echelon_frame old codes new (e - 1) (omega arith) s.frame a

      -- a row up to e is before e or is row e
      split : (r : ℕ) → r ≤ e → (P : ℕ → Type 0) → (r < e → P r) → P e → P r
      split r h P before here = ⊎_elim (λ (q : r ≡ e). subst P (sym q) here) (λ (q : r ≡ e → ⊥). before (omega arith)) (cases_eq r e)

      cleared : (r : ℕ) → 1 ≤ r → r < e → cell new d e (pivot_of new d r) ≡ 0
      cleared r h k =
          ap (cell new d e) (frame_pivot d e r s.frame (omega arith) (omega arith)) ∙ s.row _ (a.pivot_in r h (omega arith)) ∙ ap (m.product u) (part.clear r h (omega arith)) ∙ product_zero m L u s.code

      made_here : (i : ℕ) → i < d → cell new d e i ≡ combined m (d - 1) (cell new d (d + e)) (λ j. cell old d j i)
      made_here i h =
          s.row i h ∙ ap (m.product u) (part.made i h)
          ∙ sym (combined_scale m L (d - 1) u (cell codes d (d + e)) (λ j. cell old d j i) s.code (λ j p q. combination_code m d e j codes hcodes high (omega arith)) (λ j p q. row_code m d j i old hold (omega arith) h))
          ∙ combined_same m L (d - 1) _ _ (λ j. cell old d j i) (λ j p q. sym (s.combination j (omega arith)))

      zero_here : (j : ℕ) → j < d → cell codes d (d + e) j ≡ 0 → cell new d (d + e) j ≡ 0
      zero_here j h z = s.combination j h ∙ ap (m.product u) z ∙ product_zero m L u s.code
