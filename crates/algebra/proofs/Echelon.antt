-- Combinations of rows over a commutative ring, and why rows that were brought into echelon form are independent.
-- Main statements: total_same, total_none, total_longer; dot, dot_linear, dot_less, dot_scale, dot_unit; Sees, sees_none, sees_more.
use Rattle.std.proofs.Common.{◌≡◌, ℕ, zero, suc, ◌+◌, ◌<◌, ◌≤◌, [], ◌∷◌, sym, refl, ap, ◌∙◌, ap₂, ⊎_elim, arith}
use Rattle.std.proofs.lemmas.Bool.{cases_eq}
use Rattle.algebra.specs.Ring.{Ring}
use Rattle.algebra.proofs.Laws.{zero_⊗, neg_neg, neg_zero, one_⊗, zero_⊕}
use Rattle.algebra.proofs.Solver.{var, :0, :1, ◌:+◌, ◌:*◌, :neg, ring, A, B, C, D, E, F}
use Rattle.algebra.proofs.Combination.{total, total_zero, total_last}

module _ {K : Type 0} (R : Ring K) where
  infixl 65 ◌⊕◌
  infixl 70 ◌⊗◌
  open R use {𝟘, 𝟙, ◌⊕◌, ◌⊗◌, neg, ⊕_zero}

  -- a sum depends on no more than its terms
  pub total_same : (n : ℕ) (f g : ℕ → K) → ((j : ℕ) → j < n → f j ≡ g j) → total R n f ≡ total R n g
  total_same zero f g e = total_zero R f ∙ sym (total_zero R g)
  total_same (suc n) f g e =
      total_last R n f ∙ ap₂ ◌⊕◌ (total_same n f g (λ j h. e j (omega arith))) (e n (omega arith)) ∙ sym (total_last R n g)

  -- a sum of zeros
  pub total_none : (n : ℕ) (f : ℕ → K) → ((j : ℕ) → j < n → f j ≡ 𝟘) → total R n f ≡ 𝟘
  total_none zero f e = total_zero R f
  total_none (suc n) f e = total_last R n f ∙ ap₂ ◌⊕◌ (total_none n f (λ j h. e j (omega arith))) (e n (omega arith)) ∙ ⊕_zero 𝟘

  -- zeros from n on add nothing
  pub total_longer : (k n : ℕ) (f : ℕ → K) → ((j : ℕ) → n ≤ j → j < k + n → f j ≡ 𝟘) → total R (k + n) f ≡ total R n f
  total_longer zero n f e = ap (λ (x : ℕ). total R x f) (omega arith)
  total_longer (suc k) n f e =
      let s : suc k + n ≡ suc (k + n) = omega arith in
      ap (λ (x : ℕ). total R x f) s ∙ total_last R (k + n) f
      ∙ ap₂ ◌⊕◌ (total_longer k n f (λ j h l. e j h (omega arith))) (e (k + n) (omega arith) (omega arith)) ∙ ⊕_zero (total R n f)

  -- c 1 times v 1 and so on to c n times v n, summed: the combination of v 1 to v n with the coefficients c
  abbrev pub dot : ℕ → (ℕ → K) → (ℕ → K) → K
  dot n c v = total R n (λ j. c (suc j) ⊗ v (suc j))

  -- one more row
  pub dot_more : (n : ℕ) (c v : ℕ → K) → dot (suc n) c v ≡ dot n c v ⊕ c (suc n) ⊗ v (suc n)
  dot_more n c v = total_last R n (λ j. c (suc j) ⊗ v (suc j))

  -- a combination depends on no more than its coefficients
  pub dot_same : (n : ℕ) (c b v : ℕ → K) → ((j : ℕ) → 1 ≤ j → j ≤ n → c j ≡ b j) → dot n c v ≡ dot n b v
  dot_same n c b v e = total_same n _ _ (λ j h. ap (λ (x : K). x ⊗ v (suc j)) (e (suc j) (omega arith) (omega arith)))

  -- a sum of multiples of coefficients is the sum of the multiples of the combinations
  pub dot_linear : (n : ℕ) (a b : K) (c e v : ℕ → K) → dot n (λ j. a ⊗ c j ⊕ b ⊗ e j) v ≡ a ⊗ dot n c v ⊕ b ⊗ dot n e v
  dot_linear zero a b c e v =
      total_zero R _ ∙ ring R (a ∷ b ∷ []) :0 (A :* :0 :+ B :* :0) refl
      ∙ sym (ap₂ (λ (x y : K). a ⊗ x ⊕ b ⊗ y) (total_zero R _) (total_zero R _))
  dot_linear (suc n) a b c e v =
      dot_more n (λ j. a ⊗ c j ⊕ b ⊗ e j) v
      ∙ ap (λ (x : K). x ⊕ (a ⊗ c (suc n) ⊕ b ⊗ e (suc n)) ⊗ v (suc n)) (dot_linear n a b c e v)
      ∙ ring R (a ∷ b ∷ dot n c v ∷ dot n e v ∷ c (suc n) ∷ e (suc n) ∷ v (suc n) ∷ [])
      ((A :* C :+ B :* D) :+ (A :* E :+ B :* F) :* var 6) (A :* (C :+ E :* var 6) :+ B :* (D :+ F :* var 6)) refl
      ∙ sym (ap₂ (λ (x y : K). a ⊗ x ⊕ b ⊗ y) (dot_more n c v) (dot_more n e v))

  -- with a multiple of other coefficients taken away
  pub dot_less : (n : ℕ) (t : K) (c e v : ℕ → K) → dot n (λ j. c j ⊕ neg (t ⊗ e j)) v ≡ dot n c v ⊕ neg (t ⊗ dot n e v)
  dot_less n t c e v =
      dot_same n _ _ v (λ j h k. ring R (t ∷ c j ∷ e j ∷ []) (B :+ :neg (A :* C)) (:1 :* B :+ :neg A :* C) refl)
      ∙ dot_linear n 𝟙 (neg t) c e v
      ∙ ring R (t ∷ dot n c v ∷ dot n e v ∷ []) (:1 :* B :+ :neg A :* C) (B :+ :neg (A :* C)) refl

  -- with coefficients that are multiplied by u
  pub dot_scale : (n : ℕ) (u : K) (c v : ℕ → K) → dot n (λ j. u ⊗ c j) v ≡ u ⊗ dot n c v
  dot_scale n u c v =
      dot_same n _ _ v (λ j h k. ring R (u ∷ c j ∷ []) (A :* B) (A :* B :+ :0 :* B) refl)
      ∙ dot_linear n u 𝟘 c c v
      ∙ ring R (u ∷ dot n c v ∷ []) (A :* B :+ :0 :* B) (A :* B) refl

  -- with coefficients that are zero but for a one at e
  pub dot_unit : (n e : ℕ) (c v : ℕ → K) → 1 ≤ e → e ≤ n → c e ≡ 𝟙 → ((j : ℕ) → 1 ≤ j → j ≤ n → (j ≡ e → ⊥) → c j ≡ 𝟘) → dot n c v ≡ v e
  dot_unit zero e c v h k one none = absurd (omega arith)
  dot_unit (suc n) e c v h k one none =
      dot_more n c v
      ∙ ⊎_elim
      (λ (q : e ≡ suc n).
      ap₂ ◌⊕◌ (total_none n _ (λ j l. ap (λ (x : K). x ⊗ v (suc j)) (none (suc j) (omega arith) (omega arith) (λ w. omega arith)) ∙ zero_⊗ R (v (suc j))))
      (ap (λ (x : ℕ). c x ⊗ v x) (sym q) ∙ ap (λ (x : K). x ⊗ v e) one ∙ one_⊗ R (v e))
      ∙ zero_⊕ R (v e))
      (λ (q : e ≡ suc n → ⊥).
      ap₂ ◌⊕◌ (dot_unit n e c v h (omega arith) one (λ j l m. none j l (omega arith)))
      (ap (λ (x : K). x ⊗ v (suc n)) (none (suc n) (omega arith) (omega arith) (λ w. q (sym w))) ∙ zero_⊗ R (v (suc n)))
      ∙ ⊕_zero (v e))
      (cases_eq e (suc n))

  -- The columns p 1 to p n see every combination of rows 1 to n: one that is zero at these columns is trivial.
  abbrev pub Sees : ℕ → (ℕ → ℕ → K) → (ℕ → ℕ) → Type 0
  Sees n row p =
      (c : ℕ → K) → ((r : ℕ) → 1 ≤ r → r ≤ n → dot n c (λ j. row j (p r)) ≡ 𝟘) → (j : ℕ) → 1 ≤ j → j ≤ n → c j ≡ 𝟘

  pub sees_none : (row : ℕ → ℕ → K) (p : ℕ → ℕ) → Sees 0 row p
  sees_none row p c z j h k = absurd (omega arith)

  -- One row and one column more, if some combination of the rows is zero at the columns so far and one at the new one.
  module _ (n : ℕ) (row : ℕ → ℕ → K) (p : ℕ → ℕ) (sees : Sees n row p) (b : ℕ → K)
      (clear : (r : ℕ) → 1 ≤ r → r ≤ n → dot (suc n) b (λ j. row j (p r)) ≡ 𝟘)
      (unit : dot (suc n) b (λ j. row j (p (suc n))) ≡ 𝟙)
      (c : ℕ → K) (zeros : (r : ℕ) → 1 ≤ r → r ≤ suc n → dot (suc n) c (λ j. row j (p r)) ≡ 𝟘) where
    -- the combination in which the last row cancels
    abbrev rest : ℕ → K
    rest j = b (suc n) ⊗ c j ⊕ neg (c (suc n)) ⊗ b j

    rest_is : (v : ℕ → K) → dot n rest v ≡ b (suc n) ⊗ dot (suc n) c v ⊕ neg (c (suc n)) ⊗ dot (suc n) b v
    rest_is v =
        sym (dot_more n rest v ∙ ring R (dot n rest v ∷ b (suc n) ∷ c (suc n) ∷ v (suc n) ∷ []) (A :+ (B :* C :+ :neg C :* B) :* D) A refl)
        ∙ dot_linear (suc n) (b (suc n)) (neg (c (suc n))) c b v

    rest_zero : (j : ℕ) → 1 ≤ j → j ≤ n → rest j ≡ 𝟘
    rest_zero = sees rest (λ r h k.
        rest_is (λ j. row j (p r))
        ∙ ap₂ (λ (x y : K). b (suc n) ⊗ x ⊕ neg (c (suc n)) ⊗ y) (zeros r h (omega arith)) (clear r h k)
        ∙ ring R (b (suc n) ∷ c (suc n) ∷ []) (A :* :0 :+ :neg B :* :0) :0 refl)

    last_zero : c (suc n) ≡ 𝟘
    last_zero =
        let v : ℕ → K = λ j. row j (p (suc n)) in
        let e : 𝟘 ≡ neg (c (suc n)) =
        sym (total_none n (λ j. rest (suc j) ⊗ v (suc j)) (λ j h. ap (λ (x : K). x ⊗ v (suc j)) (rest_zero (suc j) (omega arith) (omega arith)) ∙ zero_⊗ R (v (suc j))))
        ∙ rest_is v
        ∙ ap₂ (λ (x y : K). b (suc n) ⊗ x ⊕ neg (c (suc n)) ⊗ y) (zeros (suc n) (omega arith) (omega arith)) unit
        ∙ ring R (b (suc n) ∷ c (suc n) ∷ []) (A :* :0 :+ :neg B :* :1) (:neg B) refl in
        sym (neg_neg R (c (suc n))) ∙ ap neg (sym e) ∙ neg_zero R

    before_zero : (j : ℕ) → 1 ≤ j → j ≤ n → c j ≡ 𝟘
    before_zero = sees c (λ r h k.
        let v : ℕ → K = λ j. row j (p r) in
        sym (ap (λ (x : K). dot n c v ⊕ x ⊗ v (suc n)) last_zero ∙ ring R (dot n c v ∷ v (suc n) ∷ []) (A :+ :0 :* B) A refl)
        ∙ sym (dot_more n c v) ∙ zeros r h (omega arith))

    pub sees_more : (j : ℕ) → 1 ≤ j → j ≤ suc n → c j ≡ 𝟘
    sees_more j h k = ⊎_elim (λ (q : j ≡ suc n). ap c q ∙ last_zero) (λ (q : j ≡ suc n → ⊥). before_zero j h (omega arith)) (cases_eq j (suc n))
