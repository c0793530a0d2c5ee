-- Division of sequences with remainder, by one with an invertible highest coefficient.
-- Main statements: Division, divide, multiple_low.
use Rattle.std.proofs.Common.{◌≡◌, ℕ, zero, suc, ◌+◌, ◌<◌, [], ◌∷◌, sym, refl, ap, ◌∙◌, inl, inr, zero-le, not-suc-le-zero, eq-or-lt_of_le, arith}
use mathlib.Core.Path.{◌≡⟨◌⟩◌, ◌∎}
use Rattle.algebra.specs.Ring.{Ring}
use Rattle.algebra.proofs.Solver.{◌:+◌, ◌:-◌, ring, A, B, C}
use Rattle.algebra.proofs.Laws.{⊗_zero, mul_assoc, add_zero, add_neg, mul_one, neg_zero, ac, ring_simp}
use Rattle.algebra.proofs.Seq.{Seqs, tail, zero_at, sum_at, neg_at}
use Rattle.algebra.proofs.Bounds.{Below, cons, scale, below_nil, top_mul, cons_mul, cons_sum, cons_tail}

module _ {K : Type 0} (R : Ring K) where
  infixl 65 ◌⊕◌
  infixl 70 ◌⊗◌
  infixl 65 ◌+ₚ◌
  infixl 70 ◌*ₚ◌
  open R use {𝟘, 𝟙, ◌⊕◌, ◌⊗◌, neg}
  open Seqs R use {𝟘 as 0ₚ, ◌⊕◌ as ◌+ₚ◌, ◌⊗◌ as ◌*ₚ◌, neg as negₚ}

  -- f = q·g + r with r of lower degree than g, whose coefficient at d is invertible
  pub record Division (n d : ℕ) (f g : ℕ → K) : Type 0 where
    pub quotient : ℕ → K
    pub rest : ℕ → K
    pub adds_up : f ≡ quotient *ₚ g +ₚ rest
    pub low : Below R d rest
    pub short : Below R n quotient

  module _ (d : ℕ) (g : ℕ → K) (u : K) (g-low : Below R (suc d) g) (unit : u ⊗ g d ≡ 𝟙) where
    step_adds_up : (f q r : ℕ → K) (c : K) → tail f ≡ q *ₚ g +ₚ r → f ≡ cons R c q *ₚ g +ₚ (cons R (f 0) r +ₚ negₚ (scale R c g))
    step_adds_up f q r c e =
        f ≡⟨ sym (cons_tail R f) ∙ ap (cons R (f 0)) e ∙ sym (cons_sum R (f 0) (q *ₚ g) r) ⟩
        cons R 𝟘 (q *ₚ g) +ₚ cons R (f 0) r ≡⟨ ring (Seqs R) (cons R 𝟘 (q *ₚ g) ∷ cons R (f 0) r ∷ scale R c g ∷ []) (A :+ B) (C :+ A :+ (B :- C)) refl ⟩
        scale R c g +ₚ cons R 𝟘 (q *ₚ g) +ₚ (cons R (f 0) r +ₚ negₚ (scale R c g)) ≡⟨ (rw (cons_mul R c q g)) ⟩
        cons R c q *ₚ g +ₚ (cons R (f 0) r +ₚ negₚ (scale R c g)) ∎

    step_low : (s : ℕ → K) → Below R (suc d) s → Below R d (s +ₚ negₚ (scale R (s d ⊗ u) g))
    step_low s p i h = elim (eq-or-lt_of_le h) [ inl e ↦ rw (← e) (top) | inr l ↦ above l ]
      where
        top : (s +ₚ negₚ (scale R (s d ⊗ u) g)) d ≡ 𝟘
        top = simp (sum_at, neg_at, mul_assoc, unit, mul_one, add_neg)

        above : d < i → (s +ₚ negₚ (scale R (s d ⊗ u) g)) i ≡ 𝟘
        above l = simp (sum_at, neg_at, scale, p i l, g-low i l, ⊗_zero, neg_zero, add_zero)

    cons_low : (c : K) (f : ℕ → K) (n : ℕ) → Below R n f → Below R (suc n) (cons R c f)
    cons_low c f n p zero h = absurd (not-suc-le-zero h)
    cons_low c f n p (suc i) h = p i (omega arith)

    step : (n : ℕ) (f : ℕ → K) → Division n d (tail f) g → Division (suc n) d f g
    step n f v =
        let s : ℕ → K = cons R (f 0) v.rest in
        let c : K = s d ⊗ u in
        record {
          quotient = cons R c v.quotient;
          rest = s +ₚ negₚ (scale R c g);
          adds_up = step_adds_up f v.quotient v.rest c v.adds_up;
          low = step_low s (cons_low (f 0) v.rest d v.low);
          short = cons_low c v.quotient n v.short;
        }

    -- a sequence that is zero from n on can be divided by g
    pub divide : (n : ℕ) (f : ℕ → K) → Below R n f → Division n d f g
    divide zero f p = record { quotient = 0ₚ; rest = f; adds_up = simp ring_simp; low = λ i h. p i zero-le; short = λ i h. zero_at R i }
    divide (suc n) f p = step n f (divide n (tail f) (λ i h. p (suc i) (omega arith)))

    -- a bounded multiple of g that is below d is zero
    pub multiple_low : (n : ℕ) (h : ℕ → K) → Below R n h → Below R d (h *ₚ g) → h ≡ 0ₚ
    multiple_low zero h p q = below_nil R h p
    multiple_low (suc n) h p q = multiple_low n h (λ i l. elim (eq-or-lt_of_le l) [ inl e ↦ rw (← e) hn | inr k ↦ p i k ]) q
      where
        hn : h n ≡ 𝟘
        hn =
            h n ≡⟨ sym (mul_one R (h n)) ∙ ap (λ (x : K). h n ⊗ x) (sym unit) ⟩
            h n ⊗ (u ⊗ g d) ≡⟨ (simp ac) ⟩
            u ⊗ (h n ⊗ g d) ≡⟨ ap (λ (x : K). u ⊗ x) (sym (top_mul R n d h g p g-low) ∙ q (n + d) (omega arith)) ∙ ⊗_zero R u ⟩
            𝟘 ∎
