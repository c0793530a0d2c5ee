-- Linear independence of a sequence of polynomials, row after row, as elimination decides it.
-- Main statements: combine_last, combine_scale, Independent, Dependent, independent_next, independent_none.
use Rattle.std.proofs.Common.{◌≡◌, ℕ, zero, suc, ◌<◌, ◌≤◌, [], ◌∷◌, sym, refl, ap, ◌∙◌, ap₂, inl, inr, eq-or-lt_of_le, arith}
use native.Mathlib.Nat.{suc_inj}
use Rattle.algebra.specs.Ring.{Scalars, Field}
use Rattle.algebra.proofs.Laws.{zero_⊕, add_zero, zero_⊗, one_⊗}
use Rattle.algebra.proofs.Solver.{:0, ◌:+◌, ◌:*◌, :neg, ring, A, B, C, D}
use Rattle.algebra.proofs.Seq.{tail}
use Rattle.algebra.proofs.Poly.{Poly, Polys}
use Rattle.algebra.proofs.Terms.{const, const_zero, const_one, const_neg, const_mul}
use Rattle.algebra.proofs.Combination.{total_zero, total_suc, combine}

module _ {K : Type 0} {S : Scalars K} where
  infixl 65 ◌⊕◌
  infixl 70 ◌⊗◌
  open Polys S use {𝟘, 𝟙, ◌⊕◌, ◌⊗◌, neg}

  -- a combination with its last row split off
  pub combine_last : (n : ℕ) (c : ℕ → K) (u : ℕ → Poly S) → combine (suc n) c u ≡ combine n c u ⊕ const S (c n) ⊗ u n
  combine_last zero c u =
      total_suc (Polys S) 0 _ ∙ ap (λ (x : Poly S). const S (c 0) ⊗ u 0 ⊕ x) (total_zero (Polys S) _)
      ∙ add_zero (Polys S) _ ∙ sym (ap (λ (x : Poly S). x ⊕ const S (c 0) ⊗ u 0) (total_zero (Polys S) _) ∙ zero_⊕ (Polys S) _)
  combine_last (suc n) c u =
      total_suc (Polys S) (suc n) _ ∙ ap (λ (x : Poly S). const S (c 0) ⊗ u 0 ⊕ x) (combine_last n (tail c) (tail u))
      ∙ ring (Polys S) (const S (c 0) ⊗ u 0 ∷ combine n (tail c) (tail u) ∷ const S (c (suc n)) ⊗ u (suc n) ∷ []) (A :+ (B :+ C)) ((A :+ B) :+ C) refl
      ∙ ap (λ (x : Poly S). x ⊕ const S (c (suc n)) ⊗ u (suc n)) (sym (total_suc (Polys S) n _))

  -- the coefficients of a combination can be scaled together
  pub combine_scale : (n : ℕ) (a : K) (c : ℕ → K) (u : ℕ → Poly S) → combine n (λ i. S.ring.◌⊗◌ a (c i)) u ≡ const S a ⊗ combine n c u
  combine_scale zero a c u = total_zero (Polys S) _ ∙ sym (ap (λ (x : Poly S). const S a ⊗ x) (total_zero (Polys S) _) ∙ ring (Polys S) (const S a ∷ []) (A :* :0) :0 refl)
  combine_scale (suc n) a c u =
      total_suc (Polys S) n _ ∙ ap₂ ◌⊕◌ (ap (λ (x : Poly S). x ⊗ u 0) (const_mul S a (c 0))) (combine_scale n a (tail c) (tail u))
      ∙ ring (Polys S) (const S a ∷ const S (c 0) ∷ u 0 ∷ combine n (tail c) (tail u) ∷ []) (A :* B :* C :+ A :* D) (A :* (B :* C :+ D)) refl
      ∙ ap (λ (x : Poly S). const S a ⊗ x) (sym (total_suc (Polys S) n _))

  -- where the rows below n combine to zero, the coefficients from m on are zero
  abbrev pub Independent : ℕ → ℕ → (ℕ → Poly S) → Type 0
  Independent m n u = (c : ℕ → K) → combine n c u ≡ 𝟘 → (i : ℕ) → m ≤ i → i < n → c i ≡ S.ring.𝟘

  -- the n-th row is a combination of those before
  abbrev pub Dependent : ℕ → (ℕ → Poly S) → Type 0
  Dependent n u = (c : ℕ → K) × (u n ≡ combine n c u)

module _ {K : Type 0} {S : Scalars K} (F : Field S) where
  infixl 65 ◌⊕◌
  infixl 70 ◌⊗◌
  open Polys S use {𝟘, 𝟙, ◌⊕◌, ◌⊗◌, neg}

  -- a row that is no combination of those before keeps them independent
  pub independent_next : (m n : ℕ) (u : ℕ → Poly S) → Independent m n u → (Dependent n u → ⊥) → Independent m (suc n) u
  independent_next m n u ind no_way c e = go (S.dec (c n) S.ring.𝟘)
    where
      split : combine n c u ⊕ const S (c n) ⊗ u n ≡ 𝟘
      split = sym (combine_last n c u) ∙ e

      go : Dec (c n ≡ S.ring.𝟘) → (i : ℕ) → m ≤ i → i < suc n → c i ≡ S.ring.𝟘
      go (no k) i l h = absurd (no_way (λ j. S.ring.◌⊗◌ (S.ring.neg (F.inv (c n))) (c j), row))
        where
          v : Poly S
          v = const S (F.inv (c n))

          unit : v ⊗ const S (c n) ≡ 𝟙
          unit = sym (const_mul S (F.inv (c n)) (c n)) ∙ ap (const S) (F.inverse (c n) k) ∙ const_one S

          row : u n ≡ combine n (λ j. S.ring.◌⊗◌ (S.ring.neg (F.inv (c n))) (c j)) u
          row =
              sym (one_⊗ (Polys S) (u n)) ∙ ap (λ (x : Poly S). x ⊗ u n) (sym unit)
              ∙ ring (Polys S) (v ∷ const S (c n) ∷ u n ∷ combine n c u ∷ []) (A :* B :* C) (A :* (D :+ B :* C) :+ :neg A :* D) refl
              ∙ ap (λ (x : Poly S). v ⊗ x ⊕ neg v ⊗ combine n c u) split
              ∙ ring (Polys S) (v ∷ combine n c u ∷ []) (A :* :0 :+ :neg A :* B) (:neg A :* B) refl
              ∙ ap (λ (x : Poly S). x ⊗ combine n c u) (sym (const_neg S (F.inv (c n)))) ∙ sym (combine_scale n (S.ring.neg (F.inv (c n))) c u)
      go (yes z) i l h = elim (eq-or-lt_of_le h) [ inl e₁ ↦ ap c (suc_inj e₁) ∙ z | inr k ↦ ind c below i l (omega arith) ]
        where
          below : combine n c u ≡ 𝟘
          below = sym (add_zero (Polys S) _) ∙ ap (λ (x : Poly S). combine n c u ⊕ x) (sym (ap (λ (x : Poly S). x ⊗ u n) (ap (const S) z ∙ const_zero S) ∙ zero_⊗ (Polys S) (u n))) ∙ split

  -- the rows before the first are independent, as none is asked for
  pub independent_none : (m : ℕ) (u : ℕ → Poly S) → Independent m m u
  independent_none m u c e i l h = absurd (omega arith)
