-- A polynomial t with f dividing t(v) is zero at each w at which f and v - w have a common divisor of positive degree.
-- Main statements: at_shift, compose_combine, compose_variable, combine_modulo.
use Rattle.std.proofs.Common.{◌≡◌, ℕ, zero, suc, ◌<◌, ◌≤◌, [], ◌∷◌, sym, refl, ap, ◌∙◌, subst, ap₂, le_refl, arith}
use Rattle.algebra.specs.Ring.{Ring, Scalars, Field}
use Rattle.algebra.proofs.Laws.{add_neg, zero_⊗}
use Rattle.algebra.proofs.Solver.{◌:+◌, ◌:*◌, ◌:-◌, ring, A, B, C, D, E}
use Rattle.algebra.proofs.Divides.{Divides as DividesPoly, dvd_trans, dvd_mul, dvd_sum}
use Rattle.algebra.proofs.Poly.{Poly, Polys, size}
use Rattle.algebra.proofs.Size.{dvd_size}
use Rattle.algebra.proofs.Terms.{const, X, const_nonzero}
use Rattle.algebra.proofs.Value.{value_sum, value_mul, value_const, value_neg, value_X, value_pow}
use Rattle.algebra.proofs.Powers.{pow}
use Rattle.algebra.proofs.Combination.{total_zero, total_last, combine, LinearMap, linear_combine, monomials}
use Rattle.algebra.proofs.Echelon.{total_same}
use Rattle.algebra.proofs.Linear.{minus, same, constants, at_point, compose, compose_minus, zero_factor_theorem}

module _ {K : Type 0} {S : Scalars K} (G : Field S) (f v h t : Poly S) (w : K) where
  abbrev Ps : Ring (Poly S)
  Ps = Polys S

  -- t is a multiple of X - w, and its value there
  factor : DividesPoly Ps (minus S (X S) w) (minus S t (at_point S w t))
  unfolding same
  factor = zero_factor_theorem G (minus S t (at_point S w t)) w
      (value_sum S (same S) w t _ ∙ ap (S.ring.◌⊕◌ (at_point S w t)) (value_neg S (same S) w _ ∙ ap S.ring.neg (value_const S (same S) w _)) ∙ add_neg S.ring _)

  composed : Ps.◌⊕◌ (compose S v t) (Ps.neg (const S (at_point S w t))) ≡ Ps.◌⊗◌ (compose S v factor.0) (minus S v w)
  unfolding constants
  composed =
      sym (value_sum S (constants S) v t _ ∙ ap (Ps.◌⊕◌ (compose S v t)) (value_neg S (constants S) v _ ∙ ap Ps.neg (value_const S (constants S) v _)))
      ∙ ap (compose S v) factor.1 ∙ value_mul S (constants S) v _ _ ∙ ap (Ps.◌⊗◌ (compose S v factor.0)) (compose_minus S v w)

  -- h divides t(v) and t(v) - t(w), and so the constant t(w)
  pub at_shift : DividesPoly Ps h f → DividesPoly Ps h (minus S v w) → DividesPoly Ps f (compose S v t) → 2 ≤ size h → at_point S w t ≡ S.ring.𝟘
  at_shift hf hv ft long = go (S.dec (at_point S w t) S.ring.𝟘)
    where
      divides : DividesPoly Ps h (const S (at_point S w t))
      divides = subst (DividesPoly Ps h) (ring Ps (compose S v t ∷ const S (at_point S w t) ∷ []) (A :- (A :- B)) B refl)
          (dvd_difference (dvd_trans Ps h f _ hf ft) (subst (DividesPoly Ps h) (sym composed) (dvd_mul Ps h _ (compose S v factor.0) hv)))
        where
          dvd_difference : {a b : Poly S} → DividesPoly Ps h a → DividesPoly Ps h b → DividesPoly Ps h (Ps.◌⊕◌ a (Ps.neg b))
          dvd_difference {a} {b} p q = (Ps.◌⊕◌ p.0 (Ps.neg q.0), ap₂ (λ (x y : Poly S). Ps.◌⊕◌ x (Ps.neg y)) p.1 q.1 ∙ ring Ps (p.0 ∷ q.0 ∷ h ∷ []) (A :* C :- B :* C) ((A :- B) :* C) refl)

      go : Dec (at_point S w t ≡ S.ring.𝟘) → at_point S w t ≡ S.ring.𝟘
      go (yes e) = e
      go (no n) = absurd (omega (arith, long, const_nonzero S _ n, dvd_size G h _ (omega (arith, const_nonzero S _ n)) divides))

module _ {K : Type 0} {S : Scalars K} where
  abbrev R : Ring (Poly S)
  R = Polys S

  compose_linear : (v : Poly S) → LinearMap (compose S v)
  unfolding constants
  compose_linear v = record {
    sum = value_sum S (constants S) v;
    scale = λ c a. value_mul S (constants S) v (const S c) a ∙ ap (λ (x : Poly S). R.◌⊗◌ x (compose S v a)) (value_const S (constants S) v c);
  }

  -- t(v) is the combination of the powers of v by the coefficients of t
  pub compose_combine : (v t : Poly S) (n : ℕ) → size t ≤ n → compose S v t ≡ combine n t.coef (pow R v)
  unfolding constants
  compose_combine v t n h =
      ap (compose S v) (monomials n t h) ∙ linear_combine (compose S v) (compose_linear v) n t.coef (pow R (X S))
      ∙ total_same R n _ _ (λ j l. ap (R.◌⊗◌ (const S (t.coef j))) (value_pow S (constants S) v (X S) j ∙ ap (λ (x : Poly S). pow R x j) (value_X S (constants S) v)))

  pub compose_variable : (t : Poly S) → compose S (X S) t ≡ t
  compose_variable t = compose_combine (X S) t (size t) (le_refl (size t)) ∙ sym (monomials (size t) t (le_refl (size t)))

  -- combinations of polynomials that are equal modulo f
  pub combine_modulo : (f : Poly S) (n : ℕ) (c : ℕ → K) (u v : ℕ → Poly S) → ((j : ℕ) → j < n → DividesPoly R f (R.◌⊕◌ (u j) (R.neg (v j)))) → DividesPoly R f (R.◌⊕◌ (combine n c u) (R.neg (combine n c v)))
  combine_modulo f zero c u v h = (R.𝟘, ap₂ (λ (x y : Poly S). R.◌⊕◌ x (R.neg y)) (total_zero R _) (total_zero R _) ∙ add_neg R _ ∙ sym (zero_⊗ R f))
  combine_modulo f (suc n) c u v h = subst (DividesPoly R f)
      (ring R (combine n c u ∷ combine n c v ∷ const S (c n) ∷ u n ∷ v n ∷ []) ((A :- B) :+ C :* (D :- E)) ((A :+ C :* D) :- (B :+ C :* E)) refl
      ∙ sym (ap₂ (λ (x y : Poly S). R.◌⊕◌ x (R.neg y)) (total_last R n _) (total_last R n _)))
      (dvd_sum R f _ _ (combine_modulo f n c u v (λ j l. h j (omega arith))) (dvd_mul R f _ (const S (c n)) (h n (omega arith))))
