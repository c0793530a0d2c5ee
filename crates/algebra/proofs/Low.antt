-- Polynomials of bounded size: over q scalars there are q^n of size at most n.
-- Main statements: Low, low_path, low_dec, low_set, listing_low.
use Rattle.std.proofs.Common.{◌≡◌, ℕ, zero, suc, ◌*◌, ◌^◌, ◌≤◌, [], ◌∷◌, sym, ap, ◌∙◌, subst, ap₂, inl, arith}
use mathlib.Core.HLevel.{Σ_prop_path, Σ_prop_discrete, Σ_set, prop→set}
use native.Mathlib.Nat.{pow-zero, pow-succ'}
use native.Mathlib.Bridge.{le_prop}
use Rattle.algebra.specs.Ring.{Scalars}
use Rattle.algebra.specs.Lists.{Listing}
use Rattle.algebra.proofs.Laws.{add_zero, zero_⊕}
use Rattle.algebra.proofs.Lists.{listing_pair, listing_map}
use Rattle.algebra.proofs.Poly.{Poly, Polys, poly_path, poly_dec, poly_set, size, size_le, size_zero, low, zero_size, sum_coef}
use Rattle.algebra.proofs.Terms.{const, X, rest, rest_size, take_apart, const_coef_zero, const_coef_suc, X_coef_zero, X_coef_suc}

module _ {K : Type 0} (S : Scalars K) where
  infixl 65 ◌⊕◌
  infixl 70 ◌⊗◌
  open Polys S use {𝟘, 𝟙, ◌⊕◌, ◌⊗◌, neg}

  -- the polynomials of size at most n
  abbrev pub Low : ℕ → Type 0
  Low n = (r : Poly S) × (size r ≤ n)

  -- two are equal if they are equal as polynomials
  pub low_path : (n : ℕ) {a b : Low n} → a.0 ≡ b.0 → a ≡ b
  low_path n e = Σ_prop_path (λ r. le_prop) e

  pub low_dec : (n : ℕ) (a b : Low n) → Dec (a ≡ b)
  low_dec n = Σ_prop_discrete (λ r. le_prop) poly_dec

  pub low_set : (n : ℕ) → IsSet (Low n)
  low_set n = Σ_set poly_set (λ r. prop→set le_prop)

  -- the coefficients of a constant and X times a polynomial
  pub onto_coef_zero : (c : K) (h : Poly S) → (const S c ⊕ X S ⊗ h).coef 0 ≡ c
  onto_coef_zero c h = sum_coef S _ _ 0 ∙ ap₂ S.ring.◌⊕◌ (const_coef_zero S c) (X_coef_zero S h) ∙ add_zero S.ring c

  pub onto_coef_suc : (c : K) (h : Poly S) (i : ℕ) → (const S c ⊕ X S ⊗ h).coef (suc i) ≡ h.coef i
  onto_coef_suc c h i = sum_coef S _ _ (suc i) ∙ ap₂ S.ring.◌⊕◌ (const_coef_suc S c i) (X_coef_suc S h i) ∙ zero_⊕ S.ring _

  -- a constant and a polynomial moved up
  onto : (n : ℕ) → K × Low n → Low (suc n)
  onto n z = (const S z.0 ⊕ X S ⊗ z.1.0, size_le (const S z.0 ⊕ X S ⊗ z.1.0) (suc n) above)
    where
      above : (i : ℕ) → suc n ≤ i → (const S z.0 ⊕ X S ⊗ z.1.0).coef i ≡ S.ring.𝟘
      above zero h = absurd (omega arith)
      above (suc i) h = onto_coef_suc z.0 z.1.0 i ∙ low z.1.0 i (omega (arith, z.1.1))

  onto_injective : (n : ℕ) (y z : K × Low n) → onto n y ≡ onto n z → y ≡ z
  unfolding onto
  onto_injective n y z e = λ i. (first i, second i)
    where
      at : (k : ℕ) → (const S y.0 ⊕ X S ⊗ y.1.0).coef k ≡ (const S z.0 ⊕ X S ⊗ z.1.0).coef k
      at k = ap (λ (x : Low (suc n)). x.0.coef k) e

      first : y.0 ≡ z.0
      first = sym (onto_coef_zero y.0 y.1.0) ∙ at 0 ∙ onto_coef_zero z.0 z.1.0

      second : y.1 ≡ z.1
      second = low_path n (poly_path y.1.0 z.1.0 (λ k. sym (onto_coef_suc y.0 y.1.0 k) ∙ at (suc k) ∙ onto_coef_suc z.0 z.1.0 k))

  onto_all : (n : ℕ) (r : Low (suc n)) → (z : K × Low n) × (onto n z ≡ r)
  unfolding onto
  onto_all n r = ((r.0.coef 0, (rest S r.0, rest_size S r.0 n r.1)), low_path (suc n) (sym (take_apart S r.0)))

  -- all polynomials of size at most n, each once
  pub listing_low : (q : ℕ) → Listing K q → (n : ℕ) → Listing (Low n) (q ^ n)
  listing_low q L zero = record {
    elements = (𝟘, omega (arith, zero_size S)) ∷ [];
    distinct = (λ i. i, tt);
    all = λ r. inl (low_path 0 (size_zero r.0 (omega (arith, r.1))));
    count = sym (pow-zero q);
  }
  listing_low q L (suc n) = subst (λ (m : ℕ). Listing (Low (suc n)) m) (sym (pow-succ' q n)) (listing_map (q * q ^ n) (listing_pair q (q ^ n) L (listing_low q L n)) (onto n) (onto_injective n) (onto_all n))
