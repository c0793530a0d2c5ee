-- Linear combinations of polynomials with scalars, and linear maps between polynomials.
-- Main statements: total, total_last, combine, combine_coef, LinearMap, linear_combine, monomials.
use Rattle.std.proofs.Common.{◌≡◌, ℕ, zero, suc, ◌≤◌, sym, refl, ap, ◌∙◌, ap₂, arith}
use mathlib.Core.Path.{fun_ext}
use Rattle.algebra.specs.Ring.{Ring, Scalars}
use Rattle.algebra.proofs.Laws.{add_comm, add_assoc, mul_one, zero_⊗, ⊗_left_comm, mul_add}
use Rattle.algebra.proofs.Seq.{tail}
use Rattle.algebra.proofs.Poly.{Poly, Polys, size, size_zero, zero_coef, sum_coef}
use Rattle.algebra.proofs.Powers.{pow, pow_zero, pow_suc}
use Rattle.algebra.proofs.Terms.{const, X, const_zero, const_mul_coef, take_apart, rest, rest_coef, rest_size}

-- the sum of the first n
unfoldable pub total : {K : Type 0} → Ring K → ℕ → (ℕ → K) → K
total R zero g = R.𝟘
total R (suc n) g = R.◌⊕◌ (g 0) (total R n (tail g))

pub total_zero : {K : Type 0} (R : Ring K) (g : ℕ → K) → total R 0 g ≡ R.𝟘
unfolding total
total_zero R g = refl

pub total_suc : {K : Type 0} (R : Ring K) (n : ℕ) (g : ℕ → K) → total R (suc n) g ≡ R.◌⊕◌ (g 0) (total R n (tail g))
unfolding total
total_suc R n g = refl

-- taken apart at its last term
pub total_last : {K : Type 0} (R : Ring K) (n : ℕ) (g : ℕ → K) → total R (suc n) g ≡ R.◌⊕◌ (total R n g) (g n)
total_last {K} R zero g = total_suc R 0 g ∙ ap (R.◌⊕◌ (g 0)) (total_zero R (tail g)) ∙ add_comm R (g 0) R.𝟘 ∙ ap (λ (x : K). R.◌⊕◌ x (g 0)) (sym (total_zero R g))
total_last {K} R (suc n) g = total_suc R (suc n) g ∙ ap (R.◌⊕◌ (g 0)) (total_last R n (tail g)) ∙ sym (add_assoc R (g 0) _ _) ∙ ap (λ (x : K). R.◌⊕◌ x (g (suc n))) (sym (total_suc R n g))

module _ {K : Type 0} {S : Scalars K} where
  infixl 65 ◌⊕◌
  infixl 70 ◌⊗◌
  open Polys S use {𝟘, 𝟙, ◌⊕◌, ◌⊗◌, neg}

  -- the sum of c i times u i, over i below n
  abbrev pub combine : ℕ → (ℕ → K) → (ℕ → Poly S) → Poly S
  combine n c u = total (Polys S) n (λ i. const S (c i) ⊗ u i)

  -- its coefficients are the sums down the columns
  pub combine_coef : (n : ℕ) (c : ℕ → K) (u : ℕ → Poly S) (k : ℕ) → (combine n c u).coef k ≡ total S.ring n (λ i. S.ring.◌⊗◌ (c i) ((u i).coef k))
  combine_coef zero c u k = ap (λ (x : Poly S). x.coef k) (total_zero (Polys S) _) ∙ zero_coef S k ∙ sym (total_zero S.ring _)
  combine_coef (suc n) c u k =
      ap (λ (x : Poly S). x.coef k) (total_suc (Polys S) n _) ∙ sum_coef S _ _ k
      ∙ ap₂ S.ring.◌⊕◌ (const_mul_coef S (c 0) (u 0) k) (combine_coef n (tail c) (tail u) k) ∙ sym (total_suc S.ring n _)

  -- φ respects sums and products with scalars
  pub record LinearMap (φ : Poly S → Poly S) : Type 0 where
    pub sum : (a b : Poly S) → φ (a ⊕ b) ≡ φ a ⊕ φ b
    pub scale : (c : K) (a : Poly S) → φ (const S c ⊗ a) ≡ const S c ⊗ φ a

  pub linear_zero : (φ : Poly S → Poly S) → LinearMap φ → φ 𝟘 ≡ 𝟘
  linear_zero φ l =
      ap φ (sym (zero_⊗ (Polys S) 𝟘) ∙ ap (λ (x : Poly S). x ⊗ 𝟘) (sym (const_zero S))) ∙ l.scale S.ring.𝟘 𝟘
      ∙ ap (λ (x : Poly S). x ⊗ φ 𝟘) (const_zero S) ∙ zero_⊗ (Polys S) (φ 𝟘)

  -- a linear map of a combination is the combination of the images
  pub linear_combine : (φ : Poly S → Poly S) → LinearMap φ → (n : ℕ) (c : ℕ → K) (u : ℕ → Poly S) → φ (combine n c u) ≡ combine n c (λ i. φ (u i))
  linear_combine φ l zero c u = ap φ (total_zero (Polys S) _) ∙ linear_zero φ l ∙ sym (total_zero (Polys S) _)
  linear_combine φ l (suc n) c u =
      ap φ (total_suc (Polys S) n _) ∙ l.sum _ _ ∙ ap₂ ◌⊕◌ (l.scale (c 0) (u 0)) (linear_combine φ l n (tail c) (tail u)) ∙ sym (total_suc (Polys S) n _)

  -- multiplying by g is linear
  pub times_linear : (g : Poly S) → LinearMap (λ v. g ⊗ v)
  times_linear g = record { sum = mul_add (Polys S) g; scale = λ c a. ⊗_left_comm (Polys S) g (const S c) a }

  -- a polynomial is the combination of the powers of X by its coefficients
  pub monomials : (n : ℕ) (v : Poly S) → size v ≤ n → v ≡ combine n v.coef (pow (Polys S) (X S))
  monomials zero v h = size_zero v (omega arith) ∙ sym (total_zero (Polys S) _)
  monomials (suc n) v h =
      take_apart S v
      ∙ ap₂ ◌⊕◌ (sym (ap (λ (x : Poly S). const S (v.coef 0) ⊗ x) (pow_zero (Polys S) (X S)) ∙ mul_one (Polys S) _))
      (ap (λ (x : Poly S). X S ⊗ x) (monomials n (rest S v) (rest_size S v n h)) ∙ linear_combine (λ v. X S ⊗ v) (times_linear (X S)) n (rest S v).coef (pow (Polys S) (X S))
      ∙ ap₂ (combine n) (fun_ext (rest_coef S v)) (fun_ext (λ i. sym (pow_suc (Polys S) (X S) i))))
      ∙ sym (total_suc (Polys S) n _)
