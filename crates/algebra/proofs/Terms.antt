-- Constants, the unknown X, and a polynomial taken apart into its constant and the rest.
-- Main statements: const, X, const_mul_coef, X_coef_suc, rest, take_apart, const_mul, const_nonzero, is_const, X_pow_above.
use Rattle.std.proofs.Common.{◌≡◌, ℕ, zero, suc, ◌+◌, ◌<◌, ◌≤◌, sym, ap, ◌∙◌, ap₂, not-suc-le-zero, suc-add, zero-add, arith}
use mathlib.Core.Path.{fun_ext}
use Rattle.algebra.specs.Ring.{Scalars}
use Rattle.algebra.proofs.Laws.{add_zero, zero_⊕, mul_assoc, one_⊗, zero_⊗, ⊗_zero, neg_zero}
use Rattle.algebra.proofs.Seq.{Seqs, tail, zero_at, one_at_suc, sum_at}
use Rattle.algebra.proofs.Bounds.{Below, cons, cons_mul}
use Rattle.algebra.proofs.Poly.{Poly, Polys, poly, poly_path, poly_coef, poly_seq, size, low, size_le, size_ge, zero_coef, one_coef_zero, one_coef_suc, sum_coef, neg_coef, prod_seq, prod_coef}
use Rattle.algebra.proofs.Powers.{pow, pow_zero, pow_suc}

module _ {K : Type 0} (S : Scalars K) where
  infixl 65 ◌⊕◌
  infixl 70 ◌⊗◌
  open Polys S use {𝟘, 𝟙, ◌⊕◌, ◌⊗◌, neg}

  cons_low : (c : K) (f : ℕ → K) (n : ℕ) → Below S.ring n f → Below S.ring (suc n) (cons S.ring c f)
  cons_low c f n p zero h = absurd (not-suc-le-zero h)
  cons_low c f n p (suc i) h = p i (omega arith)

  -- the constant polynomial
  pub const : K → Poly S
  const c = poly S 1 (cons S.ring c (Seqs S.ring).𝟘) (cons_low c (Seqs S.ring).𝟘 0 (λ i h. zero_at S.ring i))

  -- the unknown
  pub X : Poly S
  X = poly S 2 (cons S.ring S.ring.𝟘 (Seqs S.ring).𝟙) (cons_low S.ring.𝟘 (Seqs S.ring).𝟙 1 one_low)
    where
      one_low : Below S.ring 1 (Seqs S.ring).𝟙
      one_low zero h = absurd (not-suc-le-zero h)
      one_low (suc i) h = one_at_suc S.ring i

  pub const_coef_zero : (c : K) → (const c).coef 0 ≡ c
  unfolding const
  const_coef_zero c = poly_coef S _ _ _ 0

  pub const_coef_suc : (c : K) (i : ℕ) → (const c).coef (suc i) ≡ S.ring.𝟘
  unfolding const
  const_coef_suc c i = poly_coef S _ _ _ (suc i) ∙ zero_at S.ring i

  -- a constant has no coefficient after the first
  pub const_high : (c : K) (k : ℕ) → 1 ≤ k → (const c).coef k ≡ S.ring.𝟘
  const_high c zero l = absurd (omega arith)
  const_high c (suc k) l = const_coef_suc c k

  -- a constant times a polynomial, coefficient by coefficient
  pub const_mul_coef : (c : K) (f : Poly S) (i : ℕ) → (const c ⊗ f).coef i ≡ S.ring.◌⊗◌ c (f.coef i)
  unfolding const
  const_mul_coef c f i =
      prod_coef S (const c) f i ∙ rw (poly_seq S, cons_mul S.ring c (Seqs S.ring).𝟘 f.coef, zero_⊗ (Seqs S.ring) f.coef, sum_at S.ring) (go i)
    where
      go : (j : ℕ) → S.ring.◌⊕◌ (S.ring.◌⊗◌ c (f.coef j)) (cons S.ring S.ring.𝟘 (Seqs S.ring).𝟘 j) ≡ S.ring.◌⊗◌ c (f.coef j)
      go zero = add_zero S.ring _
      go (suc j) = rw zero_at (add_zero S.ring _)

  -- X times a polynomial: the coefficients move up by one
  X_seq : (f : Poly S) → (X ⊗ f).coef ≡ cons S.ring S.ring.𝟘 f.coef
  unfolding X
  X_seq f =
      prod_seq S X f ∙ ap (λ (x : ℕ → K). (Seqs S.ring).◌⊗◌ x f.coef) (poly_seq S _ _ _)
      ∙ cons_mul S.ring S.ring.𝟘 (Seqs S.ring).𝟙 f.coef
      ∙ fun_ext (λ i. sum_at S.ring _ _ i ∙ simp (zero_⊗, zero_⊕, one_⊗))

  pub X_coef_zero : (f : Poly S) → (X ⊗ f).coef 0 ≡ S.ring.𝟘
  X_coef_zero f = rw (X_seq f)

  pub X_coef_suc : (f : Poly S) (i : ℕ) → (X ⊗ f).coef (suc i) ≡ f.coef i
  X_coef_suc f i = rw (X_seq f)

  -- the polynomial without its constant, divided by X
  pub rest : Poly S → Poly S
  rest f = poly S (size f) (tail f.coef) (λ i h. low f (suc i) (omega arith))

  pub rest_coef : (f : Poly S) (i : ℕ) → (rest f).coef i ≡ f.coef (suc i)
  unfolding rest
  rest_coef f i = poly_coef S _ _ _ i

  pub rest_size : (f : Poly S) (n : ℕ) → size f ≤ suc n → size (rest f) ≤ n
  rest_size f n h = size_le (rest f) n (λ i l. rest_coef f i ∙ low f (suc i) (omega arith))

  -- a polynomial is its constant and X times the rest
  pub take_apart : (f : Poly S) → f ≡ const (f.coef 0) ⊕ X ⊗ rest f
  take_apart f = poly_path f _ go
    where
      go : (i : ℕ) → f.coef i ≡ (const (f.coef 0) ⊕ X ⊗ rest f).coef i
      go zero = sym (sum_coef S _ _ 0 ∙ ap₂ S.ring.◌⊕◌ (const_coef_zero _) (X_coef_zero _) ∙ add_zero S.ring _)
      go (suc i) = sym (sum_coef S _ _ (suc i) ∙ ap₂ S.ring.◌⊕◌ (const_coef_suc _ i) (X_coef_suc _ i ∙ rest_coef f i) ∙ zero_⊕ S.ring _)

  -- constants add and multiply as scalars do
  pub const_zero : const S.ring.𝟘 ≡ 𝟘
  const_zero = poly_path _ _ go
    where
      go : (i : ℕ) → (const S.ring.𝟘).coef i ≡ 𝟘.coef i
      go zero = const_coef_zero _ ∙ sym (zero_coef S 0)
      go (suc i) = const_coef_suc _ i ∙ sym (zero_coef S (suc i))

  pub const_one : const S.ring.𝟙 ≡ 𝟙
  const_one = poly_path _ _ go
    where
      go : (i : ℕ) → (const S.ring.𝟙).coef i ≡ 𝟙.coef i
      go zero = const_coef_zero _ ∙ sym (one_coef_zero S)
      go (suc i) = const_coef_suc _ i ∙ sym (one_coef_suc S i)

  pub const_sum : (a b : K) → const (S.ring.◌⊕◌ a b) ≡ const a ⊕ const b
  const_sum a b = poly_path _ _ go
    where
      go : (i : ℕ) → (const (S.ring.◌⊕◌ a b)).coef i ≡ (const a ⊕ const b).coef i
      go zero = simp (sum_coef, const_coef_zero)
      go (suc i) = simp (sum_coef, const_coef_suc, add_zero)

  pub const_neg : (a : K) → const (S.ring.neg a) ≡ neg (const a)
  const_neg a = poly_path _ _ go
    where
      go : (i : ℕ) → (const (S.ring.neg a)).coef i ≡ (neg (const a)).coef i
      go zero = simp (neg_coef, const_coef_zero)
      go (suc i) = simp (neg_coef, const_coef_suc, neg_zero)

  pub const_mul : (a b : K) → const (S.ring.◌⊗◌ a b) ≡ const a ⊗ const b
  const_mul a b = poly_path _ _ go
    where
      go : (i : ℕ) → (const (S.ring.◌⊗◌ a b)).coef i ≡ (const a ⊗ const b).coef i
      go zero = simp (const_mul_coef, const_coef_zero)
      go (suc i) = simp (const_mul_coef, const_coef_suc, ⊗_zero)

  pub const_pow : (a : K) (n : ℕ) → const (pow S.ring a n) ≡ pow (Polys S) (const a) n
  const_pow a zero = ap const (pow_zero S.ring a) ∙ const_one ∙ sym (pow_zero (Polys S) (const a))
  const_pow a (suc n) = ap const (pow_suc S.ring a n) ∙ const_mul a (pow S.ring a n) ∙ ap (λ (x : Poly S). const a ⊗ x) (const_pow a n) ∙ sym (pow_suc (Polys S) (const a) n)

  pub const_size : (c : K) → size (const c) ≤ 1
  const_size c = size_le (const c) 1 (const_high c)

  -- a constant other than zero has size 1
  pub const_nonzero : (c : K) → (c ≡ S.ring.𝟘 → ⊥) → size (const c) ≡ 1
  const_nonzero c n = omega (arith, const_size c, size_ge (const c) 0 (λ e. n (sym (const_coef_zero c) ∙ e)))

  -- a polynomial of size at most one is a constant
  pub is_const : (f : Poly S) → size f ≤ 1 → f ≡ const (f.coef 0)
  is_const f h = poly_path f _ go
    where
      go : (i : ℕ) → f.coef i ≡ (const (f.coef 0)).coef i
      go zero = sym (const_coef_zero _)
      go (suc i) = low f (suc i) (omega arith) ∙ sym (const_coef_suc _ i)

  -- a power of X times a polynomial: the coefficients move up
  pub X_pow_above : (n : ℕ) (f : Poly S) (i : ℕ) → (pow (Polys S) X n ⊗ f).coef (n + i) ≡ f.coef i
  X_pow_above zero f i = rw (pow_zero (Polys S) X, one_⊗ (Polys S) f, zero-add i)
  X_pow_above (suc n) f i = rw (pow_suc (Polys S) X n, mul_assoc (Polys S) X (pow (Polys S) X n) f, suc-add n i, X_coef_suc (pow (Polys S) X n ⊗ f) (n + i)) (X_pow_above n f i)

  -- and zeros stand below
  pub X_pow_below : (n : ℕ) (f : Poly S) (i : ℕ) → i < n → (pow (Polys S) X n ⊗ f).coef i ≡ S.ring.𝟘
  X_pow_below zero f i h = absurd (not-suc-le-zero h)
  X_pow_below (suc n) f zero h = rw (pow_suc (Polys S) X n, mul_assoc (Polys S) X (pow (Polys S) X n) f) (X_coef_zero _)
  X_pow_below (suc n) f (suc i) h = rw (pow_suc (Polys S) X n, mul_assoc (Polys S) X (pow (Polys S) X n) f) (X_coef_suc _ i ∙ X_pow_below n f i (omega arith))
