-- Polynomials: sequences of scalars with their exact length. They are scalars again: a ring with a decided equality.
-- Main statements: Poly, size, poly_path, poly_dec, Polys, PolyScalars, size_le, size_ge, top, size_zero.
use Rattle.std.proofs.Common.{◌≡◌, ℕ, zero, suc, ◌+◌, ◌<◌, ◌≤◌, max, sym, refl, ap, ◌∙◌, subst, inl, inr, zero-le, le_refl, not-suc-le-zero, eq-or-lt_of_le, arith}
use mathlib.Core.Path.{fun_ext}
use mathlib.Core.HLevel.{→_set, Π_prop, ×_prop, ¬_prop, Unit-prop, Σ_prop_path, Σ_set, prop→set, is_prop→PathP}
use native.Mathlib.Nat.{suc_inj}
use native.Mathlib.Decide.{dec_le, dec_lt}
use Rattle.algebra.specs.Ring.{Ring, Scalars}
use Rattle.algebra.proofs.Laws.{add_assoc, add_comm, mul_assoc, mul_comm, mul_add, add_zero, add_neg, mul_one}
use Rattle.algebra.proofs.Seq.{Seqs, zero_at, one_at_zero, one_at_suc, sum_at, neg_at}
use Rattle.algebra.proofs.Bounds.{Below, below_sum, below_neg, below_mul}

module _ {K : Type 0} (R : Ring K) where
  -- a sequence of length n has something there: the coefficient before n is not zero
  abbrev pub Sharp : ℕ → (ℕ → K) → Type 0
  Sharp zero f = Unit {0}
  Sharp (suc n) f = f n ≡ R.𝟘 → ⊥

  -- the exact length of a sequence: from it on all is zero, and the one before is not
  abbrev pub Len : (ℕ → K) → Type 0
  Len f = (n : ℕ) × (Below R n f × Sharp n f)

  sharp_prop : (n : ℕ) (f : ℕ → K) → IsProp (Sharp n f)
  sharp_prop zero f = Unit-prop
  sharp_prop (suc n) f = ¬_prop

  pub below_prop : (n : ℕ) (f : ℕ → K) → IsProp (Below R n f)
  below_prop n f = Π_prop (λ i. Π_prop (λ h. R.is_set (f i) R.𝟘))

  -- the exact length is at most any bound
  pub not_longer : (f : ℕ → K) (m n : ℕ) → Below R m f → Sharp n f → n ≤ m
  not_longer f m zero b s = zero-le
  not_longer f m (suc n) b s = go (dec_le m n)
    where
      go : Dec (m ≤ n) → suc n ≤ m
      go (yes h) = absurd (s (b n h))
      go (no h) = omega arith

  -- a sequence has at most one exact length
  pub len_prop : (f : ℕ → K) → IsProp (Len f)
  len_prop f x y = Σ_prop_path (λ n. ×_prop (below_prop n f) (sharp_prop n f)) e
    where
      a : x.0 ≤ y.0
      a = not_longer f y.0 x.0 y.1.0 x.1.1

      b : y.0 ≤ x.0
      b = not_longer f x.0 y.0 x.1.0 y.1.1

      e : x.0 ≡ y.0
      e = omega (arith, a, b)

-- a polynomial: its coefficients and their exact length
pub record Poly {K : Type 0} (S : Scalars K) : Type 0 where
  pub coef : ℕ → K
  pub len : Len S.ring coef

module _ {K : Type 0} {S : Scalars K} where
  -- the degree and one, and 0 for the zero polynomial
  abbrev pub size : Poly S → ℕ
  size f = f.len.0

  -- from the size on all coefficients are zero
  pub low : (f : Poly S) → Below S.ring (size f) f.coef
  low f = f.len.1.0

  -- polynomials with the same coefficients are equal
  pub poly_path : (f g : Poly S) → ((i : ℕ) → f.coef i ≡ g.coef i) → f ≡ g
  poly_path f g e = λ i. record { coef = fun_ext e i; len = is_prop→PathP (λ j. Len S.ring (fun_ext e j)) (λ j. len_prop S.ring (fun_ext e j)) f.len g.len i }

module _ {K : Type 0} (S : Scalars K) where
  same_below : (n : ℕ) (f g : ℕ → K) → Dec ((i : ℕ) → i < n → f i ≡ g i)
  same_below zero f g = yes (λ i h. absurd (not-suc-le-zero h))
  same_below (suc n) f g = go (same_below n f g) (S.dec (f n) (g n))
    where
      go : Dec ((i : ℕ) → i < n → f i ≡ g i) → Dec (f n ≡ g n) → Dec ((i : ℕ) → i < suc n → f i ≡ g i)
      go (no h) d = no (λ k. h (λ i l. k i (omega arith)))
      go (yes h) (no d) = no (λ k. d (k n (le_refl (suc n))))
      go (yes h) (yes d) = yes (λ i l. elim (eq-or-lt_of_le l) [ inl e ↦ rw (suc_inj e) d | inr k ↦ h i (omega arith) ])

  pair_set : IsSet ((f : ℕ → K) × Len S.ring f)
  pair_set = Σ_set (→_set S.ring.is_set) (λ f. prop→set (len_prop S.ring f))

module _ {K : Type 0} {S : Scalars K} where
  -- equality of polynomials is decided
  pub poly_dec : (f g : Poly S) → Dec (f ≡ g)
  poly_dec f g = go (same_below S (max (size f) (size g)) f.coef g.coef)
    where
      go : Dec ((i : ℕ) → i < max (size f) (size g) → f.coef i ≡ g.coef i) → Dec (f ≡ g)
      go (no h) = no (λ p. h (λ i l. ap (λ (x : Poly S). x.coef i) p))
      go (yes h) = yes (poly_path f g (λ i. at i (dec_lt i (max (size f) (size g)))))
        where
          at : (i : ℕ) → Dec (i < max (size f) (size g)) → f.coef i ≡ g.coef i
          at i (yes l) = h i l
          at i (no l) = low f i (omega arith) ∙ sym (low g i (omega arith))

  pub poly_set : IsSet (Poly S)
  poly_set x y p q = λ j i. let t = pair_set S (x.coef, x.len) (y.coef, y.len) (λ k. ((p k).coef, (p k).len)) (λ k. ((q k).coef, (q k).len)) j i in record { coef = t.0; len = t.1 }

module _ {K : Type 0} (S : Scalars K) where
  trim : (n : ℕ) (f : ℕ → K) → Below S.ring n f → Len S.ring f
  trim zero f b = (zero, (b, tt))
  trim (suc n) f b = go (S.dec (f n) S.ring.𝟘) (trim n f)
    where
      go : Dec (f n ≡ S.ring.𝟘) → (Below S.ring n f → Len S.ring f) → Len S.ring f
      go (yes e) k = k (λ i h. elim (eq-or-lt_of_le h) [ inl p ↦ rw (← p) e | inr l ↦ b i l ])
      go (no h) k = (suc n, (b, h))

  -- the polynomial of a sequence that is zero from n on
  pub poly : (n : ℕ) (f : ℕ → K) → Below S.ring n f → Poly S
  poly n f b = record { coef = f; len = trim n f b }

  abbrev Q : Ring (ℕ → K)
  Q = Seqs S.ring

  at : {f g : ℕ → K} → f ≡ g → (i : ℕ) → f i ≡ g i
  at e i = ap (λ (x : ℕ → K). x i) e

  -- the ring of polynomials
  pub Polys : Ring (Poly S)
  unfolding poly
  Polys = record {
    𝟘 = poly 0 Q.𝟘 (λ i h. zero_at S.ring i);
    𝟙 = poly 1 Q.𝟙 one_low;
    ◌⊕◌ = λ f g. poly (max (size f) (size g)) (Q.◌⊕◌ f.coef g.coef)
        (below_sum S.ring _ f.coef g.coef (λ i h. low f i (omega arith)) (λ i h. low g i (omega arith)));
    ◌⊗◌ = λ f g. poly (size f + size g) (Q.◌⊗◌ f.coef g.coef)
        (λ i h. below_mul S.ring i f.coef g.coef (size f) (size g) (low f) (low g) (omega arith));
    neg = λ f. poly (size f) (Q.neg f.coef) (below_neg S.ring (size f) f.coef (low f));
    is_set = poly_set;
    ⊕_assoc = λ f g h. poly_path _ _ (at (add_assoc Q f.coef g.coef h.coef));
    ⊕_comm = λ f g. poly_path _ _ (at (add_comm Q f.coef g.coef));
    ⊕_zero = λ f. poly_path _ _ (at (add_zero Q f.coef));
    ⊕_neg = λ f. poly_path _ _ (at (add_neg Q f.coef));
    ⊗_assoc = λ f g h. poly_path _ _ (at (mul_assoc Q f.coef g.coef h.coef));
    ⊗_comm = λ f g. poly_path _ _ (at (mul_comm Q f.coef g.coef));
    ⊗_one = λ f. poly_path _ _ (at (mul_one Q f.coef));
    ⊗_dist = λ f g h. poly_path _ _ (at (mul_add Q f.coef g.coef h.coef));
  }
    where
      one_low : Below S.ring 1 Q.𝟙
      one_low zero h = absurd (not-suc-le-zero h)
      one_low (suc i) h = one_at_suc S.ring i

  -- polynomials can be coefficients in turn
  abbrev pub PolyScalars : Scalars (Poly S)
  PolyScalars = record { ring = Polys; dec = poly_dec }

  -- the coefficients of what is made from a sequence, one by one and as a whole
  pub poly_coef : (n : ℕ) (f : ℕ → K) (b : Below S.ring n f) (i : ℕ) → (poly n f b).coef i ≡ f i
  unfolding poly
  poly_coef n f b i = refl

  pub poly_seq : (n : ℕ) (f : ℕ → K) (b : Below S.ring n f) → (poly n f b).coef ≡ f
  unfolding poly
  poly_seq n f b = refl

  -- the coefficients of zero, one, sums and opposites
  pub zero_coef : (i : ℕ) → Polys.𝟘.coef i ≡ S.ring.𝟘
  unfolding Polys poly
  zero_coef i = zero_at S.ring i

  pub one_coef_zero : Polys.𝟙.coef 0 ≡ S.ring.𝟙
  unfolding Polys poly
  one_coef_zero = one_at_zero S.ring

  pub one_coef_suc : (i : ℕ) → Polys.𝟙.coef (suc i) ≡ S.ring.𝟘
  unfolding Polys poly
  one_coef_suc i = one_at_suc S.ring i

  pub sum_coef : (f g : Poly S) (i : ℕ) → (Polys.◌⊕◌ f g).coef i ≡ S.ring.◌⊕◌ (f.coef i) (g.coef i)
  unfolding Polys poly
  sum_coef f g i = sum_at S.ring f.coef g.coef i

  pub neg_coef : (f : Poly S) (i : ℕ) → (Polys.neg f).coef i ≡ S.ring.neg (f.coef i)
  unfolding Polys poly
  neg_coef f i = neg_at S.ring f.coef i

  -- the coefficients of a product, as a whole and one by one
  pub prod_seq : (f g : Poly S) → (Polys.◌⊗◌ f g).coef ≡ (Seqs S.ring).◌⊗◌ f.coef g.coef
  unfolding Polys poly
  prod_seq f g = refl

  pub prod_coef : (f g : Poly S) (i : ℕ) → (Polys.◌⊗◌ f g).coef i ≡ (Seqs S.ring).◌⊗◌ f.coef g.coef i
  unfolding Polys poly
  prod_coef f g i = refl

module _ {K : Type 0} {S : Scalars K} where
  -- a bound of the coefficients is a bound of the size
  pub size_le : (f : Poly S) (n : ℕ) → Below S.ring n f.coef → size f ≤ n
  size_le f n b = not_longer S.ring f.coef n (size f) b f.len.1.1

  -- a coefficient other than zero stands below the size
  pub size_ge : (f : Poly S) (n : ℕ) → (f.coef n ≡ S.ring.𝟘 → ⊥) → suc n ≤ size f
  size_ge f n h = go (dec_le (size f) n)
    where
      go : Dec (size f ≤ n) → suc n ≤ size f
      go (yes l) = absurd (h (low f n l))
      go (no l) = omega arith

  -- the highest coefficient is not zero
  pub top : (f : Poly S) (n : ℕ) → size f ≡ suc n → f.coef n ≡ S.ring.𝟘 → ⊥
  top f n e = subst (λ (k : ℕ). Sharp S.ring k f.coef) e f.len.1.1

  -- only zero has size 0
  pub size_zero : (f : Poly S) → size f ≡ 0 → f ≡ (Polys S).𝟘
  size_zero f e = poly_path f (Polys S).𝟘 (λ i. low f i (rw e zero-le) ∙ sym (zero_coef S i))

module _ {K : Type 0} (S : Scalars K) where
  pub zero_size : size (Polys S).𝟘 ≡ 0
  zero_size = omega (arith, size_le (Polys S).𝟘 0 (λ i h. zero_coef S i))

-- for simp: the coefficients of all operations
pub ruleset coefs = (zero_coef, one_coef_zero, one_coef_suc, sum_coef, neg_coef, prod_coef, poly_coef)
