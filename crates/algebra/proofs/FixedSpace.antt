-- The polynomials v with f dividing v^q - v are the solutions of a linear system, and the least monic one is unique.
-- Main statements: gap_linear, row, fixed_rows, fixed_columns, Least, least_unique, least_exists, splitter_or_none, least_by_rows,
--   none_by_rows.
use Rattle.std.proofs.Common.{◌≡◌, ℕ, zero, suc, ◌*◌, ◌<◌, ◌≤◌, ◌⊎◌, ◌↔◌, [], ◌∷◌, sym, refl, ap, ◌∙◌, subst, ap₂, inl, inr, le_refl, eq-or-lt_of_le, arith}
use mathlib.Core.Path.{fun_ext}
use native.Mathlib.Decide.{dec_le}
use Rattle.algebra.specs.Ring.{Scalars}
use Rattle.algebra.specs.Finite.{FiniteField}
use Rattle.algebra.proofs.Laws.{add_zero, add_neg, neg_zero, eq_of_diff}
use Rattle.algebra.proofs.Solver.{:1, ◌:+◌, ◌:*◌, :neg, ◌:-◌, ring, A, B, C, D}
use Rattle.algebra.proofs.Poly.{Poly, Polys, poly_path, poly_dec, size, size_le, low, top, sum_coef, neg_coef, zero_coef}
use Rattle.algebra.proofs.Divides.{Divides, dvd_sum, dvd_mul, dvd_zero}
use Rattle.algebra.proofs.Powers.{pow, mul_pow, pow_mul}
use Rattle.algebra.proofs.Monic.{Monic, Scaled, scaled, monic_minus}
use Rattle.algebra.proofs.Size.{factors}
use Rattle.algebra.proofs.Terms.{const, X, const_pow, const_neg, const_zero, const_one, const_coef_zero, const_size, const_nonzero, is_const}
use Rattle.algebra.proofs.Characteristic.{prime_characteristic, poly_vanishes}
use Rattle.algebra.proofs.Frobenius.{power_sum}
use Rattle.algebra.proofs.Finite.{own_power}
use Rattle.algebra.proofs.Remainder.{Leading, rem, rem_zero, rem_sum, rem_scale}
use Rattle.algebra.proofs.Independence.{Independent}
use Rattle.algebra.proofs.Combination.{total, combine, combine_coef, LinearMap, linear_combine, monomials}
use Rattle.algebra.proofs.Berlekamp.{gap, Fixed, Splitter}
use Rattle.algebra.proofs.Linear.{minus, minus_size}
use Rattle.algebra.proofs.Lists.{search_listing}
use Rattle.algebra.proofs.Low.{Low, listing_low}

module _ {K : Type 0} {S : Scalars K} (E : FiniteField S) where
  infixl 65 ◌⊕◌
  infixl 70 ◌⊗◌
  infix 40 ◌∣◌
  open Polys S use {𝟘, 𝟙, ◌⊕◌, ◌⊗◌, neg}

  abbrev ◌∣◌ : Poly S → Poly S → Type 0
  ◌∣◌ = Divides (Polys S)

  -- q-th powers of polynomials respect sums
  pub q_power_sum : (v w : Poly S) → pow (Polys S) (v ⊕ w) E.q ≡ pow (Polys S) v E.q ⊕ pow (Polys S) w E.q
  q_power_sum v w =
      subst (λ (n : ℕ). pow (Polys S) (v ⊕ w) n ≡ pow (Polys S) v n ⊕ pow (Polys S) w n) (sym E.order)
      (power_sum (Polys S) E.p (prime_characteristic E.field E.p E.characteristic) (poly_vanishes S E.p E.characteristic.vanishes) E.j v w)

  q_power_const : (c : K) → pow (Polys S) (const S c) E.q ≡ const S c
  q_power_const c = sym (const_pow S c E.q) ∙ ap (const S) (own_power E.field E.q E.listing c)

  -- v ↦ v^q - v is linear, and constants go to zero
  pub gap_linear : LinearMap {S = S} (gap E.q)
  gap_linear = record {
    sum = λ v w. ap (λ (x : Poly S). x ⊕ neg (v ⊕ w)) (q_power_sum v w) ∙ ring (Polys S) (pow (Polys S) v E.q ∷ pow (Polys S) w E.q ∷ v ∷ w ∷ []) (A :+ B :- (C :+ D)) ((A :- C) :+ (B :- D)) refl;
    scale = λ c v.
        ap (λ (x : Poly S). x ⊕ neg (const S c ⊗ v)) (mul_pow (Polys S) (const S c) v E.q ∙ ap (λ (x : Poly S). x ⊗ pow (Polys S) v E.q) (q_power_const c))
        ∙ ring (Polys S) (const S c ∷ pow (Polys S) v E.q ∷ v ∷ []) (A :* B :- A :* C) (A :* (B :- C)) refl;
  }

  pub gap_const : (c : K) → gap E.q (const S c) ≡ 𝟘
  gap_const c = ap (λ (x : Poly S). x ⊕ neg (const S c)) (q_power_const c) ∙ add_neg (Polys S) (const S c)

  module _ (f : Poly S) where
    -- sums, multiples by scalars and opposites of fixed polynomials are fixed, and so are constants
    pub fixed_sum : (v w : Poly S) → Fixed E.q f v → Fixed E.q f w → Fixed E.q f (v ⊕ w)
    fixed_sum v w p r = subst (λ (x : Poly S). f ∣ x) (sym (gap_linear.sum v w)) (dvd_sum (Polys S) f _ _ p r)

    pub fixed_scale : (c : K) (v : Poly S) → Fixed E.q f v → Fixed E.q f (const S c ⊗ v)
    fixed_scale c v p = subst (λ (x : Poly S). f ∣ x) (sym (gap_linear.scale c v)) (dvd_mul (Polys S) f _ (const S c) p)

    pub fixed_const : (c : K) → Fixed E.q f (const S c)
    fixed_const c = subst (λ (x : Poly S). f ∣ x) (sym (gap_const c)) (dvd_zero (Polys S) f)

    pub fixed_neg : (v : Poly S) → Fixed E.q f v → Fixed E.q f (neg v)
    fixed_neg v p = subst (λ (x : Poly S). Fixed E.q f x)
        (ap (λ (x : Poly S). x ⊗ v) (const_neg S S.ring.𝟙 ∙ ap neg (const_one S)) ∙ ring (Polys S) (v ∷ []) (:neg :1 :* A) (:neg A) refl) (fixed_scale (S.ring.neg S.ring.𝟙) v p)

    pub fixed_minus : (v : Poly S) (c : K) → Fixed E.q f v → Fixed E.q f (minus S v c)
    fixed_minus v c p = fixed_sum v (neg (const S c)) p (fixed_neg (const S c) (fixed_const c))

    -- the rows of the system: X^(i q) - X^i modulo f
    module _ (l : Leading f) where
      abbrev pub row : ℕ → Poly S
      row i = rem l (pow (Polys S) (X S) (i * E.q) ⊕ neg (pow (Polys S) (X S) i))

      pub rem_linear : LinearMap (rem l)
      rem_linear = record { sum = rem_sum l; scale = rem_scale l }

      -- v^q - v modulo f is the combination of the rows by the coefficients of v
      pub gap_rows : (n : ℕ) (v : Poly S) → size v ≤ n → rem l (gap E.q v) ≡ combine n v.coef row
      gap_rows n v h =
          ap (λ (x : Poly S). rem l (gap E.q x)) (monomials n v h)
          ∙ ap (rem l) (linear_combine (gap E.q) gap_linear n v.coef (pow (Polys S) (X S))) ∙ linear_combine (rem l) rem_linear n v.coef _
          ∙ ap (combine n v.coef) (fun_ext (λ i. ap (λ (x : Poly S). rem l (x ⊕ neg (pow (Polys S) (X S) i))) (sym (pow_mul (Polys S) (X S) i E.q))))

      -- v is fixed just if the rows by its coefficients sum to zero
      pub fixed_rows : (n : ℕ) (v : Poly S) → size v ≤ n → Fixed E.q f v ↔ (combine n v.coef row ≡ 𝟘)
      fixed_rows n v h = (λ d. sym (gap_rows n v h) ∙ (rem_zero l _).0 d, λ e. (rem_zero l _).1 (gap_rows n v h ∙ e))

      -- the same, coefficient by coefficient
      pub fixed_columns : (n : ℕ) (v : Poly S) → size v ≤ n → Fixed E.q f v ↔ ((k : ℕ) → total S.ring n (λ i. S.ring.◌⊗◌ (v.coef i) ((row i).coef k)) ≡ S.ring.𝟘)
      fixed_columns n v h = (
        λ d k. sym (combine_coef n v.coef row k) ∙ ap (λ (x : Poly S). x.coef k) ((fixed_rows n v h).0 d) ∙ zero_coef S k,
        λ e. (fixed_rows n v h).1 (poly_path _ _ (λ k. combine_coef n v.coef row k ∙ e k ∙ sym (zero_coef S k))),
      )

    -- monic, of positive degree below that of f, with constant zero, fixed, and of least degree among the fixed of such degrees
    pub record Least (v : Poly S) : Type 0 where
      pub fixed : Fixed E.q f v
      pub monic : Monic v
      pub positive : 2 ≤ size v
      pub below : size v < size f
      pub no_constant : v.coef 0 ≡ S.ring.𝟘
      pub least : (w : Poly S) → Fixed E.q f w → 2 ≤ size w → size w < size f → size v ≤ size w

    -- there is at most one
    pub least_unique : (v w : Poly S) → Least v → Least w → v ≡ w
    least_unique v w a b = eq_of_diff (Polys S) v w (is_const S (v ⊕ neg w) (small (dec_le 2 (size (v ⊕ neg w)))) ∙ ap (const S) none ∙ const_zero S)
      where
        same : size v ≡ size w
        same = omega (arith, a.least w b.fixed b.positive b.below, b.least v a.fixed a.positive a.below)

        degrees : a.monic.deg ≡ b.monic.deg
        degrees = omega (arith, same, a.monic.sized, b.monic.sized)

        none : (v ⊕ neg w).coef 0 ≡ S.ring.𝟘
        none = sum_coef S v (neg w) 0 ∙ ap₂ S.ring.◌⊕◌ a.no_constant (neg_coef S w 0 ∙ ap S.ring.neg b.no_constant ∙ neg_zero S.ring) ∙ add_zero S.ring _

        below : size (v ⊕ neg w) ≤ a.monic.deg
        below = size_le (v ⊕ neg w) a.monic.deg (λ i h. sum_coef S v (neg w) i ∙ ap (λ (x : K). S.ring.◌⊕◌ (v.coef i) x) (neg_coef S w i) ∙ at i h)
          where
            at : (i : ℕ) → a.monic.deg ≤ i → S.ring.◌⊕◌ (v.coef i) (S.ring.neg (w.coef i)) ≡ S.ring.𝟘
            at i h = elim (eq-or-lt_of_le h) [
              | inl e ↦ ap₂ (λ (x y : K). S.ring.◌⊕◌ x (S.ring.neg y)) (ap v.coef (sym e) ∙ a.monic.leads) (ap w.coef (sym e ∙ degrees) ∙ b.monic.leads) ∙ add_neg S.ring _
              | inr m ↦ ap₂ (λ (x y : K). S.ring.◌⊕◌ x (S.ring.neg y)) (low v i (omega (arith, a.monic.sized))) (low w i (omega (arith, a.monic.sized, same))) ∙ add_neg S.ring _
            ]

        small : Dec (2 ≤ size (v ⊕ neg w)) → size (v ⊕ neg w) ≤ 1
        small (no h) = omega arith
        small (yes h) = absurd (omega (
          arith,
          below,
          a.monic.sized,
          a.least (v ⊕ neg w) (fixed_sum v (neg w) a.fixed (fixed_neg w b.fixed)) h (omega (arith, below, a.monic.sized, a.below)),
        ))

    -- any fixed polynomial of positive degree gives a monic one with constant zero and the same degree
    pub record Normal (n : ℕ) : Type 0 where
      pub v : Poly S
      pub fixed : Fixed E.q f v
      pub monic : Monic v
      pub sized : size v ≡ n
      pub no_constant : v.coef 0 ≡ S.ring.𝟘

    pub normal : (v : Poly S) → Fixed E.q f v → 2 ≤ size v → Normal (size v)
    normal v d h = go (scaled E.field v (omega arith))
      where
        go : Scaled v → Normal (size v)
        go s = record {
          v = minus S u (u.coef 0);
          fixed = fixed_minus u (u.coef 0) (fixed_scale s.unit v d);
          monic = monic_minus u (const S (u.coef 0)) s.monic (omega (arith, const_size S (u.coef 0), long));
          sized = minus_size S u (u.coef 0) (omega (arith, long)) ∙ long;
          no_constant = sum_coef S u _ 0 ∙ ap (λ (x : K). S.ring.◌⊕◌ (u.coef 0) x) (neg_coef S _ 0 ∙ ap S.ring.neg (const_coef_zero S _)) ∙ add_neg S.ring _;
        }
          where
            u : Poly S
            u = const S s.unit ⊗ v

            long : size u ≡ size v
            long = let w = factors E.field u (const S s.unit) v (omega (arith, s.monic.sized)) refl in omega (arith, w.sizes, const_nonzero S s.unit s.nonzero)

    module _ (l : Leading f) where
      pub fixed_dec : (v : Poly S) → Dec (Fixed E.q f v)
      fixed_dec v = elim (poly_dec (rem l (gap E.q v)) 𝟘) [ yes e ↦ yes ((rem_zero l _).1 e) | no n ↦ no (λ d. n ((rem_zero l _).0 d)) ]

      positive_dec : (v : Poly S) → Dec (Fixed E.q f v × (2 ≤ size v))
      positive_dec v = go (fixed_dec v) (dec_le 2 (size v))
        where
          go : Dec (Fixed E.q f v) → Dec (2 ≤ size v) → Dec (Fixed E.q f v × (2 ≤ size v))
          go (yes d) (yes h) = yes (d, h)
          go (yes d) (no h) = no (λ w. h w.1)
          go (no d) h = no (λ w. d w.0)

      -- whether a fixed polynomial of positive degree and of size at most n is there
      pub some_fixed : (n : ℕ) → ((v : Low S n) × (Fixed E.q f v.0 × (2 ≤ size v.0))) ⊎ ((v : Low S n) → Fixed E.q f v.0 × (2 ≤ size v.0) → ⊥)
      some_fixed n = search_listing (listing_low S E.q E.listing n) (λ v. Fixed E.q f v.0 × (2 ≤ size v.0)) (λ v. positive_dec v.0)

      -- one of least degree among those of positive degree is there if any is
      record Smallest : Type 0 where
        v : Poly S
        fixed : Fixed E.q f v
        positive : 2 ≤ size v
        least : (u : Poly S) → Fixed E.q f u → 2 ≤ size u → size v ≤ size u

      smallest : (n : ℕ) (v : Poly S) → size v ≤ n → Fixed E.q f v → 2 ≤ size v → Smallest
      smallest zero v h d k = absurd (omega arith)
      smallest (suc n) v h d k = go (some_fixed n) (smallest n)
        where
          go : ((w : Low S n) × (Fixed E.q f w.0 × (2 ≤ size w.0))) ⊎ ((w : Low S n) → Fixed E.q f w.0 × (2 ≤ size w.0) → ⊥)
              → ((w : Poly S) → size w ≤ n → Fixed E.q f w → 2 ≤ size w → Smallest) → Smallest
          go (inl r) rec = rec r.0.0 r.0.1 r.1.0 r.1.1
          go (inr m) rec = record { v = v; fixed = d; positive = k; least = λ u e j. by u e j (dec_le (size u) n) }
            where
              by : (u : Poly S) → Fixed E.q f u → 2 ≤ size u → Dec (size u ≤ n) → size v ≤ size u
              by u e j (yes t) = absurd (m (u, t) (e, j))
              by u e j (no t) = omega arith

      -- if there is a splitter there is a least one
      pub least_exists : Splitter E.q f → (w : Poly S) × Least w
      least_exists s = go (smallest (size s.v) s.v (le_refl _) s.fixed s.positive)
        where
          go : Smallest → (w : Poly S) × Least w
          go r = let t : Normal (size r.v) = normal r.v r.fixed r.positive in (
            t.v,
            record {
              fixed = t.fixed;
              monic = t.monic;
              positive = omega (arith, t.sized, r.positive);
              below = omega (arith, t.sized, r.least s.v s.fixed s.positive, s.below);
              no_constant = t.no_constant;
              least = λ u e j k. omega (arith, t.sized, r.least u e j);
            },
          )

      -- whether there is a splitter is decided
      pub splitter_or_none : Splitter E.q f ⊎ (Splitter E.q f → ⊥)
      splitter_or_none = go (size f) refl
        where
          go : (n : ℕ) → size f ≡ n → Splitter E.q f ⊎ (Splitter E.q f → ⊥)
          go zero e = inr (λ s. absurd (omega (arith, s.below)))
          go (suc n) e = elim (some_fixed n) [
            | inl r ↦ inl (record { v = r.0.0; positive = r.1.1; below = omega (arith, r.0.1); fixed = r.1.0 })
            | inr m ↦ inr (λ s. m (s.v, omega (arith, s.below)) (s.fixed, s.positive))
          ]

      -- elimination finds the least one: rows 1 to n - 1 are independent, and v combines the rows up to n to zero
      pub least_by_rows : (n : ℕ) (v : Poly S) → 1 ≤ n → suc n < size f → size v ≡ suc n → v.coef n ≡ S.ring.𝟙 → v.coef 0 ≡ S.ring.𝟘
          → Independent 1 n (row l) → combine (suc n) v.coef (row l) ≡ 𝟘 → Least v
      least_by_rows n v h b s t z ind e = record {
        fixed = (fixed_rows l (suc n) v (omega arith)).1 e;
        monic = record { deg = n; sized = s; leads = t };
        positive = omega arith;
        below = omega arith;
        no_constant = z;
        least = λ w d k m. by w d k (dec_le (size w) n);
      }
        where
          by : (w : Poly S) → Fixed E.q f w → 2 ≤ size w → Dec (size w ≤ n) → size v ≤ size w
          by w d k (no m) = omega arith
          by w d k (yes m) = absurd (zeros (size w) refl)
            where
              zeros : (j : ℕ) → size w ≡ j → ⊥
              zeros zero p = absurd (omega arith)
              zeros (suc j) p = top w j p (ind w.coef ((fixed_rows l n w m).0 d) j (omega arith) (omega arith))

      -- or finds that there is no splitter: the rows from 1 up are independent
      pub none_by_rows : (n : ℕ) → size f ≡ suc n → Independent 1 n (row l) → Splitter E.q f → ⊥
      none_by_rows n e ind s = go (size s.v) refl
        where
          go : (j : ℕ) → size s.v ≡ j → ⊥
          go zero p = absurd (omega (arith, s.positive))
          go (suc j) p = top s.v j p (ind s.v.coef ((fixed_rows l n s.v (omega (arith, s.below))).0 s.fixed) j (omega (arith, s.positive)) (omega (arith, s.below)))
