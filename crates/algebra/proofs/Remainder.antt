-- Remainders modulo a polynomial whose highest coefficient is invertible, over any ring.
-- Main statements: Leading, monic_leading, field_leading, quo, rem, rem_adds, rem_size, rem_unique, rem_zero, rem_mul.
use Rattle.std.proofs.Common.{◌≡◌, ℕ, zero, suc, ◌≤◌, ◌↔◌, [], ◌∷◌, sym, refl, ap, ◌∙◌, subst, arith}
use Rattle.algebra.specs.Ring.{Scalars, Field}
use Rattle.algebra.proofs.Laws.{add_zero, one_⊗, zero_⊗, ⊗_zero, add_neg, eq_of_diff}
use Rattle.algebra.proofs.Solver.{:0, ◌:+◌, ◌:*◌, :neg, ◌:-◌, ring, A, B, C, D}
use Rattle.algebra.proofs.Seq.{sum_at, zero_at}
use Rattle.algebra.proofs.Bounds.{Below}
use Rattle.algebra.proofs.Division.{Division, divide, multiple_low}
use Rattle.algebra.proofs.Poly.{Poly, Polys, poly, poly_path, poly_coef, poly_seq, size, low, top, size_le, size_ge, zero_coef, sum_coef, prod_coef, zero_size}
use Rattle.algebra.proofs.Divides.{Divides, dvd_sum, dvd_neg, dvd_mul}
use Rattle.algebra.proofs.Monic.{Monic}
use Rattle.algebra.proofs.Size.{size_sum, size_neg}
use Rattle.algebra.proofs.Terms.{const, const_mul_coef}

module _ {K : Type 0} {S : Scalars K} where
  -- the coefficient at deg is invertible, and none stands above
  pub record Leading (f : Poly S) : Type 0 where
    pub deg : ℕ
    pub bound : size f ≤ suc deg
    pub inv : K
    pub unit : S.ring.◌⊗◌ inv (f.coef deg) ≡ S.ring.𝟙

  pub monic_leading : (f : Poly S) → Monic f → Leading f
  monic_leading f m = record { deg = m.deg; bound = omega (arith, m.sized); inv = S.ring.𝟙; unit = one_⊗ S.ring _ ∙ m.leads }

  -- the degree is what it says, unless zero is one
  pub leading_size : (f : Poly S) → (S.ring.𝟙 ≡ S.ring.𝟘 → ⊥) → (l : Leading f) → size f ≡ suc l.deg
  leading_size f n l = omega (arith, l.bound, size_ge f l.deg (λ e. n (sym l.unit ∙ ap (λ (x : K). S.ring.◌⊗◌ l.inv x) e ∙ ⊗_zero S.ring _)))

  -- a scalar factor keeps a bound of the size
  pub scale_size : (c : K) (f : Poly S) (n : ℕ) → size f ≤ n → size ((Polys S).◌⊗◌ (const S c) f) ≤ n
  scale_size c f n h = size_le ((Polys S).◌⊗◌ (const S c) f) n (λ i k. const_mul_coef S c f i ∙ ap (λ (x : K). S.ring.◌⊗◌ c x) (low f i (omega arith)) ∙ ⊗_zero S.ring c)

module _ {K : Type 0} {S : Scalars K} (F : Field S) where
  -- over a field, any polynomial but zero has an invertible highest coefficient
  pub field_leading : (f : Poly S) → 1 ≤ size f → Leading f
  field_leading f h = go (size f) refl
    where
      go : (n : ℕ) → size f ≡ n → Leading f
      go zero e = absurd (omega arith)
      go (suc n) e = record { deg = n; bound = omega arith; inv = F.inv (f.coef n); unit = F.inverse (f.coef n) (top f n e) }

module _ {K : Type 0} {S : Scalars K} {f : Poly S} (l : Leading f) where
  infixl 65 ◌⊕◌
  infixl 70 ◌⊗◌
  infix 40 ◌∣◌
  open Polys S use {𝟘, 𝟙, ◌⊕◌, ◌⊗◌, neg}

  abbrev ◌∣◌ : Poly S → Poly S → Type 0
  ◌∣◌ = Divides (Polys S)

  f_low : Below S.ring (suc l.deg) f.coef
  f_low i h = low f i (omega (arith, l.bound))

  division : (v : Poly S) → Division S.ring (size v) l.deg v.coef f.coef
  division v = divide S.ring l.deg f.coef l.inv f_low l.unit (size v) v.coef (low v)

  -- the quotient and the remainder of a division by f
  pub quo : Poly S → Poly S
  quo v = poly S (size v) (division v).quotient (division v).short

  pub rem : Poly S → Poly S
  rem v = poly S l.deg (division v).rest (division v).low

  pub rem_adds : (v : Poly S) → v ≡ quo v ⊗ f ⊕ rem v
  unfolding quo rem
  rem_adds v = poly_path v _ (λ i. ap (λ (x : ℕ → K). x i) (division v).adds_up ∙ simp (sum_coef, prod_coef, poly_seq, poly_coef, sum_at))

  pub rem_size : (v : Poly S) → size (rem v) ≤ l.deg
  unfolding rem
  rem_size v = size_le (rem v) l.deg (rw poly_seq (division v).low)

  -- v and its remainder are equal modulo f
  pub rem_same : (v : Poly S) → f ∣ v ⊕ neg (rem v)
  rem_same v = (quo v, ap (λ (x : Poly S). x ⊕ neg (rem v)) (rem_adds v) ∙ ring (Polys S) (quo v ⊗ f ∷ rem v ∷ []) (A :+ B :- B) A refl)

  -- a multiple of lower degree is zero
  pub small_multiple : (g : Poly S) → f ∣ g → size g ≤ l.deg → g ≡ 𝟘
  small_multiple g d h = d.1 ∙ ap (λ (x : Poly S). x ⊗ f) none ∙ zero_⊗ (Polys S) f
    where
      none : d.0 ≡ 𝟘
      none = poly_path d.0 𝟘 (λ i. ap (λ (x : ℕ → K). x i)
          (multiple_low S.ring l.deg f.coef l.inv f_low l.unit (size d.0) d.0.coef (low d.0)
          (λ k m. sym (prod_coef S d.0 f k) ∙ ap (λ (x : Poly S). x.coef k) (sym d.1) ∙ low g k (omega arith)))
          ∙ zero_at S.ring i ∙ sym (zero_coef S i))

  -- two of lower degree that are equal modulo f are equal
  pub small_equal : (a b : Poly S) → size a ≤ l.deg → size b ≤ l.deg → f ∣ a ⊕ neg b → a ≡ b
  small_equal a b p q d = eq_of_diff (Polys S) a b (small_multiple (a ⊕ neg b) d (size_sum a (neg b) l.deg p (size_neg b l.deg q)))

  -- what is of lower degree and equal to v modulo f is its remainder
  pub rem_unique : (v r : Poly S) → size r ≤ l.deg → f ∣ v ⊕ neg r → rem v ≡ r
  rem_unique v r h d = small_equal (rem v) r (rem_size v) h (subst (λ (x : Poly S). f ∣ x) (ring (Polys S) (v ∷ r ∷ rem v ∷ []) ((A :- B) :+ :neg (A :- C)) (C :- B) refl)
      (dvd_sum (Polys S) f _ _ d (dvd_neg (Polys S) f _ (rem_same v))))

  pub rem_small : (v : Poly S) → size v ≤ l.deg → rem v ≡ v
  rem_small v h = rem_unique v v h (𝟘, add_neg (Polys S) v ∙ sym (zero_⊗ (Polys S) f))

  -- what is equal modulo f has the same remainder
  pub rem_cong : (v w : Poly S) → f ∣ v ⊕ neg w → rem v ≡ rem w
  rem_cong v w d = rem_unique v (rem w) (rem_size w) (subst (λ (x : Poly S). f ∣ x) (ring (Polys S) (v ∷ w ∷ rem w ∷ []) ((A :- B) :+ (B :- C)) (A :- C) refl) (dvd_sum (Polys S) f _ _ d (rem_same w)))

  -- f divides just what has remainder zero
  pub rem_zero : (v : Poly S) → (f ∣ v) ↔ (rem v ≡ 𝟘)
  rem_zero v = (
    λ d. rem_unique v 𝟘 (omega (arith, zero_size S)) (subst (λ (x : Poly S). f ∣ x) (ring (Polys S) (v ∷ []) A (A :- :0) refl) d),
    λ e. (quo v, rem_adds v ∙ ap (λ (x : Poly S). quo v ⊗ f ⊕ x) e ∙ add_zero (Polys S) _),
  )

  pub rem_sum : (a b : Poly S) → rem (a ⊕ b) ≡ rem a ⊕ rem b
  rem_sum a b = rem_unique (a ⊕ b) (rem a ⊕ rem b) (size_sum _ _ _ (rem_size a) (rem_size b))
      (subst (λ (x : Poly S). f ∣ x) (ring (Polys S) (a ∷ rem a ∷ b ∷ rem b ∷ []) ((A :- B) :+ (C :- D)) (A :+ C :- (B :+ D)) refl) (dvd_sum (Polys S) f _ _ (rem_same a) (rem_same b)))

  pub rem_scale : (c : K) (a : Poly S) → rem (const S c ⊗ a) ≡ const S c ⊗ rem a
  rem_scale c a = rem_unique (const S c ⊗ a) (const S c ⊗ rem a) (scale_size c (rem a) _ (rem_size a))
      (subst (λ (x : Poly S). f ∣ x) (ring (Polys S) (const S c ∷ a ∷ rem a ∷ []) (A :* (B :- C)) (A :* B :- A :* C) refl) (dvd_mul (Polys S) f _ (const S c) (rem_same a)))

  -- factors may be reduced first
  pub rem_mul : (a b : Poly S) → rem (a ⊗ rem b) ≡ rem (a ⊗ b)
  rem_mul a b = sym (rem_cong (a ⊗ b) (a ⊗ rem b) (subst (λ (x : Poly S). f ∣ x) (ring (Polys S) (a ∷ b ∷ rem b ∷ []) (A :* (B :- C)) (A :* B :- A :* C) refl) (dvd_mul (Polys S) f _ a (rem_same b))))
