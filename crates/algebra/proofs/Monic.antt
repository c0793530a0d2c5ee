-- Monic polynomials: products, scaling to one, and the monic common divisor.
-- Main statements: Monic, Scaled, MonicGcd, monic_mul, monic_prod, monic_divides, monic_both, scaled, monic_gcd, monic_gcd_unique.
use Rattle.std.proofs.Common.{◌≡◌, ℕ, zero, suc, ◌+◌, ◌<◌, ◌≤◌, ◌⊎◌, List, [], ◌∷◌, sym, refl, ap, ◌∙◌, subst, ap₂, inl, inr, le_refl, zero-add, arith}
use native.Mathlib.Nat.{suc_inj}
use Rattle.algebra.specs.Ring.{Scalars, Field}
use Rattle.algebra.specs.Lists.{Each}
use Rattle.algebra.proofs.Laws.{add_zero, mul_one, one_⊗, zero_⊗, neg_zero}
use Rattle.algebra.proofs.Poly.{Poly, Polys, size, low, top, sum_coef, neg_coef, one_coef_zero}
use Rattle.algebra.proofs.Divides.{Divides, dvd_trans, dvd_mul}
use Rattle.algebra.proofs.Powers.{pow, pow_zero, pow_suc, prod, prod_nil, prod_cons}
use Rattle.algebra.proofs.Size.{Factors, factors, size_mul, top_product, one_size, dvd_size, dvd_back, size_sum_left, size_neg}
use Rattle.algebra.proofs.Terms.{const, const_one, const_nonzero, const_mul_coef, is_const}
use Rattle.algebra.proofs.Gcd.{Gcd, gcd_of, greatest}

module _ {K : Type 0} {S : Scalars K} where
  infixl 65 ◌⊕◌
  infixl 70 ◌⊗◌
  open Polys S use {𝟘, 𝟙, ◌⊕◌, ◌⊗◌, neg}

  -- the highest coefficient is one
  pub record Monic (f : Poly S) : Type 0 where
    pub deg : ℕ
    pub sized : size f ≡ suc deg
    pub leads : f.coef deg ≡ S.ring.𝟙

  -- subtracting what is smaller keeps a polynomial monic
  pub monic_minus : (f g : Poly S) → Monic f → size g < size f → Monic (f ⊕ neg g)
  monic_minus f g m h = record {
    deg = m.deg;
    sized = size_sum_left f (neg g) (omega (arith, size_neg g (size g) (le_refl _))) ∙ m.sized;
    leads = sum_coef S f (neg g) m.deg ∙ ap₂ S.ring.◌⊕◌ m.leads (neg_coef S g m.deg ∙ ap S.ring.neg (low g m.deg (omega (arith, m.sized))) ∙ neg_zero S.ring) ∙ add_zero S.ring _;
  }

  -- a scalar other than zero that makes f monic
  pub record Scaled (f : Poly S) : Type 0 where
    pub unit : K
    pub nonzero : unit ≡ S.ring.𝟘 → ⊥
    pub monic : Monic (const S unit ⊗ f)

  -- the common divisor that is monic
  pub record MonicGcd (f g d : Poly S) : Type 0 where
    pub monic : Monic d
    pub left : Divides (Polys S) d f
    pub right : Divides (Polys S) d g
    pub greatest : (e : Poly S) → Divides (Polys S) e f → Divides (Polys S) e g → Divides (Polys S) e d

module _ {K : Type 0} {S : Scalars K} (F : Field S) where
  infixl 65 ◌⊕◌
  infixl 70 ◌⊗◌
  open Polys S use {𝟘, 𝟙, ◌⊕◌, ◌⊗◌, neg}

  pub monic_one : Monic 𝟙
  monic_one = record { deg = 0; sized = one_size F; leads = one_coef_zero S }

  pub monic_mul : (f g : Poly S) → Monic f → Monic g → Monic (f ⊗ g)
  monic_mul f g p q = record {
    deg = p.deg + q.deg;
    sized = size_mul F f g p.deg q.deg p.sized q.sized;
    leads = top_product F f g p.deg q.deg p.sized q.sized ∙ ap₂ S.ring.◌⊗◌ p.leads q.leads ∙ mul_one S.ring S.ring.𝟙;
  }

  pub monic_pow : (f : Poly S) (n : ℕ) → Monic f → Monic (pow (Polys S) f n)
  monic_pow f zero m = subst (λ (x : Poly S). Monic x) (sym (pow_zero (Polys S) f)) monic_one
  monic_pow f (suc n) m = subst (λ (x : Poly S). Monic x) (sym (pow_suc (Polys S) f n)) (monic_mul f (pow (Polys S) f n) m (monic_pow f n m))

  pub monic_prod : (fs : List (Poly S)) → Each Monic fs → Monic (prod (Polys S) fs)
  monic_prod [] h = subst (λ (x : Poly S). Monic x) (sym (prod_nil (Polys S))) monic_one
  monic_prod (f ∷ fs) h = subst (λ (x : Poly S). Monic x) (sym (prod_cons (Polys S) f fs)) (monic_mul f (prod (Polys S) fs) (h f (inl refl)) (monic_prod fs (λ g i. h g (inr i))))

  -- monic polynomials of one size, one of which divides the other, are equal
  pub monic_divides : (f g : Poly S) → Monic f → Monic g → size f ≡ size g → Divides (Polys S) f g → f ≡ g
  monic_divides f g m n e p = sym (p.1 ∙ ap (λ (x : Poly S). x ⊗ f) one ∙ one_⊗ (Polys S) f)
    where
      w : Factors g p.0 f
      w = factors F g p.0 f (omega (arith, n.sized)) p.1

      s : size p.0 ≡ 1
      s = omega (arith, w.sizes)

      same : m.deg ≡ n.deg
      same = suc_inj (sym m.sized ∙ e ∙ n.sized)

      lead : p.0.coef 0 ≡ S.ring.𝟙
      lead =
          sym (mul_one S.ring (p.0.coef 0)) ∙ ap (λ (x : K). S.ring.◌⊗◌ (p.0.coef 0) x) (sym m.leads) ∙ sym (top_product F p.0 f 0 m.deg s m.sized)
          ∙ ap₂ (λ (x : Poly S) (k : ℕ). x.coef k) (sym p.1) (zero-add m.deg ∙ same) ∙ n.leads

      one : p.0 ≡ 𝟙
      one = is_const S p.0 (omega (arith, s)) ∙ ap (const S) lead ∙ const_one S

  -- monic polynomials that divide each other are equal
  pub monic_both : (f g : Poly S) → Monic f → Monic g → Divides (Polys S) f g → Divides (Polys S) g f → f ≡ g
  monic_both f g m n p q = monic_divides f g m n (omega (arith, dvd_size F f g (omega (arith, n.sized)) p, dvd_size F g f (omega (arith, m.sized)) q)) p

  -- for any polynomial but zero: the inverse of its highest coefficient
  pub scaled : (f : Poly S) → 1 ≤ size f → Scaled f
  scaled f h = go (size f) refl
    where
      go : (n : ℕ) → size f ≡ n → Scaled f
      go zero e = absurd (omega arith)
      go (suc n) e = record { unit = u; nonzero = nz; monic = record { deg = n; sized = size_mul F (const S u) f 0 n (const_nonzero S u nz) e ∙ ap suc (zero-add n); leads = const_mul_coef S u f n ∙ F.inverse (f.coef n) (top f n e) } }
        where
          u : K
          u = F.inv (f.coef n)

          nz : u ≡ S.ring.𝟘 → ⊥
          nz z = F.apart (sym (F.inverse (f.coef n) (top f n e)) ∙ ap (λ (x : K). S.ring.◌⊗◌ x (f.coef n)) z ∙ zero_⊗ S.ring _)

  pub monic_gcd_unique : (f g d e : Poly S) → MonicGcd f g d → MonicGcd f g e → d ≡ e
  monic_gcd_unique f g d e a b = monic_both d e a.monic b.monic (b.greatest d a.left a.right) (a.greatest e b.left b.right)

  -- a monic common divisor is there unless both are zero
  pub monic_gcd : (f g : Poly S) → (1 ≤ size f) ⊎ (1 ≤ size g) → (d : Poly S) × MonicGcd f g d
  monic_gcd f g h = go (gcd_of F f g)
    where
      go : Gcd f g → (d : Poly S) × MonicGcd f g d
      go c = by (scaled c.gcd (some h))
        where
          some : (1 ≤ size f) ⊎ (1 ≤ size g) → 1 ≤ size c.gcd
          some (inl l) = (factors F f c.left.0 c.gcd l c.left.1).right
          some (inr l) = (factors F g c.right.0 c.gcd l c.right.1).right

          by : Scaled c.gcd → (d : Poly S) × MonicGcd f g d
          by s = (
            const S s.unit ⊗ c.gcd,
            record {
              monic = s.monic;
              left = dvd_trans (Polys S) _ c.gcd f back c.left;
              right = dvd_trans (Polys S) _ c.gcd g back c.right;
              greatest = λ e p q. dvd_mul (Polys S) e c.gcd (const S s.unit) (greatest f g c e p q);
            },
          )
            where
              back : Divides (Polys S) (const S s.unit ⊗ c.gcd) c.gcd
              back = dvd_back F (const S s.unit ⊗ c.gcd) c.gcd (const S s.unit) refl (const_nonzero S s.unit s.nonzero)
