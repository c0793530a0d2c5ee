-- The greatest common divisor of polynomials over a field, with Bezout's equation.
-- Main statements: Gcd, greatest, gcd_of, coprime_of, Shares, shares_or_coprime, coprime_size, shares_factor.
use Rattle.std.proofs.Common.{◌≡◌, ℕ, zero, suc, ◌≤◌, ◌⊎◌, List, [], ◌∷◌, sym, refl, ap, ◌∙◌, subst, inl, inr, le_refl, arith}
use mathlib.Core.Path.{◌≡⟨◌⟩◌, ◌∎}
use Rattle.algebra.specs.Ring.{Scalars, Field}
use Rattle.algebra.specs.Lists.{In}
use Rattle.algebra.proofs.Laws.{⊗_zero, ring_simp}
use Rattle.algebra.proofs.Solver.{◌:+◌, ◌:*◌, ◌:-◌, ring, A, B, C, D, E}
use Rattle.algebra.proofs.Poly.{Poly, Polys, size, size_zero}
use Rattle.algebra.proofs.Divides.{Divides, Coprime, dvd_mul, dvd_sum, coprime_dvd}
use Rattle.algebra.proofs.Powers.{prod, coprime_prod}
use Rattle.algebra.proofs.Size.{Divided, divided, one_dvd, dvd_one, size_nonzero}

module _ {K : Type 0} {S : Scalars K} where
  infixl 65 ◌⊕◌
  infixl 70 ◌⊗◌
  infix 40 ◌∣◌
  open Polys S use {𝟘, 𝟙, ◌⊕◌, ◌⊗◌, neg}

  abbrev ◌∣◌ : Poly S → Poly S → Type 0
  ◌∣◌ = Divides (Polys S)

  -- a common divisor that is a sum of multiples of f and g
  pub record Gcd (f g : Poly S) : Type 0 where
    pub gcd : Poly S
    pub s : Poly S
    pub t : Poly S
    pub bezout : gcd ≡ s ⊗ f ⊕ t ⊗ g
    pub left : gcd ∣ f
    pub right : gcd ∣ g

  -- every common divisor divides it
  pub greatest : (f g : Poly S) (c : Gcd f g) (d : Poly S) → d ∣ f → d ∣ g → d ∣ c.gcd
  greatest f g c d p q = rw c.bezout (dvd_sum (Polys S) d _ _ (dvd_mul (Polys S) d f c.s p) (dvd_mul (Polys S) d g c.t q))

  onto : (f g : Poly S) (v : Divided f g) → Gcd g v.rest → Gcd f g
  onto f g v c = record {
    gcd = c.gcd;
    s = c.t;
    t = c.s ⊕ neg (c.t ⊗ v.quotient);
    bezout = c.bezout ∙ sums;
    left = (v.quotient ⊗ c.left.0 ⊕ c.right.0, v.adds_up ∙ whole);
    right = c.left;
  }
    where
      sums : c.s ⊗ g ⊕ c.t ⊗ v.rest ≡ c.t ⊗ f ⊕ (c.s ⊕ neg (c.t ⊗ v.quotient)) ⊗ g
      sums =
          c.s ⊗ g ⊕ c.t ⊗ v.rest ≡⟨ ring (Polys S) (c.s ∷ c.t ∷ g ∷ v.rest ∷ v.quotient ∷ []) (A :* C :+ B :* D) (B :* (E :* C :+ D) :+ (A :- B :* E) :* C) refl ⟩
          c.t ⊗ (v.quotient ⊗ g ⊕ v.rest) ⊕ (c.s ⊕ neg (c.t ⊗ v.quotient)) ⊗ g ≡⟨ (rw v.adds_up) ⟩
          c.t ⊗ f ⊕ (c.s ⊕ neg (c.t ⊗ v.quotient)) ⊗ g ∎

      whole : v.quotient ⊗ g ⊕ v.rest ≡ (v.quotient ⊗ c.left.0 ⊕ c.right.0) ⊗ c.gcd
      whole = rw (c.left.1, c.right.1) (simp ring_simp)

  from_zero : (f g : Poly S) → g ≡ 𝟘 → Gcd f g
  from_zero f g e = record {
    gcd = f;
    s = 𝟙;
    t = 𝟘;
    bezout = simp ring_simp;
    left = (𝟙, simp ring_simp);
    right = (𝟘, rw e (simp ring_simp));
  }

  -- a common divisor of positive degree
  abbrev pub Shares : Poly S → Poly S → Type 0
  Shares f h = (c : Gcd f h) × (2 ≤ size c.gcd)

module _ {K : Type 0} {S : Scalars K} (F : Field S) where
  infixl 65 ◌⊕◌
  infixl 70 ◌⊗◌
  open Polys S use {𝟘, 𝟙, ◌⊕◌, ◌⊗◌, neg}

  euclid : (n : ℕ) (f g : Poly S) → size g ≤ n → Gcd f g
  euclid zero f g h = from_zero f g (size_zero g (omega arith))
  euclid (suc n) f g h = go (size g) refl (euclid n g)
    where
      go : (k : ℕ) → size g ≡ k → ((r : Poly S) → size r ≤ n → Gcd g r) → Gcd f g
      go zero e rec = from_zero f g (size_zero g e)
      go (suc k) e rec = let v : Divided f g = divided F f g (omega arith) in onto f g v (rec v.rest (omega (arith, v.smaller)))

  -- there is always one, by Euclid's algorithm
  pub gcd_of : (f g : Poly S) → Gcd f g
  gcd_of f g = euclid (size g) f g (le_refl _)

  -- a common divisor that is a constant makes coprime
  pub coprime_of : (f g : Poly S) (c : Gcd f g) → size c.gcd ≡ 1 → Coprime (Polys S) f g
  coprime_of f g c e = go (one_dvd F c.gcd e)
    where
      go : Divides (Polys S) c.gcd 𝟙 → Coprime (Polys S) f g
      go d = record { s = d.0 ⊗ c.s; t = d.0 ⊗ c.t; sum = sym (d.1 ∙ rw c.bezout (simp ring_simp)) }

  -- a common divisor of a polynomial that is not zero is of positive degree, or both are coprime
  pub shares_or_coprime : (f g : Poly S) → 1 ≤ size f → (c : Gcd f g) → (2 ≤ size c.gcd) ⊎ Coprime (Polys S) f g
  shares_or_coprime f g pos c = by (size c.gcd) refl
    where
      by : (n : ℕ) → size c.gcd ≡ n → (2 ≤ size c.gcd) ⊎ Coprime (Polys S) f g
      by zero e = absurd (size_nonzero f pos (c.left.1 ∙ ap (λ (x : Poly S). c.left.0 ⊗ x) (size_zero c.gcd e) ∙ ⊗_zero (Polys S) c.left.0))
      by (suc zero) e = inr (coprime_of f g c e)
      by (suc (suc n)) e = inl (omega arith)

  -- coprime polynomials have no common divisor of positive degree
  pub coprime_size : (f g d : Poly S) → Coprime (Polys S) f g → Divides (Polys S) d f → Divides (Polys S) d g → size d ≤ 1
  coprime_size f g d c p q = dvd_one F d (rw (← c.sum) (dvd_sum (Polys S) d _ _ (dvd_mul (Polys S) d f c.s p) (dvd_mul (Polys S) d g c.t q)))

  -- f has a common divisor of positive degree with some h of a list, or is coprime to all of them
  pub search_list : (f : Poly S) → 1 ≤ size f → (hs : List (Poly S)) → ((h : Poly S) × In h hs × Shares f h) ⊎ ((h : Poly S) → In h hs → Coprime (Polys S) f h)
  search_list f pos [] = inr (λ h i. absurd i)
  search_list f pos (h ∷ hs) = let c = gcd_of f h in go c (shares_or_coprime f h pos c) (search_list f pos hs)
    where
      go : (c : Gcd f h) → (2 ≤ size c.gcd) ⊎ Coprime (Polys S) f h → ((h : Poly S) × In h hs × Shares f h) ⊎ ((h : Poly S) → In h hs → Coprime (Polys S) f h)
          → ((h' : Poly S) × In h' (h ∷ hs) × Shares f h') ⊎ ((h' : Poly S) → In h' (h ∷ hs) → Coprime (Polys S) f h')
      go c (inl s) r = inl (h, inl refl, (c, s))
      go c (inr p) (inl r) = inl (r.0, inr r.1, r.2)
      go c (inr p) (inr a) = inr (λ h' i. elim i [ inl e ↦ subst (λ (x : Poly S). Coprime (Polys S) f x) (sym e) p | inr j ↦ a h' j ])

  -- a polynomial of positive degree that divides a product has a common divisor of positive degree with a factor
  pub shares_factor : (f : Poly S) → 2 ≤ size f → (hs : List (Poly S)) → Divides (Polys S) f (prod (Polys S) hs) → (h : Poly S) × In h hs × Shares f h
  shares_factor f deg hs d =
      elim (search_list f (omega arith) hs) [ inl r ↦ r | inr a ↦ absurd (omega (arith, dvd_one F f (coprime_dvd (Polys S) f (prod (Polys S) hs) (coprime_prod (Polys S) f hs a) d))) ]
