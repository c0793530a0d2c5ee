-- Irreducible polynomials over a field are prime, and factorisations into monic ones are unique.
-- Main statements: Irreducible, Splits, Atom, whole_divisor, divides_or_coprime, prime, prime_product, atoms_equal, unique.
use Rattle.std.proofs.Common.{◌≡◌, ℕ, zero, suc, ◌≤◌, ◌⊎◌, List, [], ◌∷◌, sym, refl, ap, ◌∙◌, subst, inl, inr, arith}
use Rattle.algebra.specs.Ring.{Scalars, Field}
use Rattle.algebra.specs.Lists.{In, Each, Put, Permuted, none, put}
use Rattle.algebra.proofs.Lists.{find, put_more}
use Rattle.algebra.proofs.Laws.{mul_one, ⊗_left_comm}
use Rattle.algebra.proofs.Solver.{◌:*◌, ring, A, B, C}
use Rattle.algebra.proofs.Poly.{Poly, Polys, size}
use Rattle.algebra.proofs.Divides.{Divides, Coprime, dvd_trans, euclid_lemma}
use Rattle.algebra.proofs.Powers.{prod, prod_nil, prod_cons, prod_put}
use Rattle.algebra.proofs.Monic.{Monic, monic_both}
use Rattle.algebra.proofs.Size.{Factors, factors, dvd_back, dvd_one, dvd_size, poly_cancel}
use Rattle.algebra.proofs.Terms.{const, const_coef_zero, const_nonzero}
use Rattle.algebra.proofs.Gcd.{Gcd, gcd_of, shares_or_coprime}

module _ {K : Type 0} {S : Scalars K} where
  -- of positive degree, and no product of two of positive degree
  pub record Irreducible (f : Poly S) : Type 0 where
    pub positive : 2 ≤ size f
    pub alone : (a b : Poly S) → f ≡ (Polys S).◌⊗◌ a b → 2 ≤ size a → 2 ≤ size b → ⊥

  -- f is a product with both factors of positive degree
  pub record Splits (f : Poly S) : Type 0 where
    pub left : Poly S
    pub right : Poly S
    pub product : f ≡ (Polys S).◌⊗◌ left right
    pub left_positive : 2 ≤ size left
    pub right_positive : 2 ≤ size right

  -- monic and irreducible
  pub record Atom (f : Poly S) : Type 0 where
    pub monic : Monic f
    pub irreducible : Irreducible f

module _ {K : Type 0} {S : Scalars K} (F : Field S) where
  infixl 65 ◌⊕◌
  infixl 70 ◌⊗◌
  infix 40 ◌∣◌
  open Polys S use {𝟘, 𝟙, ◌⊕◌, ◌⊗◌, neg}

  abbrev ◌∣◌ : Poly S → Poly S → Type 0
  ◌∣◌ = Divides (Polys S)

  -- a divisor of positive degree of an irreducible polynomial is a multiple of it
  pub whole_divisor : (f d : Poly S) → Irreducible f → d ∣ f → 2 ≤ size d → f ∣ d
  whole_divisor f d i p h = go (size p.0) refl
    where
      w : Factors f p.0 d
      w = factors F f p.0 d (omega (arith, i.positive)) p.1

      go : (n : ℕ) → size p.0 ≡ n → f ∣ d
      go zero e = absurd (omega (arith, w.left))
      go (suc zero) e = dvd_back F f d p.0 p.1 e
      go (suc (suc n)) e = absurd (i.alone p.0 d p.1 (omega arith) h)

  -- an irreducible polynomial divides another one or is coprime to it
  pub divides_or_coprime : (f g : Poly S) → Irreducible f → (f ∣ g) ⊎ Coprime (Polys S) f g
  divides_or_coprime f g i = go (gcd_of F f g)
    where
      go : Gcd f g → (f ∣ g) ⊎ Coprime (Polys S) f g
      go c =
          elim (shares_or_coprime F f g (omega (arith, i.positive)) c) [
            | inl h ↦ inl (dvd_trans (Polys S) f c.gcd g (whole_divisor f c.gcd i c.left h) c.right)
            | inr p ↦ inr p
          ]

  -- irreducible polynomials are prime
  pub prime : (f a b : Poly S) → Irreducible f → f ∣ a ⊗ b → (f ∣ a) ⊎ (f ∣ b)
  prime f a b i p = elim (divides_or_coprime f a i) [ inl d ↦ inl d | inr c ↦ inr (euclid_lemma (Polys S) f a b c p) ]

  -- an irreducible polynomial that divides a product divides a factor
  pub prime_product : (f : Poly S) (gs : List (Poly S)) → Irreducible f → f ∣ prod (Polys S) gs → (g : Poly S) × In g gs × (f ∣ g)
  prime_product f [] i p = absurd (omega (arith, i.positive, dvd_one F f (subst (λ (x : Poly S). f ∣ x) (prod_nil (Polys S)) p)))
  prime_product f (g ∷ gs) i p = go (prime f g (prod (Polys S) gs) i (subst (λ (x : Poly S). f ∣ x) (prod_cons (Polys S) g gs) p)) (prime_product f gs i)
    where
      go : (f ∣ g) ⊎ (f ∣ prod (Polys S) gs) → (f ∣ prod (Polys S) gs → (h : Poly S) × In h gs × (f ∣ h)) → (h : Poly S) × In h (g ∷ gs) × (f ∣ h)
      go (inl d) rec = (g, inl refl, d)
      go (inr d) rec = let r = rec d in (r.0, inr r.1, r.2)

  -- of two monic irreducible polynomials one divides the other only if they are equal
  pub atoms_equal : (f g : Poly S) → Atom f → Atom g → f ∣ g → f ≡ g
  atoms_equal f g a b p = monic_both F f g a.monic b.monic p (whole_divisor g f b.irreducible p a.irreducible.positive)

  -- factorisations are unique: a unit and the monic irreducible factors, up to their order
  pub unique : (c d : K) (fs gs : List (Poly S)) → (c ≡ S.ring.𝟘 → ⊥) → (d ≡ S.ring.𝟘 → ⊥) → Each Atom fs → Each Atom gs
      → const S c ⊗ prod (Polys S) fs ≡ const S d ⊗ prod (Polys S) gs → (c ≡ d) × Permuted fs gs
  unique c d [] [] nc nd af ag e = (sym (const_coef_zero S c) ∙ ap (λ (x : Poly S). x.coef 0) same ∙ const_coef_zero S d, none)
    where
      same : const S c ≡ const S d
      same = sym (mul_one (Polys S) _) ∙ ap (λ (x : Poly S). const S c ⊗ x) (sym (prod_nil (Polys S))) ∙ e ∙ ap (λ (x : Poly S). const S d ⊗ x) (prod_nil (Polys S)) ∙ mul_one (Polys S) _
  unique c d [] (g ∷ gs) nc nd af ag e = absurd (omega (arith, (ag g (inl refl)).irreducible.positive, const_nonzero S c nc, dvd_size F g (const S c) (omega (arith, const_nonzero S c nc)) divides))
    where
      divides : g ∣ const S c
      divides = (
        const S d ⊗ prod (Polys S) gs,
        sym (mul_one (Polys S) _) ∙ ap (λ (x : Poly S). const S c ⊗ x) (sym (prod_nil (Polys S))) ∙ e
            ∙ ap (λ (x : Poly S). const S d ⊗ x) (prod_cons (Polys S) g gs) ∙ ring (Polys S) (_ ∷ _ ∷ _ ∷ []) (A :* (B :* C)) (A :* C :* B) refl,
      )
  unique c d (f ∷ fs) gs nc nd af ag e = go (prime f (const S d) (prod (Polys S) gs) (af f (inl refl)).irreducible divides) (unique c d fs)
    where
      divides : f ∣ const S d ⊗ prod (Polys S) gs
      divides = (const S c ⊗ prod (Polys S) fs, sym e ∙ ap (λ (x : Poly S). const S c ⊗ x) (prod_cons (Polys S) f fs) ∙ ring (Polys S) (_ ∷ _ ∷ _ ∷ []) (A :* (B :* C)) (A :* C :* B) refl)

      by : (hs : List (Poly S)) → Put f hs gs → ((hs : List (Poly S)) → (c ≡ S.ring.𝟘 → ⊥) → (d ≡ S.ring.𝟘 → ⊥) → Each Atom fs → Each Atom hs
          → const S c ⊗ prod (Polys S) fs ≡ const S d ⊗ prod (Polys S) hs → (c ≡ d) × Permuted fs hs) → (c ≡ d) × Permuted (f ∷ fs) gs
      by hs i rec = let r = rec hs nc nd (λ x h. af x (inr h)) (λ x h. ag x (put_more x i h)) rest in (r.0, put r.1 i)
        where
          rest : const S c ⊗ prod (Polys S) fs ≡ const S d ⊗ prod (Polys S) hs
          rest = poly_cancel F f _ _ (omega (arith, (af f (inl refl)).irreducible.positive)) (
              ⊗_left_comm (Polys S) f (const S c) _ ∙ ap (λ (x : Poly S). const S c ⊗ x) (sym (prod_cons (Polys S) f fs)) ∙ e
              ∙ ap (λ (x : Poly S). const S d ⊗ x) (prod_put (Polys S) i) ∙ ⊗_left_comm (Polys S) (const S d) f _)

      go : (f ∣ const S d) ⊎ (f ∣ prod (Polys S) gs) → ((hs : List (Poly S)) → (c ≡ S.ring.𝟘 → ⊥) → (d ≡ S.ring.𝟘 → ⊥) → Each Atom fs → Each Atom hs
          → const S c ⊗ prod (Polys S) fs ≡ const S d ⊗ prod (Polys S) hs → (c ≡ d) × Permuted fs hs) → (c ≡ d) × Permuted (f ∷ fs) gs
      go (inl p) rec = absurd (omega (arith, (af f (inl refl)).irreducible.positive, const_nonzero S d nd, dvd_size F f (const S d) (omega (arith, const_nonzero S d nd)) p))
      go (inr p) rec = let r = prime_product f gs (af f (inl refl)).irreducible p in
          let q : f ≡ r.0 = atoms_equal f r.0 (af f (inl refl)) (ag r.0 r.1) r.2 in
          let w = find f gs (subst (λ (x : Poly S). In x gs) (sym q) r.1) in by w.0 w.1 rec
