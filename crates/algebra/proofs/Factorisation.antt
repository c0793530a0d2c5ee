-- Over a finite field each polynomial that is not zero has a factorisation, and just one.
-- Main statements: Factorisation, factorisation_unique, factorisation_mul, irreducible_scaled, irreducible_or_splits, factorise.
use Rattle.std.proofs.Common.{◌≡◌, ℕ, zero, suc, ◌≤◌, ◌⊎◌, List, [], ◌∷◌, ◌++◌, sym, refl, ap, ◌∙◌, subst, ap₂, inl, inr, le_refl, arith}
use native.Mathlib.Decide.{dec_le}
use Rattle.algebra.specs.Ring.{Scalars, Field}
use Rattle.algebra.specs.Lists.{Each, Permuted}
use Rattle.algebra.specs.Finite.{FiniteField}
use Rattle.algebra.proofs.Laws.{mul_one, one_⊗, zero_⊗, mul_assoc}
use Rattle.algebra.proofs.Solver.{◌:*◌, ring, A, B, C, D}
use Rattle.algebra.proofs.Lists.{in_either, search_listing}
use Rattle.algebra.proofs.Poly.{Poly, Polys, poly_dec, size, top}
use Rattle.algebra.proofs.Divides.{Divides}
use Rattle.algebra.proofs.Powers.{prod, prod_nil, prod_cons, prod_append}
use Rattle.algebra.proofs.Size.{factors, no_zero_divisors}
use Rattle.algebra.proofs.Terms.{const, is_const, const_one, const_nonzero, const_mul}
use Rattle.algebra.proofs.Monic.{Scaled, scaled}
use Rattle.algebra.proofs.Irreducible.{Irreducible, Splits, Atom, unique}
use Rattle.algebra.proofs.Derivative.{cofactor_proper}
use Rattle.algebra.proofs.Remainder.{field_leading, rem, rem_zero}
use Rattle.algebra.proofs.Low.{listing_low}

module _ {K : Type 0} {S : Scalars K} where
  -- a unit and monic irreducible factors
  pub record Factorisation (f : Poly S) : Type 0 where
    pub unit : K
    pub nonzero : unit ≡ S.ring.𝟘 → ⊥
    pub atoms : List (Poly S)
    pub each : Each Atom atoms
    pub product : f ≡ (Polys S).◌⊗◌ (const S unit) (prod (Polys S) atoms)

module _ {K : Type 0} {S : Scalars K} (F : Field S) where
  infixl 70 ◌⊗◌
  open Polys S use {𝟘, 𝟙, ◌⊗◌}

  -- the unit is the same, and the factors are the same up to their order
  pub factorisation_unique : (f : Poly S) (a b : Factorisation f) → (a.unit ≡ b.unit) × Permuted a.atoms b.atoms
  factorisation_unique f a b = unique F a.unit b.unit a.atoms b.atoms a.nonzero b.nonzero a.each b.each (sym a.product ∙ b.product)

  -- the factorisations of two factors together factor the product
  pub factorisation_mul : (f g h : Poly S) → f ≡ g ⊗ h → Factorisation g → Factorisation h → Factorisation f
  factorisation_mul f g h e a b = record {
    unit = S.ring.◌⊗◌ a.unit b.unit;
    nonzero = no_zero_divisors F a.unit b.unit a.nonzero b.nonzero;
    atoms = a.atoms ++ b.atoms;
    each = λ x i. elim (in_either x a.atoms b.atoms i) [ inl j ↦ a.each x j | inr j ↦ b.each x j ];
    product =
        e ∙ ap₂ ◌⊗◌ a.product b.product
        ∙ ring (Polys S) (const S a.unit ∷ prod (Polys S) a.atoms ∷ const S b.unit ∷ prod (Polys S) b.atoms ∷ []) (A :* B :* (C :* D)) (A :* C :* (B :* D)) refl
        ∙ sym (ap₂ ◌⊗◌ (const_mul S a.unit b.unit) (prod_append (Polys S) a.atoms b.atoms));
  }

  constant : (f : Poly S) → size f ≡ 1 → Factorisation f
  constant f e = record {
    unit = f.coef 0;
    nonzero = top f 0 e;
    atoms = [];
    each = λ x i. absurd i;
    product = is_const S f (omega arith) ∙ sym (ap (λ (x : Poly S). const S (f.coef 0) ⊗ x) (prod_nil (Polys S)) ∙ mul_one (Polys S) _);
  }

  -- an irreducible polynomial times a constant other than zero is irreducible
  pub irreducible_scaled : (c d : K) (f : Poly S) → S.ring.◌⊗◌ d c ≡ S.ring.𝟙 → Irreducible f → size (const S c ⊗ f) ≡ size f → Irreducible (const S c ⊗ f)
  irreducible_scaled c d f u i s = record {
    positive = omega (arith, i.positive, s);
    alone = λ a b e p q. i.alone (const S d ⊗ a) b (whole a b e) (longer a b e p) q;
  }
    where
      whole : (a b : Poly S) → const S c ⊗ f ≡ a ⊗ b → f ≡ const S d ⊗ a ⊗ b
      whole a b e =
          sym (one_⊗ (Polys S) f) ∙ ap (λ (x : Poly S). x ⊗ f) (sym (const_one S) ∙ ap (const S) (sym u) ∙ const_mul S d c)
          ∙ mul_assoc (Polys S) (const S d) (const S c) f ∙ ap (λ (x : Poly S). const S d ⊗ x) e ∙ sym (mul_assoc (Polys S) (const S d) a b)

      longer : (a b : Poly S) → const S c ⊗ f ≡ a ⊗ b → 2 ≤ size a → 2 ≤ size (const S d ⊗ a)
      longer a b e p =
          let v = factors F (const S c ⊗ f) a b (omega (arith, i.positive, s)) e in
          let w = factors F f (const S d ⊗ a) b (omega (arith, i.positive)) (whole a b e) in
          omega (arith, v.sizes, w.sizes, s)

  atom : (f : Poly S) → Irreducible f → Factorisation f
  atom f i = go (scaled F f (omega (arith, i.positive)))
    where
      go : Scaled f → Factorisation f
      go s = record {
        unit = F.inv s.unit;
        nonzero = λ z. F.apart (sym (F.inverse s.unit s.nonzero) ∙ ap (λ (x : K). S.ring.◌⊗◌ x s.unit) z ∙ zero_⊗ S.ring s.unit);
        atoms = g ∷ [];
        each = λ x j. elim j [ inl e ↦ subst (λ (y : Poly S). Atom y) (sym e) whole | inr k ↦ absurd k ];
        product =
            sym (one_⊗ (Polys S) f) ∙ ap (λ (x : Poly S). x ⊗ f) (sym (const_one S) ∙ ap (const S) (sym (F.inverse s.unit s.nonzero)) ∙ const_mul S (F.inv s.unit) s.unit)
            ∙ mul_assoc (Polys S) (const S (F.inv s.unit)) (const S s.unit) f
            ∙ ap (λ (x : Poly S). const S (F.inv s.unit) ⊗ x) (sym (prod_cons (Polys S) g [] ∙ ap (λ (x : Poly S). g ⊗ x) (prod_nil (Polys S)) ∙ mul_one (Polys S) g));
      }
        where
          g : Poly S
          g = const S s.unit ⊗ f

          long : size g ≡ size f
          long = omega (arith, const_nonzero S s.unit s.nonzero, (factors F g (const S s.unit) f (omega (arith, s.monic.sized)) refl).sizes)

          whole : Atom g
          whole = record { monic = s.monic; irreducible = irreducible_scaled s.unit (F.inv s.unit) f (F.inverse s.unit s.nonzero) i long }

module _ {K : Type 0} {S : Scalars K} (E : FiniteField S) where
  infixl 70 ◌⊗◌
  open Polys S use {𝟘, 𝟙, ◌⊗◌}

  divides_dec : (f d : Poly S) → Dec ((2 ≤ size d) × Divides (Polys S) d f)
  divides_dec f d = go (dec_le 2 (size d))
    where
      go : Dec (2 ≤ size d) → Dec ((2 ≤ size d) × Divides (Polys S) d f)
      go (no n) = no (λ w. n w.0)
      go (yes h) = let l = field_leading E.field d (omega arith) in
          elim (poly_dec (rem l f) 𝟘) [ yes e ↦ yes (h, (rem_zero l f).1 e) | no n ↦ no (λ w. n ((rem_zero l f).0 w.1)) ]

  -- whether a polynomial splits is decided
  pub irreducible_or_splits : (f : Poly S) → 2 ≤ size f → Irreducible f ⊎ Splits f
  irreducible_or_splits f h = go (size f) refl
    where
      go : (n : ℕ) → size f ≡ n → Irreducible f ⊎ Splits f
      go zero e = absurd (omega arith)
      go (suc n) e = elim (search_listing (listing_low S E.q E.listing n) (λ d. (2 ≤ size d.0) × Divides (Polys S) d.0 f) (λ d. divides_dec f d.0)) [
        | inl r ↦ inr (record { left = r.1.1.0; right = r.0.0; product = r.1.1.1; left_positive = (cofactor_proper E.field f r.1.1.0 r.0.0 r.1.1.1 r.1.0 (omega (arith, r.0.1))).0; right_positive = r.1.0 })
        | inr m ↦ inl (record { positive = h; alone = λ a b p i j. m (b, omega (arith, (factors E.field f a b (omega arith) p).sizes)) (j, (a, p)) })
      ]

  bounded : (n : ℕ) (f : Poly S) → size f ≤ n → 1 ≤ size f → Factorisation f
  bounded zero f l h = absurd (omega arith)
  bounded (suc n) f l h = go (dec_le 2 (size f)) (bounded n)
    where
      go : Dec (2 ≤ size f) → ((g : Poly S) → size g ≤ n → 1 ≤ size g → Factorisation g) → Factorisation f
      go (no k) rec = constant E.field f (omega arith)
      go (yes k) rec = elim (irreducible_or_splits f k) [ inl i ↦ atom E.field f i | inr s ↦ by s ]
        where
          by : Splits f → Factorisation f
          by s = let w = factors E.field f s.left s.right h s.product in
              factorisation_mul E.field f s.left s.right s.product
              (rec s.left (omega (arith, w.sizes, s.right_positive)) w.left) (rec s.right (omega (arith, w.sizes, s.left_positive)) w.right)

  -- each polynomial other than zero has a factorisation
  pub factorise : (f : Poly S) → 1 ≤ size f → Factorisation f
  factorise f h = bounded (size f) f (le_refl _) h
