-- Berlekamp's criterion: the polynomials v where f divides v^q - v tell whether f splits;
-- each of positive degree below that of f splits it.
-- Main statements: gap, Fixed, Splitter, fixed_cong, chinese_fixed, shift_shares, fixed_splits, coprime_fixed, split_fixed, berlekamp.
use Rattle.std.proofs.Common.{◌≡◌, ℕ, ◌<◌, ◌≤◌, ◌↔◌, [], ◌∷◌, map, sym, refl, ap, ◌∙◌, subst, arith}
use native.Mathlib.Decide.{dec_le}
use Rattle.algebra.specs.Ring.{Scalars, Field}
use Rattle.algebra.specs.Lists.{In, Listing}
use Rattle.algebra.proofs.Laws.{add_neg, mul_comm}
use Rattle.algebra.proofs.Solver.{:0, :1, ◌:+◌, :neg, ◌:-◌, ring, A, B, C, D}
use Rattle.algebra.proofs.Lists.{in_map}
use Rattle.algebra.proofs.Poly.{Poly, Polys, size}
use Rattle.algebra.proofs.Divides.{Divides, Coprime, dvd_trans, dvd_sum, dvd_neg, dvd_right, dvd_zero, coprime_both}
use Rattle.algebra.proofs.Powers.{pow, pow_cong, one_pow, zero_pow_pos}
use Rattle.algebra.proofs.Size.{Divided, divided, dvd_size, dvd_one, dvd_small}
use Rattle.algebra.proofs.Gcd.{Gcd, Shares, shares_factor}
use Rattle.algebra.proofs.Irreducible.{Irreducible, Splits}
use Rattle.algebra.proofs.Derivative.{der, cofactors_coprime, cofactor_proper}
use Rattle.algebra.proofs.Finite.{order_two}
use Rattle.algebra.proofs.Linear.{minus, minus_size, all_minus}

module _ {K : Type 0} {S : Scalars K} (q : ℕ) where
  -- v^q - v
  abbrev pub gap : Poly S → Poly S
  gap v = (Polys S).◌⊕◌ (pow (Polys S) v q) ((Polys S).neg v)

  -- f divides v^q - v
  abbrev pub Fixed : Poly S → Poly S → Type 0
  Fixed f v = Divides (Polys S) f (gap v)

  -- a polynomial of positive degree below that of f that is its own q-th power modulo f
  pub record Splitter (f : Poly S) : Type 0 where
    pub v : Poly S
    pub positive : 2 ≤ size v
    pub below : size v < size f
    pub fixed : Fixed f v

module _ {K : Type 0} {S : Scalars K} where
  -- some v is zero modulo a and one modulo b
  pub record Remainders (a b : Poly S) : Type 0 where
    pub v : Poly S
    pub zero_left : Divides (Polys S) a v
    pub one_right : Divides (Polys S) b ((Polys S).◌⊕◌ (Polys S).𝟙 ((Polys S).neg v))

module _ {K : Type 0} {S : Scalars K} (q : ℕ) where
  infixl 65 ◌⊕◌
  infixl 70 ◌⊗◌
  infix 40 ◌∣◌
  open Polys S use {𝟘, 𝟙, ◌⊕◌, ◌⊗◌, neg}

  abbrev ◌∣◌ : Poly S → Poly S → Type 0
  ◌∣◌ = Divides (Polys S)

  -- of two that are equal modulo f, one is fixed if the other is
  pub fixed_cong : (f a b : Poly S) → f ∣ a ⊕ neg b → Fixed q f a → Fixed q f b
  fixed_cong f a b p h = subst (λ (x : Poly S). f ∣ x)
      (ring (Polys S) (pow (Polys S) a q ∷ a ∷ pow (Polys S) b q ∷ b ∷ []) ((A :- B) :+ (:neg (A :- C) :+ (B :- D))) (C :- D) refl)
      (dvd_sum (Polys S) f _ _ h (dvd_sum (Polys S) f _ _ (dvd_neg (Polys S) f _ (pow_cong (Polys S) f a b q p)) p))

  pub fixed_zero : (f : Poly S) → 1 ≤ q → Fixed q f 𝟘
  fixed_zero f l = subst (λ (x : Poly S). f ∣ x) (sym (ap (λ (x : Poly S). x ⊕ neg 𝟘) (zero_pow_pos (Polys S) q l) ∙ add_neg (Polys S) 𝟘)) (dvd_zero (Polys S) f)

  pub fixed_one : (f : Poly S) → Fixed q f 𝟙
  fixed_one f = subst (λ (x : Poly S). f ∣ x) (sym (ap (λ (x : Poly S). x ⊕ neg 𝟙) (one_pow (Polys S) q) ∙ add_neg (Polys S) 𝟙)) (dvd_zero (Polys S) f)

  -- for coprime a and b there is such a v, and it is fixed modulo their product
  pub chinese : (a b : Poly S) → Coprime (Polys S) a b → Remainders a b
  chinese a b c = record {
    v = c.s ⊗ a;
    zero_left = dvd_right (Polys S) c.s a;
    one_right = (c.t, ap (λ (x : Poly S). x ⊕ neg (c.s ⊗ a)) (sym c.sum) ∙ ring (Polys S) (c.s ⊗ a ∷ c.t ⊗ b ∷ []) (A :+ B :- A) B refl);
  }

  pub chinese_fixed : (a b : Poly S) → 1 ≤ q → Coprime (Polys S) a b → (r : Remainders a b) → Fixed q (a ⊗ b) r.v
  chinese_fixed a b l c r = coprime_both (Polys S) a b _ c
      (fixed_cong a 𝟘 r.v (subst (λ (x : Poly S). a ∣ x) (ring (Polys S) (r.v ∷ []) (:neg A) (:0 :- A) refl) (dvd_neg (Polys S) a _ r.zero_left)) (fixed_zero a l))
      (fixed_cong b 𝟙 r.v r.one_right (fixed_one b))

module _ {K : Type 0} {S : Scalars K} (F : Field S) (q : ℕ) (L : Listing K q) where
  infixl 65 ◌⊕◌
  infixl 70 ◌⊗◌
  open Polys S use {𝟘, 𝟙, ◌⊕◌, ◌⊗◌, neg}

  -- the common divisor of f and v - w is smaller than f
  pub shift_smaller : (f v : Poly S) (w : K) → 2 ≤ size v → size v < size f → (c : Gcd f (minus S v w)) → size c.gcd < size f
  shift_smaller f v w h l c = omega (arith, minus_size S v w h, dvd_size F c.gcd (minus S v w) (omega (arith, minus_size S v w h)) c.right)

  -- for some w the common divisor is of positive degree
  pub shift_shares : (f v : Poly S) → 2 ≤ size f → Fixed q f v → (w : K) × Shares f (minus S v w)
  shift_shares f v h d = go (shares_factor F f h (map (minus S v) L.elements) (subst (λ (x : Poly S). Divides (Polys S) f x) (all_minus F q L v) d))
    where
      go : (g : Poly S) × In g (map (minus S v) L.elements) × Shares f g → (w : K) × Shares f (minus S v w)
      go r = let m = in_map (minus S v) r.0 L.elements r.1 in (m.0, subst (λ (x : Poly S). Shares f x) m.2 r.2)

  -- a fixed polynomial of positive degree below that of f splits f
  pub fixed_splits : (f v : Poly S) → 2 ≤ size v → size v < size f → Fixed q f v → Splits f
  fixed_splits f v h l d = go (shift_shares f v (omega arith) d)
    where
      go : (w : K) × Shares f (minus S v w) → Splits f
      go r =
          let c : Gcd f (minus S v r.0) = r.1.0 in
          let p = cofactor_proper F f c.left.0 c.gcd c.left.1 r.1.1 (shift_smaller f v r.0 h l c) in
          record { left = c.left.0; right = c.gcd; product = c.left.1; left_positive = p.0; right_positive = r.1.1 }

  -- a product of two coprime polynomials of positive degree has a fixed polynomial of positive degree
  pub coprime_fixed : (f a b : Poly S) → f ≡ a ⊗ b → 2 ≤ size a → 2 ≤ size b → Coprime (Polys S) a b → 1 ≤ size f → Splitter q f
  coprime_fixed f a b e ha hb c hf = go (chinese q a b c) (divided F (chinese q a b c).v f hf)
      (subst (λ (x : Poly S). Fixed q x (chinese q a b c).v) (sym e) (chinese_fixed q a b (omega (arith, order_two F q L)) c (chinese q a b c)))
    where
      go : (r : Remainders a b) → Divided r.v f → Fixed q f r.v → Splitter q f
      go r d h = record { v = d.rest; positive = positive (dec_le 2 (size d.rest)); below = d.smaller; fixed = fixed_cong q f r.v d.rest same h }
        where
          same : Divides (Polys S) f (r.v ⊕ neg d.rest)
          same = (d.quotient, ap (λ (x : Poly S). x ⊕ neg d.rest) d.adds_up ∙ ring (Polys S) (d.quotient ⊗ f ∷ d.rest ∷ []) (A :+ B :- B) A refl)

          a_f : Divides (Polys S) a f
          a_f = (b, e ∙ mul_comm (Polys S) a b)

          positive : Dec (2 ≤ size d.rest) → 2 ≤ size d.rest
          positive (yes p) = p
          positive (no p) = absurd (omega (arith, dvd_one F b b_one))
            where
              a_rest : Divides (Polys S) a d.rest
              a_rest = subst (λ (x : Poly S). Divides (Polys S) a x) (ring (Polys S) (r.v ∷ d.rest ∷ []) (A :+ :neg (A :- B)) B refl)
                  (dvd_sum (Polys S) a _ _ r.zero_left (dvd_neg (Polys S) a _ (dvd_trans (Polys S) a f _ a_f same)))

              none : d.rest ≡ 𝟘
              none = dvd_small F a d.rest a_rest (omega arith)

              b_one : Divides (Polys S) b 𝟙
              b_one = subst (λ (x : Poly S). Divides (Polys S) b x)
                  (ap (λ (x : Poly S). 𝟙 ⊕ neg r.v ⊕ (r.v ⊕ neg x)) none ∙ ring (Polys S) (r.v ∷ []) ((:1 :- A) :+ (A :- :0)) :1 refl)
                  (dvd_sum (Polys S) b _ _ r.one_right (dvd_trans (Polys S) b f _ (a, e) same))

  -- a polynomial that is coprime to its derivative and splits has a fixed polynomial of positive degree below its own
  pub split_fixed : (f : Poly S) → 2 ≤ size f → Coprime (Polys S) f (der f) → Splits f → Splitter q f
  split_fixed f h c s = coprime_fixed f s.left s.right s.product s.left_positive s.right_positive (cofactors_coprime f s.left s.right s.product c) (omega arith)

  -- Berlekamp's criterion: f, coprime to its derivative, is irreducible just if there is no splitter
  pub berlekamp : (f : Poly S) → 2 ≤ size f → Coprime (Polys S) f (der f) → Irreducible f ↔ (Splitter q f → ⊥)
  berlekamp f h c = (
    λ i s. let w = fixed_splits f s.v s.positive s.below s.fixed in i.alone w.left w.right w.product w.left_positive w.right_positive,
    λ n. record { positive = h; alone = λ a b e p r. n (split_fixed f h c (record { left = a; right = b; product = e; left_positive = p; right_positive = r })) },
  )
