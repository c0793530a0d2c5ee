-- In a field of q elements each is its own q-th power.
-- Main statements: prod_nonzero, fermat, order_two, own_power.
use Rattle.std.proofs.Common.{◌≡◌, ℕ, suc, ◌≤◌, List, [], ◌∷◌, map, length, sym, refl, ap, ◌∙◌, subst, inl, inr, arith}
use Rattle.algebra.specs.Ring.{Scalars, Field}
use Rattle.algebra.specs.Lists.{In, Distinct, Put, Listing}
use Rattle.algebra.proofs.Laws.{mul_comm, mul_one}
use Rattle.algebra.proofs.Lists.{find, put_length, put_less, put_distinct, in_map, map_length, map_distinct}
use Rattle.algebra.proofs.Powers.{pow, prod, pow_suc, zero_pow, prod_nil, prod_cons, prod_same, prod_scaled}
use Rattle.algebra.proofs.Size.{cancel_scalar, no_zero_divisors}

module _ {K : Type 0} {S : Scalars K} (F : Field S) where
  infixl 70 ◌⊗◌
  open S.ring use {𝟘, 𝟙, ◌⊗◌}

  -- a product of elements other than zero is not zero
  pub prod_nonzero : (xs : List K) → ((x : K) → In x xs → x ≡ 𝟘 → ⊥) → prod S.ring xs ≡ 𝟘 → ⊥
  prod_nonzero [] h e = F.apart (sym (prod_nil S.ring) ∙ e)
  prod_nonzero (x ∷ xs) h e = no_zero_divisors F x (prod S.ring xs) (h x (inl refl)) (prod_nonzero xs (λ y i. h y (inr i))) (sym (prod_cons S.ring x xs) ∙ e)

  -- ns lists the elements other than zero, each once: then each of them to the power of their number is one
  pub fermat : (ns : List K) → Distinct ns → ((x : K) → In x ns → x ≡ 𝟘 → ⊥) → ((x : K) → (x ≡ 𝟘 → ⊥) → In x ns) → (a : K) → (a ≡ 𝟘 → ⊥) → pow S.ring a (length ns) ≡ 𝟙
  fermat ns d nz all a n = cancel_scalar F (prod S.ring ns) _ _ (prod_nonzero ns nz) (
      mul_comm S.ring _ _ ∙ sym (prod_scaled S.ring a ns)
      ∙ prod_same S.ring (map (λ x. a ⊗ x) ns) ns (map_distinct (λ x. a ⊗ x) (λ x y. cancel_scalar F a x y n) ns d) (λ z i. among z (in_map (λ x. a ⊗ x) z ns i)) (map_length (λ x. a ⊗ x) ns)
      ∙ sym (mul_one S.ring (prod S.ring ns)))
    where
      among : (z : K) → (x : K) × In x ns × (z ≡ a ⊗ x) → In z ns
      among z r = all z (λ e. no_zero_divisors F a r.0 n (nz r.0 r.1) (sym r.2 ∙ e))

  module _ (q : ℕ) (L : Listing K q) where
    others : (ns : List K) × Put 𝟘 ns L.elements
    others = find 𝟘 L.elements (L.all 𝟘)

    -- a finite field has at least two elements
    pub order_two : 2 ≤ q
    order_two = go others.0 others.1
      where
        go : (ns : List K) → Put 𝟘 ns L.elements → 2 ≤ q
        go [] i = absurd (put_less i (L.all 𝟙) F.apart)
        go (n ∷ ns) i = omega (arith, L.count, put_length i)

    -- each element is its own q-th power
    pub own_power : (a : K) → pow S.ring a q ≡ a
    own_power a = ap (pow S.ring a) (sym L.count ∙ put_length others.1) ∙ go (S.dec a 𝟘)
      where
        ns : List K
        ns = others.0

        d : (In 𝟘 ns → ⊥) × Distinct ns
        d = put_distinct others.1 L.distinct

        go : Dec (a ≡ 𝟘) → pow S.ring a (suc (length ns)) ≡ a
        go (yes e) = ap (λ (x : K). pow S.ring x (suc (length ns))) e ∙ zero_pow S.ring (length ns) ∙ sym e
        go (no n) =
            pow_suc S.ring a (length ns)
            ∙ ap (λ (x : K). a ⊗ x) (fermat ns d.1 (λ x i e. d.0 (subst (λ (w : K). In w ns) e i)) (λ x k. put_less others.1 (L.all x) k) a n) ∙ mul_one S.ring a
