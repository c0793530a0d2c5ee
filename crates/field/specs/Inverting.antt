-- The search for an inverse finds one wherever there is one, and no other number gets an answer; what an answer tells.
-- Main statements: inverses_found; inverse_found, inverse_stands.
use Rattle.std.specs.Prelude.{◌≡◌, ℕ, ◌<◌, Some, None, Option, nat_eq, refl}
use Rattle.std.proofs.Common.{subst, zero-le, arith, eqb-true}
use Rattle.std.proofs.lemmas.Bool.{eqb-false}
use Rattle.field.specs.Ring.{RingMeaning, RingLaws, one}
use Rattle.field.specs.Field.{Inverses, inverse_in}
use Rattle.field.specs.Searches.{Sought, sought}
use Rattle.field.specs.Scalars.{zero_product}

module _ (m : RingMeaning) (L : RingLaws m) where
  -- b is an inverse of a
  abbrev pub Inverse : ℕ → ℕ → Type 0
  Inverse a b = (b < m.order) × (m.product a b ≡ one m)

  found : (a b : ℕ) → Inverse a b → (r : Option ℕ) → inverse_in m a ≡ r → Sought (λ x. nat_eq (m.product a x) (one m)) 0 m.order r → (c : ℕ) × (inverse_in m a ≡ Some c) × Inverse a c
  found a b w None e k = absurd (eqb-false (m.product a b) (one m) (k b zero-le (omega (arith, w.0))) w.1)
  found a b w (Some c) e k = (c, e, (omega (arith, k.1), eqb-true (m.product a c) (one m) k.2))

  missed : (a : ℕ) → ((b : ℕ) → b < m.order → m.product a b ≡ 0) → (r : Option ℕ) → inverse_in m a ≡ r → Sought (λ x. nat_eq (m.product a x) (one m)) 0 m.order r → inverse_in m a ≡ None
  missed a z None e k = e
  missed a z (Some c) e k = absurd (omega (arith, z c (omega (arith, k.1)), eqb-true (m.product a c) (one m) k.2))

  pub inverses_found : ((a : ℕ) → 0 < a → a < m.order → (b : ℕ) × Inverse a b) → Inverses m (inverse_in m)
  inverses_found h = record {
    some = λ a p q.
        let w = h a p q in
        let r = found a w.0 w.1 (inverse_in m a) refl (sought (λ x. nat_eq (m.product a x) (one m)) 0 m.order) in
        (r.0, r.1, r.2.0, r.2.1);
    none_zero = missed 0 (zero_product m L) (inverse_in m 0) refl (sought (λ x. nat_eq (m.product 0 x) (one m)) 0 m.order);
    none = λ a p. missed a (λ b q. (L.no_product a b p).0) (inverse_in m a) refl (sought (λ x. nat_eq (m.product a x) (one m)) 0 m.order);
  }

-- what the answer for a code but 0 tells
module _ (m : RingMeaning) (inverse : ℕ → Option ℕ) (laws : Inverses m inverse) (a : ℕ) (positive : 0 < a) (code : a < m.order) where
  pub inverse_found : (u : ℕ) → Some u ≡ inverse a → (u < m.order) × (m.product a u ≡ one m)
  inverse_found u e =
      let i = laws.some a positive code in
      let same : i.0 ≡ u = cc in
      (subst (λ (x : ℕ). x < m.order) same i.2, subst (λ (x : ℕ). m.product a x ≡ one m) same i.3)

  pub inverse_stands : None ≡ inverse a → ⊥
  inverse_stands e =
      let i = laws.some a positive code in
      let z : ◌≡◌ {A = ℕ} 0 1 = cc in
      omega arith
