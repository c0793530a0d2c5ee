-- What each kind of step on a polynomial over a finite field finds:
-- its p-th root, a proper divisor, or that it is irreducible.
-- Main statements: p_root, p_root_power, p_root_size, p_root_monic, der_splits, some_shift, shift_splits, settles, least_or_settled.
use Rattle.std.proofs.Common.{◌≡◌, ℕ, zero, suc, pred, ◌*◌, ◌/◌, ◌^◌, ◌<◌, ◌≤◌, ◌⊎◌, ◌↔◌, sym, refl, ap, ◌∙◌, inl, inr, pow-suc, mul-div_cancel, arith}
use native.Mathlib.Nat.{pow-zero}
use Rattle.algebra.specs.Ring.{Scalars}
use Rattle.algebra.specs.Powers.{Prime, pow}
use Rattle.algebra.specs.Finite.{FiniteField}
use Rattle.algebra.proofs.Poly.{Poly, Polys, size}
use Rattle.algebra.proofs.Monic.{Monic}
use Rattle.algebra.proofs.Characteristic.{prime_characteristic}
use Rattle.algebra.proofs.Frobenius.{number_power_pos}
use Rattle.algebra.proofs.Finite.{own_power, order_two}
use Rattle.algebra.proofs.Root.{root, root_coef, root_power, root_size, root_monic, only_multiples}
use Rattle.algebra.proofs.Gcd.{Gcd, Shares, coprime_of}
use Rattle.algebra.proofs.Derivative.{der, gcd_der_smaller, cofactor_proper}
use Rattle.algebra.proofs.Irreducible.{Irreducible, Splits}
use Rattle.algebra.proofs.Linear.{minus}
use Rattle.algebra.proofs.Remainder.{field_leading}
use Rattle.algebra.proofs.FixedSpace.{Least, least_exists, splitter_or_none}
use Rattle.algebra.proofs.Berlekamp.{Fixed, Splitter, berlekamp, shift_shares, shift_smaller}

module _ {K : Type 0} {S : Scalars K} (E : FiniteField S) where
  pub prime_p : Prime E.p
  prime_p = prime_characteristic E.field E.p E.characteristic

  -- q / p
  pub share : ℕ
  share = E.p ^ pred E.j

  pub share_order : share * E.p ≡ E.q
  unfolding share
  share_order = go E.j refl
    where
      go : (n : ℕ) → E.j ≡ n → E.p ^ pred E.j * E.p ≡ E.q
      go zero e = absurd (omega (arith, order_two E.field E.q E.listing, E.order ∙ ap (λ (k : ℕ). E.p ^ k) e ∙ pow-zero E.p))
      go (suc n) e = ap (λ (k : ℕ). E.p ^ pred k * E.p) e ∙ sym (E.order ∙ ap (λ (k : ℕ). E.p ^ k) e ∙ pow-suc E.p n)

  pub share_is : share ≡ E.q / E.p
  share_is = sym (ap (λ (n : ℕ). n / E.p) (sym share_order) ∙ mul-div_cancel share E.characteristic.positive)

  share_pos : 1 ≤ share
  unfolding share
  share_pos = number_power_pos E.p (pred E.j) E.characteristic.positive

  share_own : (a : K) → pow S.ring a (share * E.p) ≡ a
  share_own a = ap (pow S.ring a) share_order ∙ own_power E.field E.q E.listing a

  -- kind 1: the derivative is zero, and the polynomial is the p-th power of its root
  pub p_root : Poly S → Poly S
  p_root f = root E.p prime_p E.characteristic.vanishes share share_pos share_own f

  pub p_root_coef : (f : Poly S) (i : ℕ) → (p_root f).coef i ≡ pow S.ring (f.coef (i * E.p)) share
  unfolding p_root
  p_root_coef f i = root_coef E.p prime_p E.characteristic.vanishes share share_pos share_own f i

  pub p_root_power : (f : Poly S) → der f ≡ (Polys S).𝟘 → pow (Polys S) (p_root f) E.p ≡ f
  unfolding p_root
  p_root_power f e = root_power E.p prime_p E.characteristic.vanishes share share_pos share_own f (only_multiples E.field E.p E.characteristic f e)

  pub p_root_size : (f : Poly S) (d : ℕ) → size f ≡ suc d → der f ≡ (Polys S).𝟘 → (m : ℕ) × (size (p_root f) ≡ suc m) × (d ≡ m * E.p)
  unfolding p_root
  p_root_size f d s e = root_size E.field E.p share prime_p E.characteristic.vanishes share_pos share_own f d s (p_root_power f e)

  pub p_root_monic : (f : Poly S) → Monic f → der f ≡ (Polys S).𝟘 → Monic (p_root f)
  unfolding p_root
  p_root_monic f m e = root_monic E.field E.p share prime_p E.characteristic.vanishes share_pos share_own f m (p_root_power f e)

  -- kind 2: the common divisor with the derivative has positive degree
  pub der_splits : (f : Poly S) → (der f ≡ (Polys S).𝟘 → ⊥) → (c : Gcd f (der f)) → 2 ≤ size c.gcd → Splits f
  der_splits f n c h = let w = cofactor_proper E.field f c.left.0 c.gcd c.left.1 h (gcd_der_smaller E.field f n c) in
      record { left = c.left.0; right = c.gcd; product = c.left.1; left_positive = w.0; right_positive = h }

  -- kind 3: the least fixed polynomial, if its degree is below that of f, has a shift that splits f
  pub shift_splits : (f v : Poly S) (w : K) → 2 ≤ size v → size v < size f → (c : Gcd f (minus S v w)) → 2 ≤ size c.gcd → Splits f
  shift_splits f v w h l c k = let r = cofactor_proper E.field f c.left.0 c.gcd c.left.1 k (shift_smaller E.field E.q E.listing f v w h l c) in
      record { left = c.left.0; right = c.gcd; product = c.left.1; left_positive = r.0; right_positive = k }

  pub some_shift : (f v : Poly S) → 2 ≤ size f → Fixed E.q f v → (w : K) × Shares f (minus S v w)
  some_shift f v h d = shift_shares E.field E.q E.listing f v h d

  -- kind 4: no fixed polynomial of positive degree below that of f
  pub settles : (f : Poly S) → 2 ≤ size f → (c : Gcd f (der f)) → size c.gcd ≡ 1 → Irreducible f ↔ (Splitter E.q f → ⊥)
  settles f h c e = berlekamp E.field E.q E.listing f h (coprime_of E.field f (der f) c e)

  -- kinds 3 and 4: either the least fixed polynomial is there, or f is irreducible
  pub least_or_settled : (f : Poly S) → 2 ≤ size f → (c : Gcd f (der f)) → size c.gcd ≡ 1 → ((v : Poly S) × Least E f v) ⊎ Irreducible f
  least_or_settled f h c e = go (splitter_or_none E f (field_leading E.field f (omega arith)))
    where
      go : Splitter E.q f ⊎ (Splitter E.q f → ⊥) → ((v : Poly S) × Least E f v) ⊎ Irreducible f
      go (inl s) = inl (least_exists E f (field_leading E.field f (omega arith)) s)
      go (inr n) = inr ((settles f h c e).1 n)
