-- Residues modulo a prime are a field. That a number is prime is told by the one test of its definition.
use Rattle.std.specs.Prelude.{◌≡◌, ℕ, zero, suc, ◌+◌, ◌-◌, ◌*◌, ◌/◌, ◌%◌, ◌<◌, ◌≤◌, true, not, is_some, Some, None, Option, ◌≢◌, nat_eq, nat_le}
use Rattle.std.proofs.Math.Path.{sym, ap}
use Rattle.std.proofs.Common.{◌∙◌, mod-lt, mod-eq_of_lt, mul-one, add-one, arith}
use Rattle.std.proofs.Math.Nat.{mod_self, zero-mod, mod-add-mod, add-mod, pow-zero, pow-succ', div-add-mod}
use Rattle.std.proofs.Math.Decide.{dec_le, ℕ_discrete}
use borrow.Author.Tests.{leb-true, eqb-false, clash}
use Rattle.algebra.proofs.Laws.{mul_assoc, mul_one as ring_mul_one, neg_unique, neg_⊗, ⊗_neg}
use Rattle.field.specs.Checks.{seek}
use Rattle.field.specs.Ring.{RingMeaning, RingLaws, total, multiple}
use Rattle.field.specs.Field.{FieldLaws, Characteristic}
use Rattle.field.specs.Residues.{residues, is_prime, prime_field}
use Rattle.field.specs.Tests.{both_left, both_right}
use Rattle.field.specs.Searches.{Sought, sought}
use Rattle.field.specs.OnCodes.{at_codes}
use Rattle.field.specs.ResidueRings.{residues_laws, mod_mul_mod, mul_mod_mod}
use Rattle.field.specs.Scalars.{Code, CodeRing, code_path, zero_code, unit_code, sum_codes, product_codes}
use Rattle.field.specs.Inverting.{Inverse, inverses_found}

-- what the test of a prime tells
pub record NoDivisors (p : ℕ) : Type 0 where
  pub two : 2 ≤ p
  pub divides : (d : ℕ) → 2 ≤ d → d < p → p % d ≢ 0

pub prime_by : (p : ℕ) → is_prime p ≡ true → NoDivisors p
prime_by p t = record { two = two; divides = divides (seek (λ d. nat_eq (p % d) 0) 2 (p - 2)) (both_right (nat_le 2 p) _ t) (sought (λ d. nat_eq (p % d) 0) 2 (p - 2)) }
  where
    two : 2 ≤ p
    two = leb-true 2 p (both_left (nat_le 2 p) _ t)

    divides : (r : Option ℕ) → not (is_some r) ≡ true → Sought (λ d. nat_eq (p % d) 0) 2 (p - 2) r → (d : ℕ) → 2 ≤ d → d < p → p % d ≢ 0
    divides None e s d h k z = eqb-false (p % d) 0 (s d h (omega (arith, two))) z
    divides (Some c) e s d h k z = clash e

-- n ones add up to n modulo p
ones_mod : (p n : ℕ) → 2 ≤ p → multiple (residues p) n 1 ≡ n % p
unfolding total
ones_mod p zero low = sym (zero-mod p)
ones_mod p (suc n) low =
    let pos : 0 < p = omega arith in
    ap (λ (x : ℕ). (residues p).sum x 1) (ones_mod p n low) ∙ at_codes p (n % p) 1 ((n % p + 1) % p) (mod-lt n pos) low
    ∙ mod-add-mod n p 1 ∙ ap (λ (x : ℕ). x % p) (add-one n)

residues_characteristic : (p : ℕ) → 2 ≤ p → Characteristic (residues p) p
residues_characteristic p low = record {
  positive = omega arith;
  sums_to_zero = ones_mod p p low ∙ mod_self p;
  smallest = λ n pos e. elim (dec_le p n) [ yes h ↦ h | no h ↦ absurd (omega (arith, sym (ones_mod p n low) ∙ e, mod-eq_of_lt {n = n} {m = p} (omega (arith, h)))) ];
}

module _ (p : ℕ) (N : NoDivisors p) (high : p ≤ 256) where
  abbrev m : RingMeaning
  m = residues p

  L : RingLaws m
  L = residues_laws p N.two high

  abbrev K : Type 0
  K = Code m L

  infixl 65 ◌⊕◌
  infixl 70 ◌⊗◌
  open CodeRing m L use {𝟘, 𝟙, ◌⊕◌, ◌⊗◌, neg}

  pos : 0 < p
  pos = omega (arith, N.two)

  -- the residue of a number
  residue : ℕ → K
  residue x = (x % p, mod-lt x pos)

  residue_sum : (x y : ℕ) → residue (x + y) ≡ residue x ⊕ residue y
  unfolding residue
  residue_sum x y = code_path m L (add-mod x y p ∙ sym (sum_codes m L (residue x) (residue y) ∙ at_codes p (x % p) (y % p) _ (mod-lt x pos) (mod-lt y pos)))

  residue_product : (x y : ℕ) → residue (x * y) ≡ residue x ⊗ residue y
  unfolding residue
  residue_product x y =
      code_path m L (sym (mod_mul_mod x y p) ∙ sym (mul_mod_mod (x % p) y p) ∙ sym (product_codes m L (residue x) (residue y) ∙ at_codes p (x % p) (y % p) _ (mod-lt x pos) (mod-lt y pos)))

  residue_zero : residue p ≡ 𝟘
  unfolding residue
  residue_zero = code_path m L (mod_self p ∙ sym (zero_code m L))

  residue_one : residue 1 ≡ 𝟙
  unfolding residue
  residue_one = code_path m L (mod-eq_of_lt N.two ∙ sym (unit_code m L))

  -- From p = a d + r and an inverse u of r: an inverse of a is -(d u). The remainder r is not 0, and it is smaller than a.
  step : (a d r : ℕ) → p ≡ a * d + r → (u : K) → residue r ⊗ u ≡ 𝟙 → residue a ⊗ neg (residue d ⊗ u) ≡ 𝟙
  step a d r e u w =
      ⊗_neg (CodeRing m L) (residue a) (residue d ⊗ u) ∙ ap neg (sym (mul_assoc (CodeRing m L) (residue a) (residue d) u)) ∙ sym (neg_⊗ (CodeRing m L) (residue a ⊗ residue d) u)
      ∙ ap (λ (x : K). x ⊗ u) (sym (neg_unique (CodeRing m L) (residue a ⊗ residue d) (residue r) zero)) ∙ w
    where
      zero : residue a ⊗ residue d ⊕ residue r ≡ 𝟘
      zero = ap (λ (x : K). x ⊕ residue r) (sym (residue_product a d)) ∙ sym (residue_sum (a * d) r) ∙ ap residue (sym e) ∙ residue_zero

  invertible : (n a : ℕ) → a ≤ n → 0 < a → a < p → (u : K) × (residue a ⊗ u ≡ 𝟙)
  invertible zero a h k l = absurd (omega arith)
  invertible (suc n) a h k l = elim (ℕ_discrete a 1) [
    | yes e ↦ (𝟙, ring_mul_one (CodeRing m L) (residue a) ∙ ap residue e ∙ residue_one)
    | no e ↦ smaller e (invertible n (p % a))
  ]
    where
      smaller : (a ≢ 1) → (p % a ≤ n → 0 < p % a → p % a < p → (u : K) × (residue (p % a) ⊗ u ≡ 𝟙)) → (u : K) × (residue a ⊗ u ≡ 𝟙)
      smaller e rec =
          let low : p % a < a = mod-lt p k in
          let more : 0 < p % a = elim (ℕ_discrete (p % a) 0) [ yes z ↦ absurd (N.divides a (omega (arith, e)) l z) | no z ↦ omega (arith, z) ] in
          let r = rec (omega arith) more (omega arith) in
          (neg (residue (p / a) ⊗ r.0), step a (p / a) (p % a) (sym (div-add-mod p a)) r.0 r.1)

  inverse_of : (a : ℕ) → 0 < a → a < p → (b : ℕ) × Inverse m L a b
  unfolding residue
  inverse_of a h k =
      let r = invertible a a (omega arith) h k in
      (r.0.0, (r.0.1, ap (λ (x : ℕ). m.product x r.0.0) (sym (mod-eq_of_lt k)) ∙ sym (product_codes m L (residue a) r.0) ∙ ap (λ (x : K). x.0) r.1 ∙ unit_code m L))

  pub no_divisors_field : FieldLaws (prime_field p)
  no_divisors_field = record {
    ring = L;
    characteristic = residues_characteristic p N.two;
    exponent = record { positive = omega arith; order = sym (pow-succ' p 0 ∙ ap (λ (x : ℕ). p * x) (pow-zero p) ∙ mul-one p) };
    inverses = inverses_found m L inverse_of;
  }

-- the residues modulo each prime up to 256
pub prime_field_laws : (p : ℕ) → is_prime p ≡ true → p ≤ 256 → FieldLaws (prime_field p)
prime_field_laws p t high = no_divisors_field p (prime_by p t) high
