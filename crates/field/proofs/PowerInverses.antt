-- In a field of q elements the inverse of a code but 0 is its power q - 2, and the exponent is small.
-- Main statements: inverse_is_power, exponent_small.
use Rattle.std.proofs.Common.{◌≡◌, ℕ, zero, suc, ◌-◌, ◌^◌, ◌<◌, ◌≤◌, Some, Option, sym, refl, ap, ◌∙◌, pow-suc as power_suc, mul-one as times_one, arith}
use native.Mathlib.Decide.{dec_lt}
use native.Mathlib.Nat.{pow-le-pow_left, pow-le-pow_right}
use Rattle.algebra.specs.Powers.{pow}
use Rattle.algebra.proofs.Laws.{mul_one}
use Rattle.algebra.proofs.Powers.{pow_suc}
use Rattle.algebra.proofs.Size.{cancel_scalar}
use Rattle.algebra.proofs.Finite.{own_power}
use Rattle.field.specs.Ring.{RingMeaning, one, power}
use Rattle.field.specs.Field.{FieldMeaning, FieldLaws}
use Rattle.field.specs.Scalars.{Code, CodeRing, code_path, code_field, zero_code, unit_code, product_codes, power_codes, power_code, listing_below}

one_power : (n : ℕ) → 1 ^ n ≡ 1
one_power zero = refl
one_power (suc n) = power_suc 1 n ∙ times_one (1 ^ n) ∙ one_power n

module _ (F : FieldMeaning) (L : FieldLaws F) where
  abbrev m : RingMeaning
  m = F.ring

  abbrev q : ℕ
  q = F.ring.order

  module _ (a : ℕ) (positive : 0 < a) (code : a < q) where
    abbrev x : Code m L.ring
    x = (a, code)

    nonzero : x ≡ (CodeRing m L.ring).𝟘 → ⊥
    nonzero e = absurd (omega (arith, positive, ap (λ (y : Code m L.ring). y.0) e ∙ zero_code m L.ring))

    -- a code but 0 to the power q - 1 is one
    unit_power : pow (CodeRing m L.ring) x (q - 1) ≡ (CodeRing m L.ring).𝟙
    unit_power = cancel_scalar (code_field F L) x _ _ nonzero (
        sym (pow_suc (CodeRing m L.ring) x (q - 1)) ∙ ap (pow (CodeRing m L.ring) x) counts ∙ own_power (code_field F L) q (listing_below q) x ∙ sym (mul_one (CodeRing m L.ring) x))
      where
        counts : suc (q - 1) ≡ q
        counts = omega (arith, L.ring.order_low)

    power_inverts : m.product a (power m a (q - 2)) ≡ one m
    power_inverts =
        ap (m.product a) (sym (power_codes m L.ring (q - 2) x)) ∙ sym (product_codes m L.ring x _)
        ∙ ap (λ (y : Code m L.ring). y.0) (sym (pow_suc (CodeRing m L.ring) x (q - 2)) ∙ ap (pow (CodeRing m L.ring) x) counts ∙ unit_power) ∙ unit_code m L.ring
      where
        counts : suc (q - 2) ≡ q - 1
        counts = omega (arith, L.ring.order_low)

    -- there is one inverse only
    only : (b c : ℕ) → b < q → c < q → m.product a b ≡ one m → m.product a c ≡ one m → b ≡ c
    only b c hb hc e f = ap (λ (y : Code m L.ring). y.0)
        (cancel_scalar (code_field F L) x (b, hb) (c, hc) nonzero (code_path m L.ring (product_codes m L.ring x (b, hb) ∙ e ∙ sym f ∙ sym (product_codes m L.ring x (c, hc)))))

    pub inverse_is_power : F.inverse a ≡ Some (power m a (q - 2))
    inverse_is_power =
        let i = L.inverses.some a positive code in
        i.1 ∙ ap {B = Option ℕ} Some (only i.0 (power m a (q - 2)) i.2 (power_code m L.ring a (q - 2)) i.3 power_inverts)

  -- the characteristic is 2 or more
  prime_two : 2 ≤ F.characteristic
  prime_two = elim (dec_lt 1 F.characteristic) [
    | yes h ↦ h
    | no h ↦
        let e : F.characteristic ≡ 1 = omega (arith, h, L.characteristic.positive) in
        absurd (omega (arith, L.ring.order_low, L.exponent.order ∙ ap (λ (p : ℕ). p ^ F.exponent) e ∙ one_power F.exponent))
  ]

  pub exponent_small : F.exponent ≤ 16
  exponent_small = elim (dec_lt 16 F.exponent) [
    | yes h ↦ absurd (omega (arith, L.ring.order_high, L.exponent.order, pow-le-pow_left prime_two F.exponent, pow-le-pow_right {n = 2} (omega arith) h))
    | no h ↦ omega arith
  ]
