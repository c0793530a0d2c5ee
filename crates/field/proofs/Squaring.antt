-- A power by squaring: what each turn keeps, for codes and for numbers that are none.
-- Main statements: power_start, power_even, power_odd, power_end.
use Rattle.std.proofs.Common.{◌≡◌, ℕ, zero, suc, ◌+◌, ◌/◌, ◌%◌, ◌<◌, ◌≤◌, sym, refl, ap, ◌∙◌, ap₂, arith}
use native.Mathlib.Decide.{dec_lt}
use Rattle.algebra.specs.Ring.{Ring}
use Rattle.algebra.specs.Powers.{pow}
use Rattle.algebra.proofs.Powers.{mul_pow, pow_add}
use Rattle.field.specs.Ring.{RingMeaning, RingLaws, one, power}
use Rattle.field.specs.Scalars.{Code, CodeRing, product_codes, product_zero, zero_product, power_codes, power_code}

module _ (m : RingMeaning) (L : RingLaws m) where
  abbrev R : Ring (Code m L)
  R = CodeRing m L

  pub power_start : (a n : ℕ) → m.product (one m) (power m a n) ≡ power m a n
  power_start a n = L.product_comm (one m) _ L.one_code.1 (power_code m L a n) ∙ L.product_one _ (power_code m L a n)

  pub power_end : (r b n : ℕ) → r < m.order → n ≡ 0 → m.product r (power m b n) ≡ r
  unfolding power
  power_end r b n h e = ap (λ (k : ℕ). m.product r (power m b k)) e ∙ L.product_one r h

  -- a number that is no code has the power 0
  no_power : (b n : ℕ) → m.order ≤ b → 0 < n → power m b n ≡ 0
  unfolding power
  no_power b zero h p = absurd (omega arith)
  no_power b (suc n) h p = (L.no_product b _ h).0

  zero_power : (n : ℕ) → 0 < n → power m 0 n ≡ 0
  unfolding power
  zero_power zero p = absurd (omega arith)
  zero_power (suc n) p = zero_product m L _ (power_code m L 0 n)

  squared : (b : Code m L) (k : ℕ) → pow R (R.◌⊗◌ b b) k ≡ pow R b (k + k)
  squared b k = mul_pow R b b k ∙ sym (pow_add R b k k)

  no_square : (b k : ℕ) → m.order ≤ b → power m (m.product b b) k ≡ power m b (k + k)
  unfolding power
  no_square b zero h = refl
  no_square b (suc k) h = ap (λ (x : ℕ). power m x (suc k)) (L.no_product b b h).0 ∙ zero_power (suc k) (omega arith) ∙ sym (no_power b (suc k + suc k) h (omega arith))

  square_power : (b k : ℕ) → power m (m.product b b) k ≡ power m b (k + k)
  square_power b k = elim (dec_lt b m.order) [
    | yes h ↦
        ap (λ (x : ℕ). power m x k) (sym (product_codes m L (b, h) (b, h))) ∙ sym (power_codes m L k (R.◌⊗◌ (b, h) (b, h)))
        ∙ ap (λ (x : Code m L). x.0) (squared (b, h) k) ∙ power_codes m L (k + k) (b, h)
    | no h ↦ no_square b k (omega arith)
  ]

  -- an even exponent is halved, and the number squared
  pub power_even : (r b n r' b' : ℕ) → n % 2 ≡ 0 → r' ≡ r → b' ≡ m.product b b → m.product r' (power m b' (n / 2)) ≡ m.product r (power m b n)
  power_even r b n r' b' e same square =
      let s : n / 2 + n / 2 ≡ n = omega arith in
      ap₂ (λ (x y : ℕ). m.product x (power m y (n / 2))) same square ∙ ap (m.product r) (square_power b (n / 2) ∙ ap (power m b) s)

  taken_out : (r b n : ℕ) → r < m.order → n % 2 ≡ 1 → m.product (m.product r b) (power m (m.product b b) (n / 2)) ≡ m.product r (power m b n)
  unfolding power
  taken_out r b n hr e = elim (dec_lt b m.order) [
    | yes h ↦
        let s : suc (n / 2 + n / 2) ≡ n = omega arith in
        L.product_assoc r b _ hr h (power_code m L _ _) ∙ ap (m.product r) (ap (m.product b) (square_power b (n / 2)) ∙ ap (power m b) s)
    | no h ↦
        ap (λ (x : ℕ). m.product x (power m (m.product b b) (n / 2))) (L.no_product b r (omega arith)).1 ∙ zero_product m L _ (power_code m L _ _)
        ∙ sym (ap (m.product r) (no_power b n (omega arith) (omega arith)) ∙ product_zero m L r hr)
  ]

  -- an odd one takes a factor out first
  pub power_odd : (r b n r' b' : ℕ) → r < m.order → n % 2 ≡ 1 → r' ≡ m.product r b → b' ≡ m.product b b → m.product r' (power m b' (n / 2)) ≡ m.product r (power m b n)
  power_odd r b n r' b' hr e times square = ap₂ (λ (x y : ℕ). m.product x (power m y (n / 2))) times square ∙ taken_out r b n hr e
