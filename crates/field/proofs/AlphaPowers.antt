-- The powers of α in the symbol field: so products and inverses of codes are read off their exponents.
-- Main statements: alpha_step, alpha_code, product_by, inverse_by.
use Rattle.std.proofs.Common.{◌≡◌, ℕ, zero, suc, ◌+◌, ◌-◌, ◌<◌, true, eqb, Some, None, sym, refl, ap, ◌∙◌, ap₂, suc-add, zero-add, arith, eqb-true}
use Rattle.field.specs.Checks.{below}
use Rattle.field.specs.Ring.{RingLaws, total, power}
use Rattle.field.specs.Polynomial.{trimmed}
use Rattle.field.specs.Quotient.{digits, from_digits, reduced}
use Rattle.field.specs.Symbol.{symbol_ring, symbol_extras, alpha_power}
use Rattle.field.specs.Tables.{times_alpha}
use Rattle.field.specs.Tests.{all_below, below_at}
use Rattle.field.specs.Scalars.{zero_product, product_zero}
use Rattle.field.proofs.SymbolLaws.{symbol_laws}

L : RingLaws symbol_ring
L = symbol_laws.ring

-- the shift with a carry is the product with α, whose code is 2, at each code
shift_test : all_below 256 (λ x. eqb (times_alpha x) (symbol_ring.product 2 x)) ≡ true
unfolding all_below total trimmed below digits from_digits reduced
shift_test = refl

alpha_product : (x : ℕ) → x < 256 → times_alpha x ≡ symbol_ring.product 2 x
alpha_product x h = eqb-true (times_alpha x) (symbol_ring.product 2 x) (below_at 256 (λ x. eqb (times_alpha x) (symbol_ring.product 2 x)) shift_test x h)

pub alpha_code : (i : ℕ) → alpha_power i < 256
unfolding power
alpha_code zero = omega arith
alpha_code (suc i) = L.product_code 2 (alpha_power i)

pub alpha_step : (i : ℕ) → times_alpha (alpha_power i) ≡ alpha_power (suc i)
unfolding power
alpha_step i = alpha_product (alpha_power i) (alpha_code i)

pub alpha_one : alpha_power 0 ≡ 1
unfolding power
alpha_one = refl

-- α^n by shifts
turned : ℕ → ℕ
turned zero = 1
turned (suc n) = times_alpha (turned n)

turned_is : (n : ℕ) → turned n ≡ alpha_power n
unfolding turned
turned_is zero = sym alpha_one
turned_is (suc n) = ap times_alpha (turned_is n) ∙ alpha_step n

alpha_full : alpha_power 255 ≡ 1
unfolding turned
alpha_full = sym (turned_is 255)

-- exponents add up
alpha_sum : (i j : ℕ) → symbol_ring.product (alpha_power i) (alpha_power j) ≡ alpha_power (i + j)
unfolding power
alpha_sum zero j = L.product_comm 1 (alpha_power j) (omega arith) (alpha_code j) ∙ L.product_one (alpha_power j) (alpha_code j) ∙ ap alpha_power (sym (zero-add j))
alpha_sum (suc i) j =
    L.product_assoc 2 (alpha_power i) (alpha_power j) (omega arith) (alpha_code i) (alpha_code j) ∙ ap (symbol_ring.product 2) (alpha_sum i j) ∙ ap alpha_power (sym (suc-add i j))

-- the product of the codes with the exponents x and y
pub product_by : (a b x y : ℕ) → alpha_power x ≡ a → alpha_power y ≡ b → alpha_power (x + y) ≡ symbol_ring.product a b
product_by a b x y p q = sym (alpha_sum x y) ∙ ap₂ symbol_ring.product p q

pub product_left : (b : ℕ) → b < 256 → 0 ≡ symbol_ring.product 0 b
product_left b h = sym (zero_product symbol_ring L b h)

pub product_right : (a : ℕ) → a < 256 → 0 ≡ symbol_ring.product a 0
product_right a h = sym (product_zero symbol_ring L a h)

-- an inverse is unique
unique : (a b c : ℕ) → a < 256 → b < 256 → c < 256 → symbol_ring.product a b ≡ 1 → symbol_ring.product a c ≡ 1 → b ≡ c
unique a b c h k l e f =
    sym (L.product_one b k) ∙ ap (symbol_ring.product b) (sym f) ∙ sym (L.product_assoc b a c k h l) ∙ ap (λ x. symbol_ring.product x c) (L.product_comm b a k h ∙ e)
    ∙ L.product_comm 1 c (omega arith) l ∙ L.product_one c l

-- the inverse of the code with the exponent x
pub inverse_by : (a x : ℕ) → 0 < a → a < 256 → x < 255 → alpha_power x ≡ a → Some (alpha_power (255 - x)) ≡ symbol_extras.inverse a
inverse_by a x p h k e =
    let w = symbol_laws.inverses.some a p h in
    ap Some (unique a (alpha_power (255 - x)) w.0 h (alpha_code (255 - x)) w.2 inverts w.3) ∙ sym w.1
  where
    whole : x + (255 - x) ≡ 255
    whole = omega arith

    inverts : symbol_ring.product a (alpha_power (255 - x)) ≡ 1
    inverts = ap (λ y. symbol_ring.product y (alpha_power (255 - x))) (sym e) ∙ alpha_sum x (255 - x) ∙ ap alpha_power whole ∙ alpha_full

pub inverse_none : None ≡ symbol_extras.inverse 0
inverse_none = sym symbol_laws.inverses.none_zero
