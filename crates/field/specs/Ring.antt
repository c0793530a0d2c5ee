-- What a ring is: its order, its operations on codes, and its laws.
use Rattle.std.specs.Prelude.{◌≡◌, ℕ, zero, suc, ◌<◌, ◌≤◌, cond, nat_lt}

-- The elements are the codes 0 to order - 1. Code 0 is zero.
pub record RingMeaning : Type 0 where
  pub order : ℕ
  pub sum : ℕ → ℕ → ℕ
  pub opposite : ℕ → ℕ
  pub product : ℕ → ℕ → ℕ

-- the code of one
abbrev pub one : RingMeaning → ℕ
one m = 1

abbrev pub least_order : ℕ
least_order = 2

abbrev pub greatest_order : ℕ
greatest_order = 65536

-- All that is known of a ring. The answers are codes, and the codes are a commutative ring with one.
pub record RingLaws (m : RingMeaning) : Type 0 where
  pub order_low : least_order ≤ m.order
  pub order_high : m.order ≤ greatest_order
  pub one_code : (0 < one m) × (one m < m.order)
  pub sum_code : (a b : ℕ) → m.sum a b < m.order
  pub opposite_code : (a : ℕ) → m.opposite a < m.order
  pub product_code : (a b : ℕ) → m.product a b < m.order
  pub sum_assoc : (a b c : ℕ) → a < m.order → b < m.order → c < m.order → m.sum (m.sum a b) c ≡ m.sum a (m.sum b c)
  pub sum_comm : (a b : ℕ) → a < m.order → b < m.order → m.sum a b ≡ m.sum b a
  pub sum_zero : (a : ℕ) → a < m.order → m.sum a 0 ≡ a
  pub sum_opposite : (a : ℕ) → a < m.order → m.sum a (m.opposite a) ≡ 0
  pub product_assoc : (a b c : ℕ) → a < m.order → b < m.order → c < m.order → m.product (m.product a b) c ≡ m.product a (m.product b c)
  pub product_comm : (a b : ℕ) → a < m.order → b < m.order → m.product a b ≡ m.product b a
  pub product_one : (a : ℕ) → a < m.order → m.product a (one m) ≡ a
  pub distributes : (a b c : ℕ) → a < m.order → b < m.order → c < m.order → m.product a (m.sum b c) ≡ m.sum (m.product a b) (m.product a c)
  -- an operand that is no code gets the answer 0
  pub no_sum : (a b : ℕ) → m.order ≤ a → (m.sum a b ≡ 0) × (m.sum b a ≡ 0)
  pub no_opposite : (a : ℕ) → m.order ≤ a → m.opposite a ≡ 0
  pub no_product : (a b : ℕ) → m.order ≤ a → (m.product a b ≡ 0) × (m.product b a ≡ 0)

-- x where a is a code below q, else 0
abbrev pub at_code : ℕ → ℕ → ℕ → ℕ
at_code q a x = cond (nat_lt a q) x 0

-- operations on the codes below q; any other operand gets 0
abbrev pub on_codes : ℕ → (ℕ → ℕ → ℕ) → (ℕ → ℕ) → (ℕ → ℕ → ℕ) → RingMeaning
on_codes q sum opposite product = record {
  order = q;
  sum = λ a b. at_code q a (at_code q b (sum a b));
  opposite = λ a. at_code q a (opposite a);
  product = λ a b. at_code q a (at_code q b (product a b));
}

-- c 0 + c 1 + ... + c (n - 1)
unfoldable pub total : RingMeaning → ℕ → (ℕ → ℕ) → ℕ
total m zero c = 0
total m (suc n) c = m.sum (total m n c) (c n)

-- the n-fold sum of a
abbrev pub multiple : RingMeaning → ℕ → ℕ → ℕ
multiple m n a = total m n (λ _. a)

-- a to the power n
unfoldable pub power : RingMeaning → ℕ → ℕ → ℕ
power m a zero = one m
power m a (suc n) = m.product a (power m a n)
