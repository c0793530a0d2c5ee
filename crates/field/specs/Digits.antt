-- Numbers below b^k and lists of k digits in base b, the lowest first: one to one.
use Rattle.std.specs.Prelude.{◌≡◌, ℕ, zero, suc, ◌+◌, ◌*◌, ◌/◌, ◌%◌, ◌^◌, ◌<◌, ◌≤◌, List, [], ◌∷◌, length, slice_index, refl}
use Rattle.std.proofs.Common.{ap, ap₂, ◌∙◌, mul-le-mul_left, mod-lt, mod-eq_of_lt, arith}
use Rattle.std.proofs.Math.Nat.{pow-zero, pow-succ', zero-mod}
use Rattle.std.proofs.Math.Decide.{dec_le}
use Rattle.field.specs.Quotient.{digits, from_digits}

-- division of x + b * z by b, for x below b
pub div_of : (b x z : ℕ) → x < b → (x + b * z) / b ≡ z
div_of b x z h = by ((x + b * z) / b) (omega arith) (omega arith)
  where
    by : (d : ℕ) → b * d ≤ x + b * z → x + b * z < b * d + b → d ≡ z
    by d p q = go (dec_le (suc d) z) (dec_le (suc z) d)
      where
        go : Dec (suc d ≤ z) → Dec (suc z ≤ d) → d ≡ z
        go (yes k) l = absurd (omega (arith, mul-le-mul_left b k))
        go (no k) (yes l) = absurd (omega (arith, mul-le-mul_left b l))
        go (no k) (no l) = omega arith

pub mod_of : (b x z : ℕ) → x < b → (x + b * z) % b ≡ x
mod_of b x z h = omega (arith, div_of b x z h, ap (λ (d : ℕ). b * d) (div_of b x z h))

div_below : (b a c : ℕ) → a < b * c → a / b < c
div_below b a c h = go (dec_le c (a / b))
  where
    go : Dec (c ≤ a / b) → a / b < c
    go (yes k) = absurd (omega (arith, mul-le-mul_left b k))
    go (no k) = omega arith

pub digits_length : (b k x : ℕ) → length (digits b k x) ≡ k
unfolding digits
digits_length b zero x = refl
digits_length b (suc k) x = ap suc (digits_length b k (x / b))

pub digits_below : (b k x : ℕ) → 0 < b → (i : ℕ) → slice_index (digits b k x) i < b
unfolding digits
digits_below b zero x h i = h
digits_below b (suc k) x h zero = mod-lt x h
digits_below b (suc k) x h (suc i) = digits_below b k (x / b) h i

pub number_below : (b : ℕ) (xs : List ℕ) → ((i : ℕ) → slice_index xs i < b) → from_digits b xs < b ^ length xs
unfolding from_digits
number_below b [] h = omega (arith, pow-zero b)
number_below b (x ∷ xs) h = omega (arith, pow-succ' b (length xs), h 0, mul-le-mul_left b (number_below b xs (λ i. h (suc i))))

pub digits_number : (b : ℕ) (xs : List ℕ) → ((i : ℕ) → slice_index xs i < b) → digits b (length xs) (from_digits b xs) ≡ xs
unfolding digits from_digits
digits_number b [] h = refl
digits_number b (x ∷ xs) h =
    ap₂ ◌∷◌ (mod_of b x (from_digits b xs) (h 0)) (ap (digits b (length xs)) (div_of b x (from_digits b xs) (h 0)) ∙ digits_number b xs (λ i. h (suc i)))

pub number_digits : (b k x : ℕ) → x < b ^ k → from_digits b (digits b k x) ≡ x
unfolding digits from_digits
number_digits b zero x h = omega (arith, pow-zero b)
number_digits b (suc k) x h =
    ap (λ (y : ℕ). x % b + b * y) (number_digits b k (x / b) (div_below b x (b ^ k) (omega (arith, pow-succ' b k)))) ∙ omega arith

-- the digits of 0 and of 1
pub digits_zero : (b k i : ℕ) → slice_index (digits b k 0) i ≡ 0
unfolding digits
digits_zero b zero i = refl
digits_zero b (suc k) zero = zero-mod b
digits_zero b (suc k) (suc i) = ap (λ (x : ℕ). slice_index (digits b k x) i) (omega arith) ∙ digits_zero b k i

pub digits_one_first : (b k : ℕ) → 2 ≤ b → 1 ≤ k → slice_index (digits b k 1) 0 ≡ 1
unfolding digits
digits_one_first b zero h l = absurd (omega arith)
digits_one_first b (suc k) h l = mod-eq_of_lt h

pub digits_one_next : (b k i : ℕ) → 2 ≤ b → slice_index (digits b k 1) (suc i) ≡ 0
unfolding digits
digits_one_next b zero i h = refl
digits_one_next b (suc k) i h = ap (λ (x : ℕ). slice_index (digits b k x) i) (one_less (1 / b) (omega arith)) ∙ digits_zero b k i
  where
    one_less : (d : ℕ) → b * d ≤ 1 → d ≡ 0
    one_less zero l = refl
    one_less (suc d) l = absurd (omega (arith, h))
