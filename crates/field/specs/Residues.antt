-- Residues modulo n, and prime fields.
use Rattle.std.specs.Prelude.{ℕ, zero, suc, ◌+◌, ◌-◌, ◌*◌, ◌%◌, Bool, cond, not, ◌&&◌, List, [], ◌∷◌, ◌++◌, is_some, nat_eq, nat_le}
use Rattle.field.specs.Checks.{seek}
use Rattle.field.specs.Ring.{RingMeaning, on_codes}
use Rattle.field.specs.Field.{FieldMeaning, FieldExtras, means, inverse_in}

abbrev pub least_modulus : ℕ
least_modulus = 2

abbrev pub greatest_modulus : ℕ
greatest_modulus = 256

-- sums and products of numbers below n, less the multiples of n
abbrev pub residues : ℕ → RingMeaning
residues n = on_codes n (λ a b. (a + b) % n) (λ a. (n - a) % n) (λ a b. (a * b) % n)

-- n is 2 or more, and none of 2 to n - 1 divides it
abbrev pub is_prime : ℕ → Bool
is_prime n = nat_le 2 n && not (is_some (seek (λ d. nat_eq (n % d) 0) 2 (n - 2)))

-- the primes below n, the smallest first
unfoldable pub primes_below : ℕ → List ℕ
primes_below zero = []
primes_below (suc n) = primes_below n ++ cond (is_prime n) (n ∷ []) []

abbrev pub prime_extras : ℕ → FieldExtras
prime_extras p = record { characteristic = p; exponent = 1; inverse = inverse_in (residues p) }

abbrev pub prime_field : ℕ → FieldMeaning
prime_field p = means (residues p) (prime_extras p)
