-- Residues modulo n are a ring.
use Rattle.std.specs.Prelude.{◌≡◌, ℕ, ◌+◌, ◌-◌, ◌*◌, ◌/◌, ◌%◌, ◌<◌, ◌≤◌}
use Rattle.std.proofs.Common.{sym, ap, ◌∙◌, add_comm, add_assoc, mul_comm, mul_assoc, mul-add, add-mul, mul-one, add-zero, mul_right_comm, mod-lt, mod-eq_of_lt, arith}
use Rattle.std.proofs.Math.Nat.{mod-add-div', add-mul-mod_self_right, mod-add-mod, add-mod-mod, add-mod, mod_self}
use Rattle.field.specs.Ring.{RingLaws}
use Rattle.field.specs.Residues.{residues}
use Rattle.field.specs.OnCodes.{on_codes_laws}

pub mod_mul_mod : (a b n : ℕ) → (a % n * b) % n ≡ (a * b) % n
mod_mul_mod a b n = sym (ap (λ (x : ℕ). (x * b) % n) (sym (mod-add-div' a n)) ∙ ap (λ (x : ℕ). x % n) (add-mul (a % n) (a / n * n) b ∙ ap (λ (x : ℕ). a % n * b + x) (mul_right_comm (a / n) n b)) ∙ add-mul-mod_self_right (a % n * b) (a / n * b) n)

pub mul_mod_mod : (a b n : ℕ) → (a * (b % n)) % n ≡ (a * b) % n
mul_mod_mod a b n = rw (mul_comm a (b % n), mul_comm a b) (mod_mul_mod b a n)

sum_assoc : (a b c n : ℕ) → ((a + b) % n + c) % n ≡ (a + (b + c) % n) % n
sum_assoc a b c n = rw (mod-add-mod, add-mod-mod, add_assoc)

product_assoc : (a b c n : ℕ) → ((a * b) % n * c) % n ≡ (a * ((b * c) % n)) % n
product_assoc a b c n = rw (mod_mul_mod, mul_mod_mod, mul_assoc)

distributes : (a b c n : ℕ) → (a * ((b + c) % n)) % n ≡ ((a * b) % n + (a * c) % n) % n
distributes a b c n = rw (mul_mod_mod, mul-add) (add-mod (a * b) (a * c) n)

sum_opposite : (a n : ℕ) → a < n → (a + (n - a) % n) % n ≡ 0
sum_opposite a n h = let e : a + (n - a) ≡ n = omega arith in rw (add-mod-mod, e, mod_self)

pub residues_laws : (n : ℕ) → 2 ≤ n → n ≤ 256 → RingLaws (residues n)
residues_laws n low high =
    let pos : 0 < n = omega arith in
    on_codes_laws n _ _ _ (record {
      low = low;
      high = omega arith;
      sum_code = λ a b _ _. mod-lt (a + b) pos;
      opposite_code = λ a _. mod-lt (n - a) pos;
      product_code = λ a b _ _. mod-lt (a * b) pos;
      sum_assoc = λ a b c _ _ _. sum_assoc a b c n;
      sum_comm = λ a b _ _. ap (λ (x : ℕ). x % n) (add_comm a b);
      sum_zero = λ a h. rw add-zero (mod-eq_of_lt h);
      sum_opposite = λ a h. sum_opposite a n h;
      product_assoc = λ a b c _ _ _. product_assoc a b c n;
      product_comm = λ a b _ _. ap (λ (x : ℕ). x % n) (mul_comm a b);
      product_one = λ a h. rw mul-one (mod-eq_of_lt h);
      distributes = λ a b c _ _ _. distributes a b c n;
    })
