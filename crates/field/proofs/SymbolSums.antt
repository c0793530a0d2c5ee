-- Sums and opposites in the symbol field: bits add up without carry, and each code is its own opposite.
-- Main statements: symbol_sum, symbol_opposite.
use Rattle.std.proofs.Common.{◌≡◌, ℕ, zero, suc, ◌/◌, ◌%◌, ◌<◌, true, eqb, map, get_or, sym, refl, ap, ◌∙◌, le_of_suc-le-suc, not-suc-le-zero, mod-lt, arith, ext_get_or, eqb-true}
use lib.Bits.{bit_xor, xor_lt, xor_mod, xor_shr}
use Rattle.field.specs.Checks.{below}
use Rattle.field.specs.Residues.{residues}
use Rattle.field.specs.Quotient.{digits, from_digits}
use Rattle.field.specs.Symbol.{symbol_ring}
use Rattle.field.specs.Tests.{all_below, below_at}
use Rattle.field.specs.OnCodes.{at_codes}
use Rattle.field.specs.Coefficients.{map_below_at}
use Rattle.field.specs.Digits.{digits_length, number_digits}
use Rattle.field.specs.Quotients.{row_length}
use Rattle.field.proofs.SymbolLaws.{bits_laws}

-- two bits
bit_test : all_below 2 (λ x. eqb (bit_xor x 0) ((residues 2).sum x 0)) ≡ true
unfolding all_below
bit_test = refl

bit_test_one : all_below 2 (λ x. eqb (bit_xor x 1) ((residues 2).sum x 1)) ≡ true
unfolding all_below
bit_test_one = refl

bit_sum : (x y : ℕ) → x < 2 → y < 2 → bit_xor x y ≡ (residues 2).sum x y
bit_sum x zero h k = eqb-true _ _ (below_at 2 (λ x. eqb (bit_xor x 0) ((residues 2).sum x 0)) bit_test x h)
bit_sum x (suc zero) h k = eqb-true _ _ (below_at 2 (λ x. eqb (bit_xor x 1) ((residues 2).sum x 1)) bit_test_one x h)
bit_sum x (suc (suc y)) h k = absurd (not-suc-le-zero (le_of_suc-le-suc (le_of_suc-le-suc k)))

digits_xor : (k a b i : ℕ) → i < k → get_or (digits 2 k (bit_xor a b)) i 0 ≡ (residues 2).sum (get_or (digits 2 k a) i 0) (get_or (digits 2 k b) i 0)
unfolding digits
digits_xor zero a b i h = absurd (not-suc-le-zero h)
digits_xor (suc k) a b zero h = xor_mod a b 1 ∙ bit_sum (a % 2) (b % 2) (mod-lt a (omega arith)) (mod-lt b (omega arith))
digits_xor (suc k) a b (suc i) h = ap (λ (x : ℕ). get_or (digits 2 k x) i 0) (xor_shr a b 1) ∙ digits_xor k (a / 2) (b / 2) i (le_of_suc-le-suc h)

abbrev sums : ℕ → ℕ → ℕ → ℕ
sums a b i = (residues 2).sum (get_or (digits 2 8 a) i 0) (get_or (digits 2 8 b) i 0)

pub symbol_sum : (a b : ℕ) → a < 256 → b < 256 → bit_xor a b ≡ symbol_ring.sum a b
symbol_sum a b h k =
    sym (number_digits 2 8 (bit_xor a b) (xor_lt 8 a b h k)) ∙ ap (from_digits 2) same
    ∙ sym (at_codes 256 a b (from_digits 2 (map (sums a b) (below 8))) h k)
  where
    same : digits 2 8 (bit_xor a b) ≡ map (sums a b) (below 8)
    same = ext_get_or 0 (digits 2 8 (bit_xor a b)) (map (sums a b) (below 8)) (digits_length 2 8 (bit_xor a b) ∙ sym (row_length (residues 2) bits_laws.ring 8 (sums a b)))
        (λ i l. digits_xor 8 a b i (omega (arith, l, digits_length 2 8 (bit_xor a b))) ∙ sym (map_below_at (sums a b) 8 i (omega (arith, l, digits_length 2 8 (bit_xor a b)))))

opposite_test : all_below 256 (λ x. eqb x (symbol_ring.opposite x)) ≡ true
unfolding all_below digits from_digits
opposite_test = refl

pub symbol_opposite : (a : ℕ) → a < 256 → a ≡ symbol_ring.opposite a
symbol_opposite a h = eqb-true a (symbol_ring.opposite a) (below_at 256 (λ x. eqb x (symbol_ring.opposite x)) opposite_test a h)
