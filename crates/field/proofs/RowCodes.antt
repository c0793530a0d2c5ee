-- Rows of k codes as the digits of codes of a quotient.
-- Main statements: row_codes; sum_number, opposite_number; digits_suit, product_codes, product_number.
use Rattle.std.proofs.Common.{◌≡◌, ℕ, ◌^◌, ◌<◌, ◌≤◌, true, List, map, length, get_or, take, replicate, sym, ap, ◌∙◌, subst, ap₂, arith, length-take-le, ext_get_or}
use lib.ListN.{length-map, get_or-map}
use Rattle.field.specs.Checks.{below}
use Rattle.field.specs.Ring.{RingMeaning, RingLaws}
use Rattle.field.specs.Polynomial.{coefficient, product}
use Rattle.field.specs.Quotient.{greatest_height, digits, from_digits, reduced, reduced_by, quotient_ring}
use Rattle.field.specs.Rows.{IsRow, each_below, rows_suit}
use Rattle.field.specs.Digits.{digits_length, digits_below, number_digits}
use Rattle.field.specs.OnCodes.{at_codes, at_a_code}
use Rattle.field.specs.Scalars.{zero_is_code, opposite_zero}
use Rattle.field.proofs.Remainders.{each_below_all, reduced_by_coded, suits}
use Rattle.field.proofs.Rows.{row_is}

-- the first k of sixteen zeros
pub zeros_long : (n k : ℕ) → n ≡ k → k ≤ greatest_height → length {A = ℕ} (take n (replicate greatest_height 0)) ≡ k
zeros_long n k e h = length-take-le {A = ℕ} n (replicate greatest_height 0) (omega (arith, e, h)) ∙ e

module _ (r : RingMeaning) (L : RingLaws r) (k : ℕ) where
  abbrev q : ℕ
  q = r.order ^ k

  -- rows of codes
  pub digit_codes : (x : ℕ) (xs : List ℕ) → xs ≡ digits r.order k x → (i : ℕ) → i < length xs → get_or xs i 0 < r.order
  digit_codes x xs e i h = subst (λ (ys : List ℕ). coefficient ys i < r.order) (sym e) (digits_below r.order k x (zero_is_code r L) i)

  pub row_codes : (xs : List ℕ) (n : ℕ) (c : ℕ → ℕ) → IsRow xs n c → ((i : ℕ) → c i < r.order) → each_below r.order xs ≡ true
  row_codes xs n c s h = each_below_all r.order xs (λ i l. subst (λ (x : ℕ). x < r.order) (sym (s.at i (omega (arith, l, s.sized)))) (h i))

  -- the operations on codes by their digits
  pub sum_number : (m a b n : ℕ) (left right xs : List ℕ) → left ≡ digits r.order k a → right ≡ digits r.order k b → IsRow xs n (λ i. r.sum (get_or left i 0) (get_or right i 0)) → n ≡ k →
      a < q → b < q → from_digits r.order xs ≡ (quotient_ring r k m).sum a b
  sum_number m a b n left right xs e f s t h l =
      ap (from_digits r.order) (row_is xs n _ s ∙ ap (λ (j : ℕ). map (λ i. r.sum (get_or left i 0) (get_or right i 0)) (below j)) t ∙ ap₂ (λ (x y : List ℕ). map (λ i. r.sum (get_or x i 0) (get_or y i 0)) (below k)) e f)
      ∙ sym (at_codes q a b _ h l)

  pub opposite_number : (m a n : ℕ) (row xs : List ℕ) → row ≡ digits r.order k a → IsRow xs n (λ i. r.opposite (get_or row i 0)) → n ≡ k → a < q → from_digits r.order xs ≡ (quotient_ring r k m).opposite a
  opposite_number m a n row xs e s t h =
      ap (from_digits r.order) (ext_get_or 0 xs (map r.opposite (digits r.order k a)) (s.sized ∙ t ∙ sym (length-map (digits r.order k a) r.opposite ∙ digits_length r.order k a))
      (λ i l. s.at i (omega (arith, l, s.sized)) ∙ ap (λ (x : List ℕ). r.opposite (get_or x i 0)) e
      ∙ sym (ap (get_or (map r.opposite (digits r.order k a)) i) (sym (opposite_zero r L)) ∙ get_or-map r.opposite (digits r.order k a) i 0)))
      ∙ sym (at_a_code q a _ h)

  module _ (m : ℕ) (lower : List ℕ) (is : lower ≡ digits r.order k m) where
    lower_long : length lower ≡ k
    lower_long = ap length is ∙ digits_length r.order k m

    -- rows of digits suit for a product
    pub digits_suit : (a b : ℕ) (left right row : List ℕ) → 1 ≤ k → left ≡ digits r.order k a → right ≡ digits r.order k b → length row ≡ k → rows_suit r lower left right row ≡ true
    digits_suit a b left right row some e f long = suits r lower left right row (record {
      some = omega (arith, long, some);
      lower_long = lower_long ∙ sym long;
      left_long = ap length e ∙ digits_length r.order k a ∙ sym long;
      right_long = ap length f ∙ digits_length r.order k b ∙ sym long;
      lower_codes = digit_codes m lower is;
      left_codes = digit_codes a left e;
      right_codes = digit_codes b right f;
    })

    module _ (f xs : List ℕ) (s : xs ≡ reduced_by r lower f) where
      pub product_codes : each_below r.order xs ≡ true
      product_codes = each_below_all r.order xs (λ i h. subst (λ (ys : List ℕ). get_or ys i 0 < r.order) (sym s) (reduced_by_coded r L lower f i))

    pub product_number : (a b : ℕ) (left right xs : List ℕ) → left ≡ digits r.order k a → right ≡ digits r.order k b → xs ≡ reduced_by r lower (product r left right) →
        m < q → a < q → b < q → from_digits r.order xs ≡ (quotient_ring r k m).product a b
    product_number a b left right xs e f s small h l =
        ap (from_digits r.order)
        (s ∙ ap₂ (λ (i n : ℕ). reduced r i n (product r left right)) lower_long (ap (from_digits r.order) is ∙ number_digits r.order k m small) ∙ ap₂ (λ (x y : List ℕ). reduced r k m (product r x y)) e f)
        ∙ sym (at_codes q a b _ h l)
