-- The digits of a number as a loop writes them, and the number of a row as a loop sums it up.
-- Main statements: Taken, taken_more, taken_all; number_none, number_more, number_small, number_fits.
use Rattle.std.proofs.Common.{◌≡◌, ℕ, suc, ◌+◌, ◌-◌, ◌*◌, ◌/◌, ◌%◌, ◌^◌, ◌<◌, ◌≤◌, true, List, [], ◌∷◌, length, get_or, drop, set, sym, refl, ap, ◌∙◌, subst, arith, length-drop, get_or-drop, get_or-set_other, get_or-set_same, ext_get_or}
use Rattle.std.proofs.lemmas.List.{drop_all}
use native.Mathlib.Nat.{pow-le-pow_right}
use native.Mathlib.Decide.{dec_lt, ℕ_discrete}
use lib.ListN.{get_or-eq_default}
use Rattle.field.specs.Ring.{greatest_order}
use Rattle.field.specs.Quotient.{digits, from_digits}
use Rattle.field.specs.Rows.{each_below}
use Rattle.field.specs.Digits.{digits_length, number_below}
use Rattle.field.proofs.Remainders.{each_below_at}
use Rattle.field.proofs.RowSteps.{FromTop, top_none, top_more}

-- the i lowest of n digits of x are written, and those of `rest` follow them
pub record Taken (b x n : ℕ) (row : List ℕ) (i rest : ℕ) : Type 0 where
  pub done : (j : ℕ) → j < i → get_or row j 0 ≡ get_or (digits b n x) j 0
  pub next : (j : ℕ) → get_or (digits b n x) (i + j) 0 ≡ get_or (digits b (n - i) rest) j 0

digits_next : (b k x j : ℕ) → get_or (digits b (suc k) x) (suc j) 0 ≡ get_or (digits b k (x / b)) j 0
unfolding digits
digits_next b k x j = refl

digits_first : (b k x : ℕ) → get_or (digits b (suc k) x) 0 0 ≡ x % b
unfolding digits
digits_first b k x = refl

pub taken_more : (b x n : ℕ) (row : List ℕ) (i rest : ℕ) → length row ≡ n → i < n → Taken b x n row i rest → Taken b x n (set row i (rest % b)) (i + 1) (rest / b)
taken_more b x n row i rest long h t = record {
  done = λ j l. elim (ℕ_discrete j i) [
    | yes q ↦ ap (λ (k : ℕ). get_or (set row i (rest % b)) k 0) q ∙ get_or-set_same row i (rest % b) 0 (omega arith)
        ∙ sym (ap (λ (k : ℕ). get_or (digits b n x) k 0) (q ∙ at_i) ∙ t.next 0 ∙ ap (λ (k : ℕ). get_or (digits b k rest) 0 0) left ∙ digits_first b (n - (i + 1)) rest)
    | no q ↦ get_or-set_other row i j (rest % b) 0 q ∙ t.done j (omega (arith, q))
  ];
  next = λ j. ap (λ (k : ℕ). get_or (digits b n x) k 0) (over j) ∙ t.next (suc j) ∙ ap (λ (k : ℕ). get_or (digits b k rest) (suc j) 0) left ∙ digits_next b (n - (i + 1)) rest j;
}
  where
    at_i : i ≡ i + 0
    at_i = omega arith

    left : n - i ≡ suc (n - (i + 1))
    left = omega arith

    over : (j : ℕ) → i + 1 + j ≡ i + suc j
    over j = omega arith

pub taken_all : (b x n : ℕ) (row : List ℕ) (i rest : ℕ) → length row ≡ n → n ≤ i → Taken b x n row i rest → row ≡ digits b n x
taken_all b x n row i rest long h t = ext_get_or 0 row (digits b n x) (long ∙ sym (digits_length b n x)) (λ j l. t.done j (omega arith))

number_cons : (b d : ℕ) (xs : List ℕ) → from_digits b (d ∷ xs) ≡ d + b * from_digits b xs
unfolding from_digits
number_cons b d xs = refl

number_nil : (b : ℕ) → from_digits b [] ≡ 0
unfolding from_digits
number_nil b = refl

-- the number of the digits read so far, from the highest down
pub number_none : (b : ℕ) (xs : List ℕ) → 0 ≡ from_digits b (drop (length xs - 0) xs)
number_none b xs = sym (ap (from_digits b) (top_none xs) ∙ number_nil b)

pub number_more : (b m k n x : ℕ) (xs : List ℕ) → FromTop xs k x → n ≡ k + 1 → m ≡ from_digits b (drop (length xs - k) xs) → x + b * m ≡ from_digits b (drop (length xs - n) xs)
number_more b m k n x xs t next e = ap (λ (y : ℕ). x + b * y) e ∙ sym (ap (from_digits b) (top_more xs k n x t next) ∙ number_cons b x (drop (length xs - k) xs))

-- it is small
pub number_small : (b i : ℕ) (xs : List ℕ) → b ^ length xs ≤ greatest_order → each_below b xs ≡ true → from_digits b (drop i xs) < greatest_order
number_small b i [] small d = omega (arith, ap (from_digits b) (drop_all {X = ℕ} i [] (omega arith)), number_nil b)
number_small b i (y ∷ ys) small d = omega (
  arith,
  number_below b (drop i xs) (λ j. subst (λ (x : ℕ). x < b) (sym (get_or-drop i xs j 0)) (within (i + j))),
  pow-le-pow_right some {i = length (drop i xs)} {j = length xs} (omega (arith, length-drop i xs)),
)
  where
    xs : List ℕ
    xs = y ∷ ys

    some : 0 < b
    some = omega (arith, each_below_at b xs d 0 (omega arith))

    within : (j : ℕ) → get_or xs j 0 < b
    within j = elim (dec_lt j (length xs)) [ yes l ↦ each_below_at b xs d j l | no l ↦ subst (λ (x : ℕ). x < b) (sym (get_or-eq_default xs 0 (omega (arith, l)))) some ]

-- and so is what the next turn reckons
pub number_fits : (b m k x : ℕ) (xs : List ℕ) → FromTop xs k x → b ^ length xs ≤ greatest_order → each_below b xs ≡ true → m ≡ from_digits b (drop (length xs - k) xs) → x + b * m < greatest_order
number_fits b m k x xs t small d e = subst (λ (y : ℕ). y < greatest_order) (sym (number_more b m k (k + 1) x xs t refl e)) (number_small b (length xs - (k + 1)) xs small d)
