-- What a search for the first number that passes a test has found.
-- Main statements: sought; first_found, none_found, found_below.
use Rattle.std.specs.Prelude.{◌≡◌, ℕ, zero, suc, ◌+◌, ◌<◌, ◌≤◌, Bool, true, false, Some, None, Option, refl}
use Rattle.std.proofs.Common.{sym, ◌∙◌, ap, inl, inr, eq-or-lt_of_le, cond, add-one, arith}
use Rattle.std.specs.List.{find, range_with_len}
use Rattle.std.proofs.Math.Decide.{dec_lt}
use borrow.Author.Tests.{clash}
use Rattle.field.specs.Checks.{seek, first_below}

-- each of `count` numbers from `from` on fails the test, or the one found is the first that passes it
abbrev pub Sought : (ℕ → Bool) → ℕ → ℕ → Option ℕ → Type 0
Sought test from count None = (i : ℕ) → from ≤ i → i < from + count → test i ≡ false
Sought test from count (Some k) = (from ≤ k) × (k < from + count) × (test k ≡ true) × ((i : ℕ) → from ≤ i → i < k → test i ≡ false)

one_more : (test : ℕ → Bool) (from count : ℕ) → test from ≡ false → (o : Option ℕ) → Sought test (suc from) count o → Sought test from (suc count) o
one_more test from count e None s = λ i l h. elim (eq-or-lt_of_le l) [ inl p ↦ ap test (sym p) ∙ e | inr j ↦ s i j (omega arith) ]
one_more test from count e (Some k) s =
    (omega (arith, s.0), omega (arith, s.1), s.2, λ i l h. elim (eq-or-lt_of_le l) [ inl p ↦ ap test (sym p) ∙ e | inr j ↦ s.3 i j h ])

found : (test : ℕ → Bool) (from count : ℕ) (b : Bool) (o : Option ℕ) → test from ≡ b → Sought test (suc from) count o →
    Sought test from (suc count) (elim b [ true ↦ Some from | false ↦ o ])
found test from count true o e s = (omega arith, omega arith, e, λ i l h. absurd (omega arith))
found test from count false o e s = one_more test from count e o s

pub sought : (test : ℕ → Bool) (from count : ℕ) → Sought test from count (seek test from count)
unfolding seek
sought test from zero = λ i l h. absurd (omega arith)
sought test from (suc count) = found test from count (test from) (seek test (suc from) count) refl (sought test (suc from) count)

-- the first number below n that passes the test is found
pub first_found : (n : ℕ) (test : ℕ → Bool) (k : ℕ) → k < n → ((i : ℕ) → i < k → test i ≡ false) → test k ≡ true → first_below n test ≡ Some k
first_found n test k l h t = go (first_below n test) (sought test 0 n)
  where
    go : (o : Option ℕ) → Sought test 0 n o → o ≡ Some k
    go None s = absurd (clash (sym (s k (omega arith) (omega arith)) ∙ t))
    go (Some j) s = elim (dec_lt j k) [
      | yes a ↦ absurd (clash (sym (h j a) ∙ s.2))
      | no a ↦ elim (dec_lt k j) [
        | yes b ↦ absurd (clash (sym (s.3 k (omega arith) b) ∙ t))
        | no b ↦ let e : j ≡ k = omega arith in ap Some e
      ]
    ]

-- where each number below n fails the test, none is found
pub none_found : (n : ℕ) (test : ℕ → Bool) → ((i : ℕ) → i < n → test i ≡ false) → first_below n test ≡ None
none_found n test h = go (first_below n test) (sought test 0 n)
  where
    go : (o : Option ℕ) → Sought test 0 n o → o ≡ None
    go None s = refl
    go (Some j) s = absurd (clash (sym (h j (omega (arith, s.1))) ∙ s.2))

picked : {A : Type 0} (b : Bool) (a : A) (o p : Option A) → o ≡ p → cond b (Some a) o ≡ elim b [ true ↦ Some a | false ↦ p ]
picked true a o p e = refl
picked false a o p e = e

found_from : (test : ℕ → Bool) (from count : ℕ) → find test (range_with_len from count) ≡ seek test from count
unfolding seek
found_from test from zero = refl
found_from test from (suc count) = picked (test from) from _ _ (ap (λ (i : ℕ). find test (range_with_len i count)) (add-one from) ∙ found_from test (suc from) count)

-- the first of 0 to n - 1 that passes the test
pub found_below : (n : ℕ) (test : ℕ → Bool) → find test (range_with_len 0 n) ≡ first_below n test
found_below n test = found_from test 0 n
