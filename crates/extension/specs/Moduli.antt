-- The modulus of an extension as a row of codes, and what the answer of the splitting step tells of it.
-- Main statements: digits_set, row_modulus; modulus_taken, modulus_room; told.
use Rattle.std.specs.Prelude.{◌≡◌, ℕ, zero, suc, ◌+◌, ◌-◌, ◌*◌, ◌/◌, ◌%◌, ◌≤◌, not, List, [], ◌∷◌, ◌++◌, length, take, MatchBool, ◌==◌, ◌≢◌, slice_set, refl}
use Rattle.std.proofs.Common.{sym, ap, ◌∙◌, subst, mul-le-mul, arith, length-take-le}
use Rattle.field.specs.Ring.{RingMeaning, RingLaws}
use Rattle.field.specs.Field.{FieldMeaning}
use Rattle.field.specs.Polynomial.{coefficient, degree}
use Rattle.field.specs.Quotient.{digits, modulus}
use Rattle.field.specs.Ranges.{InRange}
use Rattle.field.specs.Quotients.{modulus_length, modulus_top, modulus_canonical}
use Rattle.split.specs.Splitting.{Splitting, root, repeated, shifted, whole, SplitsInto, answer, scratch_size}
use Rattle.split.specs.Calls.{Taken}

-- one digit more, with another number in its place
pub digits_set : (b k x y : ℕ) → slice_set (digits b (suc k) x) k y ≡ digits b k x ++ y ∷ []
unfolding digits
digits_set b zero x y = refl
digits_set b (suc k) x y = ap (λ (r : List ℕ). x % b ∷ r) (digits_set b k (x / b) y)

-- the modulus, written over the first codes of a buffer
pub row_modulus : (r : RingMeaning) (k n : ℕ) (xs row : List ℕ) → row ≡ modulus r (length (take (k + 1) xs) - 1) n → k + 1 ≤ length xs → row ≡ modulus r k n
row_modulus r k n xs row e h =
    let place : length (take (k + 1) xs) - 1 ≡ k = omega (arith, length-take-le (k + 1) xs h) in
    e ∙ ap (λ (i : ℕ). modulus r i n) place

-- the step takes a modulus in range, and a scratch of 512 codes suffices
module _ (r : RingMeaning) (L : RingLaws r) (k n : ℕ) (g : InRange r k n) where
  some : 1 ≤ k
  some = omega (arith, g.low)

  degree_is : degree (modulus r k n) ≡ k
  degree_is = omega (arith, modulus_length r L k n some)

  pub modulus_taken : Taken r (modulus r k n)
  modulus_taken = record {
    canonical = modulus_canonical r L k n some;
    short = omega (arith, modulus_length r L k n some, g.top);
    monic = ap (coefficient (modulus r k n)) degree_is ∙ modulus_top r L k n some;
    positive = omega (arith, degree_is, some);
  }

  pub modulus_room : scratch_size (modulus r k n) ≤ 512
  modulus_room =
      let d : degree (modulus r k n) ≤ 16 = omega (arith, degree_is, g.top) in
      let e : 2 * degree (modulus r k n) ≤ 32 = omega arith in
      mul-le-mul e d

module _ (F : FieldMeaning) (f : List ℕ) where
  -- f splits in another way than to stay whole
  abbrev pub Otherwise : Type 0
  Otherwise = (s : Splitting) × SplitsInto F f s × (s ≢ whole)

  -- the kind tells whether f stays whole
  pub told : (s : Splitting) → SplitsInto F f s → (a : ℕ × ℕ × ℕ) → a ≡ answer F f s → MatchBool (not (a.0 == 4)) Otherwise (SplitsInto F f whole)
  told s x a e = subst (λ (kind : ℕ). MatchBool (not (kind == 4)) Otherwise (SplitsInto F f whole)) (ap (λ (t : ℕ × ℕ × ℕ). t.0) (sym e)) (go s x)
    where
      go : (t : Splitting) → SplitsInto F f t → MatchBool (not ((answer F f t).0 == 4)) Otherwise (SplitsInto F f whole)
      go (root r) y = (root r, y, λ q. let z : ◌≡◌ {A = ℕ} 0 1 = cc in omega arith)
      go (repeated g h) y = (repeated g h, y, λ q. let z : ◌≡◌ {A = ℕ} 0 1 = cc in omega arith)
      go (shifted g h) y = (shifted g h, y, λ q. let z : ◌≡◌ {A = ℕ} 0 1 = cc in omega arith)
      go whole y = y
