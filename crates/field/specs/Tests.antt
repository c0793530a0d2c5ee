-- Tests that the checker computes, and what they show.
-- Main statements: both_left, both_right, either, refuted; below_at; list_test, equal_list.
use Rattle.std.specs.Prelude.{◌≡◌, ℕ, zero, suc, ◌<◌, Bool, true, false, not, ◌&&◌, ◌||◌, T, ◌⊎◌, List, [], ◌∷◌, ◌==◌, ◌≢◌, refl}
use Rattle.std.proofs.Common.{sym, ap₂, subst, inl, inr, not-suc-le-zero, le_of_suc-le-suc, eq-or-lt_of_le}
use Rattle.std.proofs.Math.Dec.{eqb_refl}
use borrow.Author.Tests.{eqb-true, clash}
use Rattle.field.specs.Checks.{same}

pub both_left : (a b : Bool) → (a && b) ≡ true → a ≡ true
both_left true b t = refl
both_left false b t = absurd (clash t)

pub both_right : (a b : Bool) → (a && b) ≡ true → b ≡ true
both_right true b t = t
both_right false b t = absurd (clash t)

pub refuted : (a : Bool) → not a ≡ true → a ≢ true
refuted true t e = clash t
refuted false t e = clash e

pub either : (a b : Bool) → (a || b) ≡ true → (a ≡ true) ⊎ (b ≡ true)
either true b t = inl refl
either false b t = inr t

T_true : (b : Bool) → T b → b ≡ true
T_true true t = refl
T_true false t = absurd t

same_number : (n : ℕ) → (n == n) ≡ true
same_number n = T_true (n == n) (eqb_refl n)

pub same_list : (xs : List ℕ) → same xs xs ≡ true
unfolding same
same_list [] = refl
same_list (x ∷ xs) = ap₂ ◌&&◌ (same_number x) (same_list xs)

pub equal_list : (xs ys : List ℕ) → same xs ys ≡ true → xs ≡ ys
unfolding same
equal_list [] [] t = refl
equal_list [] (y ∷ ys) t = absurd (clash t)
equal_list (x ∷ xs) [] t = absurd (clash t)
equal_list (x ∷ xs) (y ∷ ys) t = ap₂ ◌∷◌ (eqb-true x y (both_left (x == y) (same xs ys) t)) (equal_list xs ys (both_right (x == y) (same xs ys) t))

pub list_test : {xs ys : List ℕ} → xs ≡ ys → same xs ys ≡ true
list_test {xs} {ys} p = subst (λ zs. same xs zs ≡ true) p (same_list xs)

-- the test at each number below n
unfoldable pub all_below : ℕ → (ℕ → Bool) → Bool
all_below zero t = true
all_below (suc n) t = t n && all_below n t

pub below_at : (n : ℕ) (t : ℕ → Bool) → all_below n t ≡ true → (i : ℕ) → i < n → t i ≡ true
unfolding all_below
below_at zero t e i h = absurd (not-suc-le-zero h)
below_at (suc n) t e i h =
    elim (eq-or-lt_of_le (le_of_suc-le-suc h)) [
      | inl p ↦ subst (λ k. t k ≡ true) (sym p) (both_left (t n) (all_below n t) e)
      | inr l ↦ below_at n t (both_right (t n) (all_below n t) e) i l
    ]
