-- The list of the primes below n: what stands in it is prime, and each prime below n stands in it.
-- Main statements: listed.
use Rattle.std.proofs.Common.{◌≡◌, ℕ, zero, suc, ◌<◌, Bool, true, false, cond, ◌⊎◌, List, [], ◌∷◌, ◌++◌, ◌||◌, eqb, eqb-true, eq-eqb, sym, refl, ap, ◌∙◌, inl, inr, le_of_suc-le-suc, not-suc-le-zero, eq-or-lt_of_le}
use Rattle.std.specs.List.{list_any}
use borrow.Author.Tests.{clash}
use Rattle.algebra.specs.Lists.{In}
use Rattle.field.specs.Residues.{is_prime, primes_below}

either : {A : Type 0} (a b : Bool) → (a ≡ true → A) → (b ≡ true → A) → (a || b) ≡ true → A
either true b f g e = f refl
either false b f g e = g e

or_true : (a : Bool) → (a || true) ≡ true
or_true true = refl
or_true false = refl

module _ (x : ℕ) where
  in_left : (xs ys : List ℕ) → In x xs → In x (xs ++ ys)
  in_left [] ys i = absurd i
  in_left (y ∷ xs) ys (inl e) = inl e
  in_left (y ∷ xs) ys (inr i) = inr (in_left xs ys i)

  in_right : (xs ys : List ℕ) → In x ys → In x (xs ++ ys)
  in_right [] ys i = i
  in_right (y ∷ xs) ys i = inr (in_right xs ys i)

  in_either : (xs ys : List ℕ) → In x (xs ++ ys) → In x xs ⊎ In x ys
  in_either [] ys i = inr i
  in_either (y ∷ xs) ys (inl e) = inl (inl e)
  in_either (y ∷ xs) ys (inr i) = elim (in_either xs ys i) [ inl j ↦ inl (inr j) | inr j ↦ inr j ]

  -- a search of a list finds what is in it, and no other number
  found_in : (xs : List ℕ) → list_any (λ y. eqb y x) xs ≡ true → In x xs
  found_in [] e = absurd (clash e)
  found_in (y ∷ xs) e = either (eqb y x) (list_any (λ z. eqb z x) xs) (λ p. inl (sym (eqb-true y x p))) (λ t. inr (found_in xs t)) e

  in_found : (xs : List ℕ) → In x xs → list_any (λ y. eqb y x) xs ≡ true
  in_found [] i = absurd i
  in_found (y ∷ xs) (inl e) = ap (λ (b : Bool). b || list_any (λ z. eqb z x) xs) (eq-eqb y x (sym e))
  in_found (y ∷ xs) (inr i) = ap (λ (b : Bool). eqb y x || b) (in_found xs i) ∙ or_true (eqb y x)

in_one : (x n : ℕ) (b : Bool) → is_prime n ≡ b → In x (cond b (n ∷ []) []) → is_prime x ≡ true
in_one x n true e (inl p) = ap is_prime p ∙ e
in_one x n true e (inr i) = absurd i
in_one x n false e i = absurd i

-- what stands in the list is prime
listed_prime : (n x : ℕ) → In x (primes_below n) → is_prime x ≡ true
unfolding primes_below
listed_prime zero x i = absurd i
listed_prime (suc n) x i = elim (in_either x (primes_below n) (cond (is_prime n) (n ∷ []) []) i) [
  | inl j ↦ listed_prime n x j
  | inr j ↦ in_one x n (is_prime n) refl j
]

one_in : (x n : ℕ) (b : Bool) → x ≡ n → b ≡ true → In x (cond b (n ∷ []) [])
one_in x n true e p = inl e
one_in x n false e p = absurd (clash p)

-- a prime below n stands in the list
prime_listed : (n x : ℕ) → x < n → is_prime x ≡ true → In x (primes_below n)
unfolding primes_below
prime_listed zero x h p = absurd (not-suc-le-zero h)
prime_listed (suc n) x h p = elim (eq-or-lt_of_le (le_of_suc-le-suc h)) [
  | inl e ↦ in_right x (primes_below n) _ (one_in x n (is_prime n) e (ap is_prime (sym e) ∙ p))
  | inr l ↦ in_left x (primes_below n) _ (prime_listed n x l p)
]

-- a search of the list tells of a number below n whether it is prime
pub listed : (n x : ℕ) → x < n → list_any (λ y. eqb y x) (primes_below n) ≡ is_prime x
listed n x h = go _ (is_prime x) refl refl
  where
    go : (a b : Bool) → list_any (λ y. eqb y x) (primes_below n) ≡ a → is_prime x ≡ b → a ≡ b
    go true b e p = sym (listed_prime n x (found_in x (primes_below n) e)) ∙ p
    go false true e p = sym e ∙ in_found x (primes_below n) (prime_listed n x h p)
    go false false e p = refl
