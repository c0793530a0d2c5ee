-- What holds of each of a list.
-- Main statements: each_map, each_both, each_append, each_front, each_back, each_in.
use Rattle.std.proofs.Common.{ℕ, zero, suc, List, [], ◌∷◌, ◌++◌, replicate, sym, subst, inl, inr}
use Rattle.algebra.specs.Lists.{In}
use Rattle.worksheet.specs.Sheet.{Each}

module _ {X : Type 0} where
  pub each_map : (P Q : X → Type 0) → ((x : X) → P x → Q x) → (xs : List X) → Each P xs → Each Q xs
  each_map P Q h [] e = tt
  each_map P Q h (x ∷ xs) e = (h x e.0, each_map P Q h xs e.1)

  pub each_both : (P Q T : X → Type 0) → ((x : X) → P x → Q x → T x) → (xs : List X) → Each P xs → Each Q xs → Each T xs
  each_both P Q T h [] a b = tt
  each_both P Q T h (x ∷ xs) a b = (h x a.0 b.0, each_both P Q T h xs a.1 b.1)

  pub each_append : (P : X → Type 0) (xs ys : List X) → Each P xs → Each P ys → Each P (xs ++ ys)
  each_append P [] ys h k = k
  each_append P (x ∷ xs) ys h k = (h.0, each_append P xs ys h.1 k)

  pub each_front : (P : X → Type 0) (xs ys : List X) → Each P (xs ++ ys) → Each P xs
  each_front P [] ys h = tt
  each_front P (x ∷ xs) ys h = (h.0, each_front P xs ys h.1)

  pub each_back : (P : X → Type 0) (xs ys : List X) → Each P (xs ++ ys) → Each P ys
  each_back P [] ys h = h
  each_back P (x ∷ xs) ys h = each_back P xs ys h.1

  pub each_in : (P : X → Type 0) (xs : List X) (x : X) → Each P xs → In x xs → P x
  each_in P [] x a i = absurd i
  each_in P (y ∷ xs) x a (inl e) = subst P (sym e) a.0
  each_in P (y ∷ xs) x a (inr i) = each_in P xs x a.1 i

  pub each_replicate : (P : X → Type 0) (n : ℕ) (x : X) → P x → Each P (replicate n x)
  each_replicate P zero x q = tt
  each_replicate P (suc n) x q = (q, each_replicate P n x q)
