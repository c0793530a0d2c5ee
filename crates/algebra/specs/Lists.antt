-- Membership, distinct elements and permutations of lists; lists of all elements of a type.
use Rattle.std.specs.Prelude.{◌≡◌, ℕ, ◌⊎◌, List, [], ◌∷◌, length}

module _ {T : Type 0} where
  abbrev pub In : T → List T → Type 0
  In x [] = ⊥
  In x (y ∷ ys) = (x ≡ y) ⊎ In x ys

  abbrev pub Distinct : List T → Type 0
  Distinct [] = Unit {0}
  Distinct (x ∷ xs) = (In x xs → ⊥) × Distinct xs

  -- P holds of each element
  abbrev pub Each : (T → Type 0) → List T → Type 0
  Each P xs = (x : T) → In x xs → P x

-- The second list is the first with x put in somewhere.
pub data Put {T : Type 0} (x : T) : List T → List T → Type 0 where
  here : {ys : List T} → Put x ys (x ∷ ys)
  there : {y : T} {ys zs : List T} → Put x ys zs → Put x (y ∷ ys) (y ∷ zs)

-- The second list has the elements of the first, each as often, in some order.
pub data Permuted {T : Type 0} : List T → List T → Type 0 where
  none : Permuted [] []
  put : {x : T} {xs ys zs : List T} → Permuted xs ys → Put x ys zs → Permuted (x ∷ xs) zs

-- All elements of a type, each once: there are q of them.
pub record Listing (T : Type 0) (q : ℕ) : Type 0 where
  pub elements : List T
  pub distinct : Distinct elements
  pub all : (x : T) → In x elements
  pub count : length elements ≡ q
