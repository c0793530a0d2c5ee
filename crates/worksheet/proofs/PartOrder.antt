-- The order of parts: of two lists one is before the other or they are equal, never both, and what is before is before what follows.
-- Main statements: before_total, before_apart, before_trans.
use Rattle.std.proofs.Common.{◌≡◌, ℕ, ◌<◌, true, ◌&&◌, eqb, ltb, ◌⊎◌, List, [], ◌∷◌, reverse, length, sym, refl, ap, ◌∙◌, subst, ap₂, inl, inr, arith, ltb-true, lt-ltb, eq-eqb, eqb-true}
use mathlib.Core.List.{reverse-reverse}
use borrow.Author.Tests.{clash}
use Rattle.std.proofs.lemmas.Bool.{and_from, or_left, or_right, cases_order}
use Rattle.field.specs.Tests.{both_left, both_right, either}
use Rattle.worksheet.specs.Sheet.{smaller, before}

-- smaller by the first two that differ
abbrev Smaller : List ℕ → List ℕ → Type 0
Smaller [] [] = ⊥
Smaller [] (y ∷ ys) = Unit {0}
Smaller (x ∷ xs) [] = ⊥
Smaller (x ∷ xs) (y ∷ ys) = (x < y) ⊎ ((x ≡ y) × Smaller xs ys)

smaller_is : (xs ys : List ℕ) → smaller xs ys ≡ true → Smaller xs ys
unfolding smaller
smaller_is [] [] e = absurd (clash e)
smaller_is [] (y ∷ ys) e = tt
smaller_is (x ∷ xs) [] e = absurd (clash e)
smaller_is (x ∷ xs) (y ∷ ys) e = elim (either (ltb x y) (eqb x y && smaller xs ys) e) [
  | inl l ↦ inl (ltb-true x y l)
  | inr b ↦ inr (eqb-true x y (both_left (eqb x y) (smaller xs ys) b), smaller_is xs ys (both_right (eqb x y) (smaller xs ys) b))
]

is_smaller : (xs ys : List ℕ) → Smaller xs ys → smaller xs ys ≡ true
unfolding smaller
is_smaller [] [] h = absurd h
is_smaller [] (y ∷ ys) h = refl
is_smaller (x ∷ xs) [] h = absurd h
is_smaller (x ∷ xs) (y ∷ ys) (inl l) = or_left (ltb x y) _ (lt-ltb x y l)
is_smaller (x ∷ xs) (y ∷ ys) (inr h) = or_right (ltb x y) _ (and_from (eqb x y) (smaller xs ys) (eq-eqb x y h.0) (is_smaller xs ys h.1))

smaller_trans : (xs ys zs : List ℕ) → Smaller xs ys → Smaller ys zs → Smaller xs zs
smaller_trans [] [] zs h k = absurd h
smaller_trans [] (y ∷ ys) [] h k = absurd k
smaller_trans [] (y ∷ ys) (z ∷ zs) h k = tt
smaller_trans (x ∷ xs) [] zs h k = absurd h
smaller_trans (x ∷ xs) (y ∷ ys) [] h k = absurd k
smaller_trans (x ∷ xs) (y ∷ ys) (z ∷ zs) (inl h) (inl k) = inl (omega arith)
smaller_trans (x ∷ xs) (y ∷ ys) (z ∷ zs) (inl h) (inr k) = inl (omega (arith, k.0))
smaller_trans (x ∷ xs) (y ∷ ys) (z ∷ zs) (inr h) (inl k) = inl (omega (arith, h.0))
smaller_trans (x ∷ xs) (y ∷ ys) (z ∷ zs) (inr h) (inr k) = inr (h.0 ∙ k.0, smaller_trans xs ys zs h.1 k.1)

smaller_apart : (xs : List ℕ) → Smaller xs xs → ⊥
smaller_apart [] h = h
smaller_apart (x ∷ xs) (inl h) = omega arith
smaller_apart (x ∷ xs) (inr h) = smaller_apart xs h.1

-- equal, or one smaller than the other
abbrev pub Told : {T : Type 0} → (T → T → Type 0) → T → T → Type 0
Told R x y = (x ≡ y) ⊎ (R x y ⊎ R y x)

smaller_total : (xs ys : List ℕ) → Told Smaller xs ys
smaller_total [] [] = inl refl
smaller_total [] (y ∷ ys) = inr (inl tt)
smaller_total (x ∷ xs) [] = inr (inr tt)
smaller_total (x ∷ xs) (y ∷ ys) = go (cases_order x y) (smaller_total xs ys)
  where
    go : Told ◌<◌ x y → Told Smaller xs ys → Told Smaller (x ∷ xs) (y ∷ ys)
    go (inr (inl h)) r = inr (inl (inl h))
    go (inr (inr h)) r = inr (inr (inl h))
    go (inl e) (inl q) = inl (ap₂ ◌∷◌ e q)
    go (inl e) (inr (inl h)) = inr (inl (inr (e, h)))
    go (inl e) (inr (inr h)) = inr (inr (inr (sym e, h)))

-- f is before g
abbrev pub Before : List ℕ → List ℕ → Type 0
Before f g = before f g ≡ true

abbrev Lies : List ℕ → List ℕ → Type 0
Lies f g = (length f < length g) ⊎ ((length f ≡ length g) × Smaller (reverse f) (reverse g))

lies : (f g : List ℕ) → Before f g → Lies f g
lies f g e = elim (either (ltb (length f) (length g)) (eqb (length f) (length g) && smaller (reverse f) (reverse g)) e) [
  | inl l ↦ inl (ltb-true _ _ l)
  | inr b ↦ inr (eqb-true _ _ (both_left (eqb (length f) (length g)) (smaller (reverse f) (reverse g)) b), smaller_is _ _ (both_right (eqb (length f) (length g)) (smaller (reverse f) (reverse g)) b))
]

lies_before : (f g : List ℕ) → Lies f g → Before f g
lies_before f g (inl h) = or_left (ltb (length f) (length g)) _ (lt-ltb _ _ h)
lies_before f g (inr h) = or_right (ltb (length f) (length g)) _ (and_from (eqb (length f) (length g)) _ (eq-eqb _ _ h.0) (is_smaller _ _ h.1))

pub before_trans : (f g h : List ℕ) → Before f g → Before g h → Before f h
before_trans f g h p q = lies_before f h (go (lies f g p) (lies g h q))
  where
    go : Lies f g → Lies g h → Lies f h
    go (inl a) (inl b) = inl (omega arith)
    go (inl a) (inr b) = inl (omega (arith, b.0))
    go (inr a) (inl b) = inl (omega (arith, a.0))
    go (inr a) (inr b) = inr (a.0 ∙ b.0, smaller_trans (reverse f) (reverse g) (reverse h) a.1 b.1)

pub before_apart : (f g : List ℕ) → Before f g → f ≡ g → ⊥
before_apart f g p e = elim (lies f f (subst (Before f) (sym e) p)) [ inl h ↦ absurd (omega arith) | inr h ↦ absurd (smaller_apart (reverse f) h.1) ]

pub before_total : (f g : List ℕ) → Told Before f g
before_total f g = go (cases_order (length f) (length g)) (smaller_total (reverse f) (reverse g))
  where
    go : Told ◌<◌ (length f) (length g) → Told Smaller (reverse f) (reverse g) → Told Before f g
    go (inr (inl h)) r = inr (inl (lies_before f g (inl h)))
    go (inr (inr h)) r = inr (inr (lies_before g f (inl h)))
    go (inl e) (inl q) = inl (sym (reverse-reverse f) ∙ ap reverse q ∙ reverse-reverse g)
    go (inl e) (inr (inl h)) = inr (inl (lies_before f g (inr (e, h))))
    go (inl e) (inr (inr h)) = inr (inr (lies_before g f (inr (sym e, h))))
