-- A solver for equations in a commutative ring: both sides are turned into sums of signed products, and compared.
-- Main statements: Ex, normal, eval, solve, ring.
use Rattle.std.proofs.Common.{◌≡◌, ℕ, Bool, true, false, cond, not, ◌&&◌, T, eqb, ltb, List, [], ◌∷◌, get_or, sym, refl, ap, ◌∙◌, subst, ap₂, eqb→eq}
use mathlib.Core.Bool.{beq}
use Rattle.algebra.specs.Ring.{Ring}
use Rattle.algebra.proofs.Laws.{zero_⊕, one_⊗, ⊕_left_comm, ⊗_left_comm, dist_⊗, neg_cancel, cancel_neg, ⊗_zero, zero_⊗, neg_neg, neg_zero, neg_sum, neg_⊗, ⊗_neg}

infixl 65 ◌:+◌
infixl 65 ◌:-◌
infixl 70 ◌:*◌
-- expressions: unknowns by their numbers, zero, one, sums, products and opposites
pub data Ex : Type 0 where
  var : ℕ → Ex
  :0 :1 : Ex
  ◌:+◌ ◌:*◌ : Ex → Ex → Ex
  :neg : Ex → Ex

abbrev pub ◌:-◌ : Ex → Ex → Ex
a :- b = a :+ :neg b

-- a product of unknowns, by their numbers, sorted
abbrev pub Mono : Type 0
Mono = List ℕ

-- one more unknown, at its place
abbrev pub put : ℕ → Mono → Mono
put x [] = x ∷ []
put x (y ∷ m) = cond (ltb y x) (y ∷ put x m) (x ∷ (y ∷ m))

abbrev pub times : Mono → Mono → Mono
times [] n = n
times (x ∷ m) n = put x (times m n)

-- whether two products are the same, and which comes first
abbrev pub same_mono : Mono → Mono → Bool
same_mono [] [] = true
same_mono [] (y ∷ n) = false
same_mono (x ∷ m) [] = false
same_mono (x ∷ m) (y ∷ n) = eqb x y && same_mono m n

abbrev pub less_mono : Mono → Mono → Bool
less_mono [] [] = false
less_mono [] (y ∷ n) = true
less_mono (x ∷ m) [] = false
less_mono (x ∷ m) (y ∷ n) = cond (eqb x y) (less_mono m n) (ltb x y)

-- a sum of products, each with a sign: true is plus
pub data Sum : Type 0 where
  end : Sum
  term : Bool → Mono → Sum → Sum

-- one signed product added at its place; it cancels with the same product of the other sign
abbrev pub add1 : Bool → Mono → Sum → Sum
add1 s m end = term s m end
add1 s m (term t n p) = cond (same_mono m n) (cond (beq s t) (term s m (term t n p)) p) (cond (less_mono m n) (term s m (term t n p)) (term t n (add1 s m p)))

abbrev pub add_sums : Sum → Sum → Sum
add_sums end q = q
add_sums (term s m p) q = add1 s m (add_sums p q)

abbrev pub opposite_sum : Sum → Sum
opposite_sum end = end
opposite_sum (term s m p) = term (not s) m (opposite_sum p)

-- one signed product times a sum, added to another sum
abbrev pub mul1 : Bool → Mono → Sum → Sum → Sum
mul1 s m end q = q
mul1 s m (term t n p) q = add1 (beq s t) (times m n) (mul1 s m p q)

abbrev pub mul_sums : Sum → Sum → Sum
mul_sums end q = end
mul_sums (term s m p) q = mul1 s m q (mul_sums p q)

-- the sum of signed products that an expression multiplies out to
abbrev pub normal : Ex → Sum
normal (var x) = term true (x ∷ []) end
normal :0 = end
normal :1 = term true [] end
normal (a :+ b) = add_sums (normal a) (normal b)
normal (a :* b) = mul_sums (normal a) (normal b)
normal (:neg a) = opposite_sum (normal a)

both_left : (a b : Bool) → T (a && b) → T a
both_left true b t = tt
both_left false b t = t

both_right : (a b : Bool) → T (a && b) → T b
both_right true b t = t
both_right false b t = absurd t

same_mono→eq : (m n : Mono) → T (same_mono m n) → m ≡ n
same_mono→eq [] [] t = refl
same_mono→eq [] (y ∷ n) t = absurd t
same_mono→eq (x ∷ m) [] t = absurd t
same_mono→eq (x ∷ m) (y ∷ n) t = ap₂ {C = Mono} ◌∷◌ (eqb→eq x y (both_left (eqb x y) (same_mono m n) t)) (same_mono→eq m n (both_right (eqb x y) (same_mono m n) t))

module _ {K : Type 0} (R : Ring K) (ρ : ℕ → K) where
  infixl 65 ◌⊕◌
  infixl 70 ◌⊗◌
  open R use {𝟘, 𝟙, ◌⊕◌, ◌⊗◌, neg, ⊕_assoc, ⊕_comm, ⊕_zero, ⊕_neg, ⊗_assoc, ⊗_comm, ⊗_one, ⊗_dist}

  -- the value of an expression, where ρ gives the values of the unknowns
  abbrev pub eval : Ex → K
  eval (var x) = ρ x
  eval :0 = 𝟘
  eval :1 = 𝟙
  eval (a :+ b) = eval a ⊕ eval b
  eval (a :* b) = eval a ⊗ eval b
  eval (:neg a) = neg (eval a)

  abbrev eval_mono : Mono → K
  eval_mono [] = 𝟙
  eval_mono (x ∷ m) = ρ x ⊗ eval_mono m

  abbrev sgn : Bool → K → K
  sgn true x = x
  sgn false x = neg x

  abbrev eval_sum : Sum → K
  eval_sum end = 𝟘
  eval_sum (term s m p) = sgn s (eval_mono m) ⊕ eval_sum p

  -- a choice by a test evaluates to z if both ways do
  choice_mono : (b : Bool) (m n : Mono) (z : K) → eval_mono m ≡ z → eval_mono n ≡ z → eval_mono (cond b m n) ≡ z
  choice_mono true m n z p q = p
  choice_mono false m n z p q = q

  put_ok : (x : ℕ) (m : Mono) → eval_mono (put x m) ≡ ρ x ⊗ eval_mono m
  put_ok x [] = refl
  put_ok x (y ∷ m) =
      choice_mono (ltb y x) (y ∷ put x m) (x ∷ (y ∷ m)) _
      (ap (λ (k : K). ρ y ⊗ k) (put_ok x m) ∙ ⊗_left_comm R (ρ y) (ρ x) (eval_mono m))
      refl

  times_ok : (m n : Mono) → eval_mono (times m n) ≡ eval_mono m ⊗ eval_mono n
  times_ok [] n = sym (one_⊗ R (eval_mono n))
  times_ok (x ∷ m) n = put_ok x (times m n) ∙ ap (λ (k : K). ρ x ⊗ k) (times_ok m n) ∙ sym (⊗_assoc (ρ x) (eval_mono m) (eval_mono n))

  -- the test b is known to be what it is in each way
  choice_sum : (b : Bool) (p q : Sum) (z : K) → (T b → eval_sum p ≡ z) → eval_sum q ≡ z → eval_sum (cond b p q) ≡ z
  choice_sum true p q z f e = f tt
  choice_sum false p q z f e = e

  cancels : (s t : Bool) (m : Mono) (p : Sum) → eval_sum (cond (beq s t) (term s m (term t m p)) p) ≡ sgn s (eval_mono m) ⊕ (sgn t (eval_mono m) ⊕ eval_sum p)
  cancels true true m p = refl
  cancels true false m p = sym (cancel_neg R (eval_mono m) (eval_sum p))
  cancels false true m p = sym (neg_cancel R (eval_mono m) (eval_sum p))
  cancels false false m p = refl

  add1_ok : (s : Bool) (m : Mono) (p : Sum) → eval_sum (add1 s m p) ≡ sgn s (eval_mono m) ⊕ eval_sum p
  add1_ok s m end = refl
  add1_ok s m (term t n p) =
      choice_sum (same_mono m n) _ _ _
      (λ h. subst (λ (k : Mono). eval_sum (cond (beq s t) (term s m (term t k p)) p) ≡ sgn s (eval_mono m) ⊕ (sgn t (eval_mono k) ⊕ eval_sum p)) (same_mono→eq m n h) (cancels s t m p))
      (choice_sum (less_mono m n) (term s m (term t n p)) (term t n (add1 s m p)) _ (λ h. refl)
      (ap (λ (k : K). sgn t (eval_mono n) ⊕ k) (add1_ok s m p) ∙ ⊕_left_comm R (sgn t (eval_mono n)) (sgn s (eval_mono m)) (eval_sum p)))

  add_sums_ok : (p q : Sum) → eval_sum (add_sums p q) ≡ eval_sum p ⊕ eval_sum q
  add_sums_ok end q = sym (zero_⊕ R (eval_sum q))
  add_sums_ok (term s m p) q = add1_ok s m (add_sums p q) ∙ ap (λ (k : K). sgn s (eval_mono m) ⊕ k) (add_sums_ok p q) ∙ sym (⊕_assoc (sgn s (eval_mono m)) (eval_sum p) (eval_sum q))

  sgn_not : (s : Bool) (x : K) → sgn (not s) x ≡ neg (sgn s x)
  sgn_not true x = refl
  sgn_not false x = sym (neg_neg R x)

  opposite_sum_ok : (p : Sum) → eval_sum (opposite_sum p) ≡ neg (eval_sum p)
  opposite_sum_ok end = sym (neg_zero R)
  opposite_sum_ok (term s m p) = ap₂ ◌⊕◌ (sgn_not s (eval_mono m)) (opposite_sum_ok p) ∙ sym (neg_sum R (sgn s (eval_mono m)) (eval_sum p))

  sgn_mul : (s t : Bool) (x y : K) → sgn (beq s t) (x ⊗ y) ≡ sgn s x ⊗ sgn t y
  sgn_mul true true x y = refl
  sgn_mul true false x y = sym (⊗_neg R x y)
  sgn_mul false true x y = sym (neg_⊗ R x y)
  sgn_mul false false x y = sym (neg_⊗ R x (neg y) ∙ ap neg (⊗_neg R x y) ∙ neg_neg R (x ⊗ y))

  mul1_ok : (s : Bool) (m : Mono) (p q : Sum) → eval_sum (mul1 s m p q) ≡ sgn s (eval_mono m) ⊗ eval_sum p ⊕ eval_sum q
  mul1_ok s m end q = sym (ap (λ (k : K). k ⊕ eval_sum q) (⊗_zero R (sgn s (eval_mono m))) ∙ zero_⊕ R (eval_sum q))
  mul1_ok s m (term t n p) q =
      add1_ok (beq s t) (times m n) (mul1 s m p q)
      ∙ ap₂ ◌⊕◌ (ap (sgn (beq s t)) (times_ok m n) ∙ sgn_mul s t (eval_mono m) (eval_mono n)) (mul1_ok s m p q)
      ∙ sym (⊕_assoc _ _ _)
      ∙ ap (λ (k : K). k ⊕ eval_sum q) (sym (⊗_dist (sgn s (eval_mono m)) (sgn t (eval_mono n)) (eval_sum p)))

  mul_sums_ok : (p q : Sum) → eval_sum (mul_sums p q) ≡ eval_sum p ⊗ eval_sum q
  mul_sums_ok end q = sym (zero_⊗ R (eval_sum q))
  mul_sums_ok (term s m p) q =
      mul1_ok s m q (mul_sums p q) ∙ ap (λ (k : K). sgn s (eval_mono m) ⊗ eval_sum q ⊕ k) (mul_sums_ok p q) ∙ sym (dist_⊗ R (sgn s (eval_mono m)) (eval_sum p) (eval_sum q))

  normal_ok : (e : Ex) → eval_sum (normal e) ≡ eval e
  normal_ok (var x) = ⊕_zero (ρ x ⊗ 𝟙) ∙ ⊗_one (ρ x)
  normal_ok :0 = refl
  normal_ok :1 = ⊕_zero 𝟙
  normal_ok (a :+ b) = add_sums_ok (normal a) (normal b) ∙ ap₂ ◌⊕◌ (normal_ok a) (normal_ok b)
  normal_ok (a :* b) = mul_sums_ok (normal a) (normal b) ∙ ap₂ ◌⊗◌ (normal_ok a) (normal_ok b)
  normal_ok (:neg a) = opposite_sum_ok (normal a) ∙ ap neg (normal_ok a)

  -- expressions that multiply out to the same sum have the same value
  pub solve : (a b : Ex) → normal a ≡ normal b → eval a ≡ eval b
  solve a b e = sym (normal_ok a) ∙ ap eval_sum e ∙ normal_ok b

-- The unknowns, by letters
abbrev pub A : Ex
A = var 0

abbrev pub B : Ex
B = var 1

abbrev pub C : Ex
C = var 2

abbrev pub D : Ex
D = var 3

abbrev pub E : Ex
E = var 4

abbrev pub F : Ex
F = var 5

abbrev pub G : Ex
G = var 6

abbrev pub H : Ex
H = var 7

module _ {K : Type 0} (R : Ring K) where
  -- the values of the unknowns from a list, and zero beyond its end
  abbrev pub among : List K → ℕ → K
  among xs i = get_or xs i R.𝟘

  -- ring R (a ∷ b ∷ []) left right refl: the equation of left and right, where A is a and B is b
  pub ring : (xs : List K) (l r : Ex) → normal l ≡ normal r → eval R (among xs) l ≡ eval R (among xs) r
  ring xs l r e = solve R (among xs) l r e
