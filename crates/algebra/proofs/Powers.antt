-- Powers, multiples by numbers, and products of lists in a commutative ring.
-- Main statements: pow_add, pow_mul, mul_pow, times_add, times_mul, times_one, prod_permuted, prod_same, pow_cong, coprime_prod.
use Rattle.std.proofs.Common.{◌≡◌, ℕ, zero, suc, ◌+◌, ◌*◌, ◌≤◌, List, [], ◌∷◌, ◌++◌, map, length, replicate, sym, refl, ap, ◌∙◌, subst, ap₂, inl, inr, suc-mul, suc-add, mul-zero, zero-add, zero-mul, mul-suc, arith}
use Rattle.algebra.specs.Ring.{Ring}
pub use Rattle.algebra.specs.Powers.{pow, times, prod}
use Rattle.algebra.specs.Lists.{In, Distinct, Put, here, there, Permuted, none, put}
use Rattle.algebra.proofs.Laws.{add_assoc, add_zero, zero_⊕, add_comm, mul_assoc, mul_comm, ⊗_left_comm, one_⊗, mul_one, zero_⊗, dist_⊗}
use Rattle.algebra.proofs.Solver.{:0, :1, ◌:+◌, ◌:*◌, ◌:-◌, ring, A, B, C, D}
use Rattle.algebra.proofs.Divides.{Divides, Coprime, coprime_mul, coprime_one, dvd_mul, dvd_sum}
use Rattle.algebra.proofs.Lists.{find, put_length, put_less}

module _ {K : Type 0} (R : Ring K) where
  infixl 65 ◌⊕◌
  infixl 70 ◌⊗◌
  open R use {𝟘, 𝟙, ◌⊕◌, ◌⊗◌, neg}

  -- the recursions of powers, multiples and products
  pub pow_zero : (a : K) → pow R a 0 ≡ 𝟙
  unfolding pow
  pow_zero a = refl

  pub pow_suc : (a : K) (n : ℕ) → pow R a (suc n) ≡ a ⊗ pow R a n
  unfolding pow
  pow_suc a n = refl

  pub times_zero : (a : K) → times R 0 a ≡ 𝟘
  unfolding times
  times_zero a = refl

  pub times_suc : (n : ℕ) (a : K) → times R (suc n) a ≡ a ⊕ times R n a
  unfolding times
  times_suc n a = refl

  pub prod_nil : prod R [] ≡ 𝟙
  unfolding prod
  prod_nil = refl

  pub prod_cons : (x : K) (xs : List K) → prod R (x ∷ xs) ≡ x ⊗ prod R xs
  unfolding prod
  prod_cons x xs = refl

  pub pow_one : (a : K) → pow R a 1 ≡ a
  unfolding pow
  pow_one a = mul_one R a

  pub one_pow : (n : ℕ) → pow R 𝟙 n ≡ 𝟙
  one_pow zero = pow_zero 𝟙
  one_pow (suc n) = simp (pow_suc, one_pow n, mul_one)

  pub zero_pow : (n : ℕ) → pow R 𝟘 (suc n) ≡ 𝟘
  zero_pow n = pow_suc 𝟘 n ∙ zero_⊗ R _

  pub zero_pow_pos : (n : ℕ) → 1 ≤ n → pow R 𝟘 n ≡ 𝟘
  zero_pow_pos zero l = absurd (omega arith)
  zero_pow_pos (suc n) l = zero_pow n

  pub mul_pow : (a b : K) (n : ℕ) → pow R (a ⊗ b) n ≡ pow R a n ⊗ pow R b n
  mul_pow a b zero = simp (pow_zero, mul_one)
  mul_pow a b (suc n) = simp (pow_suc, mul_pow a b n) (ring R (_ ∷ _ ∷ _ ∷ _ ∷ []) (A :* B :* (C :* D)) (A :* C :* (B :* D)) refl)

  pub pow_add : (a : K) (m n : ℕ) → pow R a (m + n) ≡ pow R a m ⊗ pow R a n
  pow_add a zero n = rw (zero-add n, pow_zero a) (sym (one_⊗ R (pow R a n)))
  pow_add a (suc m) n = rw (suc-add m n, pow_suc a (m + n), pow_add a m n, pow_suc a m) (sym (mul_assoc R a (pow R a m) (pow R a n)))

  pub pow_mul : (a : K) (m n : ℕ) → pow R a (m * n) ≡ pow R (pow R a m) n
  pow_mul a m zero = rw (mul-zero m, pow_zero a, pow_zero (pow R a m))
  pow_mul a m (suc n) = rw (mul-suc m n, pow_add a (m * n) m, pow_mul a m n, pow_suc (pow R a m) n) (mul_comm R _ _)

  pub times_of_zero : (n : ℕ) → times R n 𝟘 ≡ 𝟘
  times_of_zero zero = times_zero 𝟘
  times_of_zero (suc n) = simp (times_suc, times_of_zero n, add_zero)

  pub times_sum : (n : ℕ) (a b : K) → times R n (a ⊕ b) ≡ times R n a ⊕ times R n b
  times_sum zero a b = simp (times_zero, add_zero)
  times_sum (suc n) a b = simp (times_suc, times_sum n a b) (ring R (_ ∷ _ ∷ _ ∷ _ ∷ []) (A :+ B :+ (C :+ D)) (A :+ C :+ (B :+ D)) refl)

  pub times_add : (m n : ℕ) (a : K) → times R (m + n) a ≡ times R m a ⊕ times R n a
  times_add zero n a = rw (zero-add n, times_zero a) (sym (zero_⊕ R (times R n a)))
  times_add (suc m) n a = rw (suc-add m n, times_suc (m + n) a, times_add m n a, times_suc m a) (sym (add_assoc R a (times R m a) (times R n a)))

  pub times_⊗ : (n : ℕ) (a b : K) → times R n a ⊗ b ≡ times R n (a ⊗ b)
  times_⊗ zero a b = simp (times_zero, zero_⊗)
  times_⊗ (suc n) a b = simp (times_suc, dist_⊗, times_⊗ n a b)

  pub ⊗_times : (n : ℕ) (a b : K) → a ⊗ times R n b ≡ times R n (a ⊗ b)
  ⊗_times n a b = mul_comm R a (times R n b) ∙ times_⊗ n b a ∙ ap (times R n) (mul_comm R b a)

  -- multiples are products with multiples of one
  pub times_one : (n : ℕ) (a : K) → times R n a ≡ times R n 𝟙 ⊗ a
  times_one n a = ap (times R n) (sym (one_⊗ R a)) ∙ sym (times_⊗ n 𝟙 a)

  pub times_mul : (m n : ℕ) (a : K) → times R (m * n) a ≡ times R m (times R n a)
  times_mul zero n a = rw (zero-mul n, times_zero a, times_zero (times R n a))
  times_mul (suc m) n a = rw (suc-mul m n, times_add (m * n) n a, times_mul m n a, times_suc m (times R n a)) (add_comm R _ _)

  -- multiples of one multiply as numbers do
  pub times_mul_one : (m n : ℕ) → times R (m * n) 𝟙 ≡ times R m 𝟙 ⊗ times R n 𝟙
  times_mul_one m n = times_mul m n 𝟙 ∙ times_one m (times R n 𝟙)

  -- what is put into a list is a factor of its product
  pub prod_put : {x : K} {ys zs : List K} → Put x ys zs → prod R zs ≡ x ⊗ prod R ys
  prod_put {x} {ys} here = prod_cons x ys
  prod_put {x} (there {y = y} {ys = ys} {zs = zs} i) =
      prod_cons y zs ∙ ap (λ (k : K). y ⊗ k) (prod_put i) ∙ ⊗_left_comm R y x (prod R ys) ∙ ap (λ (k : K). x ⊗ k) (sym (prod_cons y ys))

  -- products do not depend on the order
  pub prod_permuted : {xs ys : List K} → Permuted xs ys → prod R xs ≡ prod R ys
  prod_permuted none = refl
  prod_permuted (put {x = x} {xs = xs} p i) = prod_cons x xs ∙ ap (λ (k : K). x ⊗ k) (prod_permuted p) ∙ sym (prod_put i)

  -- a list of distinct elements that all stand in another one as long has the same product
  pub prod_same : (xs ys : List K) → Distinct xs → ((z : K) → In z xs → In z ys) → length xs ≡ length ys → prod R xs ≡ prod R ys
  prod_same [] [] d s e = refl
  prod_same [] (y ∷ ys) d s e = absurd (omega arith)
  prod_same (x ∷ xs) ys d s e = prod_cons x xs ∙ go (find x ys (s x (inl refl))) (prod_same xs)
    where
      go : (r : (zs : List K) × Put x zs ys) → ((zs : List K) → Distinct xs → ((z : K) → In z xs → In z zs) → length xs ≡ length zs → prod R xs ≡ prod R zs) → x ⊗ prod R xs ≡ prod R ys
      go r rec =
          ap (λ (k : K). x ⊗ k) (rec r.0 d.1 (λ z h. put_less r.1 (s z (inr h)) (λ p. d.0 (subst (λ (w : K). In w xs) p h))) (omega (arith, put_length r.1)))
          ∙ sym (prod_put r.1)

  -- each element of a list times a: the product gains a power of a
  pub prod_scaled : (a : K) (xs : List K) → prod R (map (λ x. a ⊗ x) xs) ≡ pow R a (length xs) ⊗ prod R xs
  unfolding prod pow
  prod_scaled a [] = sym (one_⊗ R 𝟙)
  prod_scaled a (x ∷ xs) = ap (λ (k : K). (a ⊗ x) ⊗ k) (prod_scaled a xs) ∙ ring R (_ ∷ _ ∷ _ ∷ _ ∷ []) (A :* B :* (C :* D)) (A :* C :* (B :* D)) refl

  pub prod_append : (xs ys : List K) → prod R (xs ++ ys) ≡ prod R xs ⊗ prod R ys
  prod_append [] ys = sym (ap (λ (k : K). k ⊗ prod R ys) prod_nil ∙ one_⊗ R _)
  prod_append (x ∷ xs) ys =
      prod_cons x (xs ++ ys) ∙ ap (λ (k : K). x ⊗ k) (prod_append xs ys) ∙ sym (ap (λ (k : K). k ⊗ prod R ys) (prod_cons x xs) ∙ mul_assoc R x (prod R xs) (prod R ys))

  -- a factor that counts n times
  pub prod_replicate : (n : ℕ) (x : K) → prod R (replicate n x) ≡ pow R x n
  prod_replicate zero x = prod_nil ∙ sym (pow_zero x)
  prod_replicate (suc n) x = prod_cons x (replicate n x) ∙ ap (λ (k : K). x ⊗ k) (prod_replicate n x) ∙ sym (pow_suc x n)

  -- what is equal modulo f has powers that are equal modulo f
  pub pow_cong : (f a b : K) (n : ℕ) → Divides R f (a ⊕ neg b) → Divides R f (pow R a n ⊕ neg (pow R b n))
  pow_cong f a b zero p = (𝟘, ap₂ (λ (x y : K). x ⊕ neg y) (pow_zero a) (pow_zero b) ∙ ring R (f ∷ []) (:1 :- :1) (:0 :* A) refl)
  pow_cong f a b (suc n) p = subst (λ (x : K). Divides R f x)
      (ring R (a ∷ pow R a n ∷ b ∷ pow R b n ∷ []) (A :* (B :- D) :+ D :* (A :- C)) (A :* B :- C :* D) refl ∙ sym (ap₂ (λ (x y : K). x ⊕ neg y) (pow_suc a n) (pow_suc b n)))
      (dvd_sum R f _ _ (dvd_mul R f _ a (pow_cong f a b n p)) (dvd_mul R f _ (pow R b n) p))

  -- what is coprime to each factor is coprime to the product
  pub coprime_prod : (f : K) (xs : List K) → ((x : K) → In x xs → Coprime R f x) → Coprime R f (prod R xs)
  unfolding prod
  coprime_prod f [] h = coprime_one R f
  coprime_prod f (x ∷ xs) h = coprime_mul R f x (prod R xs) (h x (inl refl)) (coprime_prod f xs (λ y i. h y (inr i)))
