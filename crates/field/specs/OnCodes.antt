-- Operations that are given on codes alone: what they answer at codes and elsewhere, and the ring laws from laws at codes.
use Rattle.std.specs.Prelude.{◌≡◌, ℕ, ◌<◌, ◌≤◌, Bool, true, false, cond, nat_lt, refl}
use Rattle.std.proofs.Common.{sym, ◌∙◌, ap, ap₂, arith, lt-ltb, le-ltb}
use Rattle.std.proofs.Math.Decide.{dec_lt}
use Rattle.field.specs.Ring.{RingMeaning, RingLaws, greatest_order}
use Rattle.field.specs.Ring.{at_code, on_codes}

pub at_a_code : (q a x : ℕ) → a < q → at_code q a x ≡ x
at_a_code q a x h = ap (λ (b : Bool). cond b x 0) (lt-ltb a q h)

pub at_no_code : (q a x : ℕ) → q ≤ a → at_code q a x ≡ 0
at_no_code q a x h = ap (λ (b : Bool). cond b x 0) (le-ltb a q h)

pub at_no_code_right : (q a b x : ℕ) → q ≤ b → at_code q a (at_code q b x) ≡ 0
at_no_code_right q a b x h = ap (at_code q a) (at_no_code q b x h) ∙ zeros (nat_lt a q)
  where
    zeros : (c : Bool) → ◌≡◌ {A = ℕ} (cond c 0 0) 0
    zeros true = refl
    zeros false = refl

pub at_codes : (q a b x : ℕ) → a < q → b < q → at_code q a (at_code q b x) ≡ x
at_codes q a b x h k = at_a_code q a _ h ∙ at_a_code q b x k

-- the laws of a ring, of operations at codes below q
pub record CodeLaws (q : ℕ) (s : ℕ → ℕ → ℕ) (o : ℕ → ℕ) (p : ℕ → ℕ → ℕ) : Type 0 where
  pub low : 2 ≤ q
  pub high : q ≤ greatest_order
  pub sum_code : (a b : ℕ) → a < q → b < q → s a b < q
  pub opposite_code : (a : ℕ) → a < q → o a < q
  pub product_code : (a b : ℕ) → a < q → b < q → p a b < q
  pub sum_assoc : (a b c : ℕ) → a < q → b < q → c < q → s (s a b) c ≡ s a (s b c)
  pub sum_comm : (a b : ℕ) → a < q → b < q → s a b ≡ s b a
  pub sum_zero : (a : ℕ) → a < q → s a 0 ≡ a
  pub sum_opposite : (a : ℕ) → a < q → s a (o a) ≡ 0
  pub product_assoc : (a b c : ℕ) → a < q → b < q → c < q → p (p a b) c ≡ p a (p b c)
  pub product_comm : (a b : ℕ) → a < q → b < q → p a b ≡ p b a
  pub product_one : (a : ℕ) → a < q → p a 1 ≡ a
  pub distributes : (a b c : ℕ) → a < q → b < q → c < q → p a (s b c) ≡ s (p a b) (p a c)

module _ (q : ℕ) (s : ℕ → ℕ → ℕ) (o : ℕ → ℕ) (p : ℕ → ℕ → ℕ) (L : CodeLaws q s o p) where
  abbrev m : RingMeaning
  m = on_codes q s o p

  zero_code : 0 < q
  zero_code = omega (arith, L.low)

  -- one operation of two codes, whatever it is
  pair_code : (f : ℕ → ℕ → ℕ) → ((a b : ℕ) → a < q → b < q → f a b < q) → (a b : ℕ) → at_code q a (at_code q b (f a b)) < q
  pair_code f h a b = elim (dec_lt a q) [
    | yes k ↦ elim (dec_lt b q) [ yes l ↦ rw (at_codes q a b (f a b) k l) (h a b k l) | no l ↦ rw (at_no_code_right q a b (f a b) (omega (arith, l))) zero_code ]
    | no k ↦ rw (at_no_code q a (at_code q b (f a b)) (omega (arith, k))) zero_code
  ]

  sum_at : (a b : ℕ) → a < q → b < q → m.sum a b ≡ s a b
  sum_at a b h k = at_codes q a b (s a b) h k

  product_at : (a b : ℕ) → a < q → b < q → m.product a b ≡ p a b
  product_at a b h k = at_codes q a b (p a b) h k

  opposite_at : (a : ℕ) → a < q → m.opposite a ≡ o a
  opposite_at a h = at_a_code q a (o a) h

  pub on_codes_laws : RingLaws m
  on_codes_laws = record {
    order_low = L.low;
    order_high = L.high;
    one_code = (omega arith, L.low);
    sum_code = pair_code s L.sum_code;
    opposite_code = λ a. elim (dec_lt a q) [ yes h ↦ rw (opposite_at a h) (L.opposite_code a h) | no h ↦ rw (at_no_code q a (o a) (omega (arith, h))) zero_code ];
    product_code = pair_code p L.product_code;
    sum_assoc = λ a b c h k l.
        ap (λ (x : ℕ). m.sum x c) (sum_at a b h k) ∙ sum_at (s a b) c (L.sum_code a b h k) l ∙ L.sum_assoc a b c h k l
        ∙ sym (ap (m.sum a) (sum_at b c k l) ∙ sum_at a (s b c) h (L.sum_code b c k l));
    sum_comm = λ a b h k. sum_at a b h k ∙ L.sum_comm a b h k ∙ sym (sum_at b a k h);
    sum_zero = λ a h. sum_at a 0 h zero_code ∙ L.sum_zero a h;
    sum_opposite = λ a h. ap (m.sum a) (opposite_at a h) ∙ sum_at a (o a) h (L.opposite_code a h) ∙ L.sum_opposite a h;
    product_assoc = λ a b c h k l.
        ap (λ (x : ℕ). m.product x c) (product_at a b h k) ∙ product_at (p a b) c (L.product_code a b h k) l ∙ L.product_assoc a b c h k l
        ∙ sym (ap (m.product a) (product_at b c k l) ∙ product_at a (p b c) h (L.product_code b c k l));
    product_comm = λ a b h k. product_at a b h k ∙ L.product_comm a b h k ∙ sym (product_at b a k h);
    product_one = λ a h. product_at a 1 h L.low ∙ L.product_one a h;
    distributes = λ a b c h k l.
        ap (m.product a) (sum_at b c k l) ∙ product_at a (s b c) h (L.sum_code b c k l) ∙ L.distributes a b c h k l
        ∙ sym (ap₂ m.sum (product_at a b h k) (product_at a c h l) ∙ sum_at (p a b) (p a c) (L.product_code a b h k) (L.product_code a c h l));
    no_sum = λ a b h. (at_no_code q a (at_code q b (s a b)) h, at_no_code_right q b a (s b a) h);
    no_opposite = λ a h. at_no_code q a (o a) h;
    no_product = λ a b h. (at_no_code q a (at_code q b (p a b)) h, at_no_code_right q b a (p b a) h);
  }
