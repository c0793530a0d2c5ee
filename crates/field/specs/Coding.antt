-- A ring whose elements have codes, one to one: then operations on codes that say what the ring does have the ring laws.
use Rattle.std.specs.Prelude.{◌≡◌, ℕ, zero, suc, ◌<◌, ◌≤◌}
use Rattle.std.proofs.Math.Path.{sym, ap, ap₂}
use Rattle.std.proofs.Common.{◌∙◌, arith}
use Rattle.algebra.specs.Ring.{Ring, Scalars, Field}
use Rattle.algebra.specs.Powers.{times, Characteristic as RingCharacteristic}
use Rattle.algebra.proofs.Laws.{add_assoc, add_comm, add_zero, add_neg, mul_assoc, mul_comm, mul_one, mul_add}
use Rattle.algebra.proofs.Powers.{times_zero, times_suc}
use Rattle.field.specs.Ring.{RingMeaning, RingLaws, one, greatest_order, total, multiple}
use Rattle.field.specs.Field.{Characteristic}
use Rattle.field.specs.Ring.{on_codes}
use Rattle.field.specs.OnCodes.{CodeLaws, on_codes_laws, at_codes}
use Rattle.field.specs.Scalars.{total_code}

pub record Coding {T : Type 0} (R : Ring T) (q : ℕ) (s : ℕ → ℕ → ℕ) (o : ℕ → ℕ) (p : ℕ → ℕ → ℕ) : Type 0 where
  pub two : 2 ≤ q
  pub to : ℕ → T
  pub from : T → ℕ
  pub from_code : (x : T) → from x < q
  pub to_from : (x : T) → to (from x) ≡ x
  pub from_to : (a : ℕ) → a < q → from (to a) ≡ a
  pub zero_to : to 0 ≡ R.𝟘
  pub one_to : to 1 ≡ R.𝟙
  pub sum_code : (a b : ℕ) → a < q → b < q → s a b < q
  pub opposite_code : (a : ℕ) → a < q → o a < q
  pub product_code : (a b : ℕ) → a < q → b < q → p a b < q
  pub sum_to : (a b : ℕ) → a < q → b < q → to (s a b) ≡ R.◌⊕◌ (to a) (to b)
  pub opposite_to : (a : ℕ) → a < q → to (o a) ≡ R.neg (to a)
  pub product_to : (a b : ℕ) → a < q → b < q → to (p a b) ≡ R.◌⊗◌ (to a) (to b)

module _ {T : Type 0} (R : Ring T) (q : ℕ) (s : ℕ → ℕ → ℕ) (o : ℕ → ℕ) (p : ℕ → ℕ → ℕ) (C : Coding R q s o p) where
  -- codes of equal elements are equal
  pub code_equal : (a b : ℕ) → a < q → b < q → C.to a ≡ C.to b → a ≡ b
  code_equal a b h k e = sym (C.from_to a h) ∙ ap C.from e ∙ C.from_to b k

  zero_code : 0 < q
  zero_code = omega (arith, C.two)

  sums : (a b c d : ℕ) → a < q → b < q → c < q → d < q → R.◌⊕◌ (C.to a) (C.to b) ≡ R.◌⊕◌ (C.to c) (C.to d) → s a b ≡ s c d
  sums a b c d h k l n e = code_equal _ _ (C.sum_code a b h k) (C.sum_code c d l n) (C.sum_to a b h k ∙ e ∙ sym (C.sum_to c d l n))

  products : (a b c d : ℕ) → a < q → b < q → c < q → d < q → R.◌⊗◌ (C.to a) (C.to b) ≡ R.◌⊗◌ (C.to c) (C.to d) → p a b ≡ p c d
  products a b c d h k l n e = code_equal _ _ (C.product_code a b h k) (C.product_code c d l n) (C.product_to a b h k ∙ e ∙ sym (C.product_to c d l n))

  coded_laws : q ≤ greatest_order → CodeLaws q s o p
  coded_laws high = record {
    low = C.two;
    high = high;
    sum_code = C.sum_code;
    opposite_code = C.opposite_code;
    product_code = C.product_code;
    sum_assoc = λ a b c h k l. sums _ _ _ _ (C.sum_code a b h k) l h (C.sum_code b c k l)
        (ap (λ (x : T). R.◌⊕◌ x (C.to c)) (C.sum_to a b h k) ∙ add_assoc R _ _ _ ∙ ap (λ (x : T). R.◌⊕◌ (C.to a) x) (sym (C.sum_to b c k l)));
    sum_comm = λ a b h k. sums _ _ _ _ h k k h (add_comm R _ _);
    sum_zero = λ a h. code_equal _ _ (C.sum_code a 0 h zero_code) h (C.sum_to a 0 h zero_code ∙ ap (λ (x : T). R.◌⊕◌ (C.to a) x) C.zero_to ∙ add_zero R _);
    sum_opposite = λ a h. code_equal _ _ (C.sum_code a _ h (C.opposite_code a h)) zero_code
        (C.sum_to a _ h (C.opposite_code a h) ∙ ap (λ (x : T). R.◌⊕◌ (C.to a) x) (C.opposite_to a h) ∙ add_neg R _ ∙ sym C.zero_to);
    product_assoc = λ a b c h k l. products _ _ _ _ (C.product_code a b h k) l h (C.product_code b c k l)
        (ap (λ (x : T). R.◌⊗◌ x (C.to c)) (C.product_to a b h k) ∙ mul_assoc R _ _ _ ∙ ap (λ (x : T). R.◌⊗◌ (C.to a) x) (sym (C.product_to b c k l)));
    product_comm = λ a b h k. products _ _ _ _ h k k h (mul_comm R _ _);
    product_one = λ a h. code_equal _ _ (C.product_code a 1 h C.two) h (C.product_to a 1 h C.two ∙ ap (λ (x : T). R.◌⊗◌ (C.to a) x) C.one_to ∙ mul_one R _);
    distributes = λ a b c h k l. code_equal _ _ (C.product_code a _ h (C.sum_code b c k l)) (C.sum_code _ _ (C.product_code a b h k) (C.product_code a c h l))
        (C.product_to a _ h (C.sum_code b c k l) ∙ ap (λ (x : T). R.◌⊗◌ (C.to a) x) (C.sum_to b c k l) ∙ mul_add R _ _ _
        ∙ sym (C.sum_to _ _ (C.product_code a b h k) (C.product_code a c h l) ∙ ap₂ R.◌⊕◌ (C.product_to a b h k) (C.product_to a c h l)));
  }

  abbrev m : RingMeaning
  m = on_codes q s o p

  pub coded_ring : q ≤ greatest_order → RingLaws m
  coded_ring high = on_codes_laws q s o p (coded_laws high)

  pub coded_product : (a b : ℕ) → a < q → b < q → C.to (m.product a b) ≡ R.◌⊗◌ (C.to a) (C.to b)
  coded_product a b h k = ap C.to (at_codes q a b (p a b) h k) ∙ C.product_to a b h k

  -- ones add up in codes as in the ring
  module _ (L : RingLaws m) where
    ones : (n : ℕ) → C.to (multiple m n (one m)) ≡ times R n R.𝟙
    unfolding total
    ones zero = C.zero_to ∙ sym (times_zero R _)
    ones (suc n) =
        ap C.to (at_codes q (multiple m n 1) 1 (s (multiple m n 1) 1) (total_code m L n _) C.two) ∙ C.sum_to _ 1 (total_code m L n _) C.two
        ∙ ap₂ R.◌⊕◌ (ones n) C.one_to ∙ add_comm R _ _ ∙ sym (times_suc R n _)

    pub coded_characteristic : (c : ℕ) → RingCharacteristic R c → Characteristic m c
    coded_characteristic c h = record {
      positive = h.positive;
      sums_to_zero = code_equal _ _ (total_code m L c _) zero_code (ones c ∙ h.vanishes ∙ sym C.zero_to);
      smallest = λ n k e. h.least n k (sym (ones n) ∙ ap C.to e ∙ C.zero_to);
    }

module _ {T : Type 0} {S : Scalars T} (F : Field S) (q : ℕ) (s : ℕ → ℕ → ℕ) (o : ℕ → ℕ) (p : ℕ → ℕ → ℕ) (C : Coding S.ring q s o p) where
  -- a code that is not 0 has an inverse
  pub coded_inverse : (a : ℕ) → 0 < a → a < q → (b : ℕ) × ((b < q) × ((on_codes q s o p).product a b ≡ 1))
  coded_inverse a h k = (
    b,
    (
      C.from_code _,
      at_codes q a b (p a b) k (C.from_code _)
          ∙ code_equal S.ring q s o p C _ _ (C.product_code a b k (C.from_code _)) C.two
          (C.product_to a b k (C.from_code _) ∙ ap (λ (x : T). S.ring.◌⊗◌ (C.to a) x) (C.to_from _) ∙ mul_comm S.ring _ _ ∙ F.inverse (C.to a) nonzero ∙ sym C.one_to),
    ),
  )
    where
      b : ℕ
      b = C.from (F.inv (C.to a))

      nonzero : C.to a ≡ S.ring.𝟘 → ⊥
      nonzero e = absurd (omega (arith, code_equal S.ring q s o p C a 0 k (zero_code S.ring q s o p C) (e ∙ sym C.zero_to)))
