-- Polynomials modulo one with an invertible highest coefficient are a ring, over any ring;
-- modulo an irreducible one over a field they are a field, with the same characteristic and q^degree elements.
-- Main statements: Residue, Quotient, QuotientScalars, quotient_field, quotient_characteristic, quotient_finite.
use Rattle.std.proofs.Common.{◌≡◌, ℕ, zero, suc, ◌+◌, ◌*◌, ◌^◌, ◌≤◌, ◌⊎◌, [], ◌∷◌, sym, refl, ap, ◌∙◌, subst, ap₂, inl, inr, mul_assoc as mul-assoc-ℕ, suc-mul, mul_comm as mul-comm-ℕ, suc-add, zero-add, zero-mul, arith}
use native.Mathlib.Nat.{pow-zero, pow-succ'}
use Rattle.algebra.specs.Ring.{Ring, Scalars, Field}
use Rattle.algebra.specs.Powers.{Characteristic, times}
use Rattle.algebra.specs.Finite.{FiniteField}
use Rattle.algebra.proofs.Laws.{add_assoc, add_comm, mul_assoc, mul_comm, mul_add, add_zero, add_neg, mul_one}
use Rattle.algebra.proofs.Solver.{◌:+◌, ◌:*◌, :neg, ◌:-◌, ring, A, B, C, D}
use Rattle.algebra.proofs.Poly.{Poly, Polys, size, zero_size, zero_coef}
use Rattle.algebra.proofs.Powers.{times_zero, times_suc}
use Rattle.algebra.proofs.Size.{size_sum, size_neg, dvd_one}
use Rattle.algebra.proofs.Terms.{const_one, const_size, const_coef_zero}
use Rattle.algebra.proofs.Characteristic.{const_times, poly_vanishes}
use Rattle.algebra.proofs.Irreducible.{Irreducible, divides_or_coprime}
use Rattle.algebra.proofs.Remainder.{Leading, rem, rem_size, rem_small, rem_cong, rem_zero, rem_sum, rem_mul, small_multiple}
use Rattle.algebra.proofs.Low.{Low, low_path, low_dec, low_set, listing_low}

module _ {K : Type 0} {S : Scalars K} {f : Poly S} (l : Leading f) where
  infixl 65 ◌⊕◌
  infixl 70 ◌⊗◌
  open Polys S use {𝟘, 𝟙, ◌⊕◌, ◌⊗◌, neg}

  -- the remainders
  abbrev pub Residue : Type 0
  Residue = Low S l.deg

  -- the ring of remainders modulo f
  pub Quotient : Ring Residue
  Quotient = record {
    𝟘 = (𝟘, omega (arith, zero_size S));
    𝟙 = (rem l 𝟙, rem_size l 𝟙);
    ◌⊕◌ = λ a b. (a.0 ⊕ b.0, size_sum a.0 b.0 l.deg a.1 b.1);
    ◌⊗◌ = λ a b. (rem l (a.0 ⊗ b.0), rem_size l (a.0 ⊗ b.0));
    neg = λ a. (neg a.0, size_neg a.0 l.deg a.1);
    is_set = low_set S l.deg;
    ⊕_assoc = λ a b c. low_path S l.deg (add_assoc (Polys S) a.0 b.0 c.0);
    ⊕_comm = λ a b. low_path S l.deg (add_comm (Polys S) a.0 b.0);
    ⊕_zero = λ a. low_path S l.deg (add_zero (Polys S) a.0);
    ⊕_neg = λ a. low_path S l.deg (add_neg (Polys S) a.0);
    ⊗_assoc = λ a b c. low_path S l.deg (
        ap (rem l) (mul_comm (Polys S) (rem l (a.0 ⊗ b.0)) c.0) ∙ rem_mul l c.0 (a.0 ⊗ b.0)
        ∙ ap (rem l) (mul_comm (Polys S) c.0 (a.0 ⊗ b.0) ∙ mul_assoc (Polys S) a.0 b.0 c.0) ∙ sym (rem_mul l a.0 (b.0 ⊗ c.0)));
    ⊗_comm = λ a b. low_path S l.deg (ap (rem l) (mul_comm (Polys S) a.0 b.0));
    ⊗_one = λ a. low_path S l.deg (rem_mul l a.0 𝟙 ∙ ap (rem l) (mul_one (Polys S) a.0) ∙ rem_small l a.0 a.1);
    ⊗_dist = λ a b c. low_path S l.deg (ap (rem l) (mul_add (Polys S) a.0 b.0 c.0) ∙ rem_sum l (a.0 ⊗ b.0) (a.0 ⊗ c.0));
  }

  abbrev pub QuotientScalars : Scalars Residue
  QuotientScalars = record { ring = Quotient; dec = low_dec S l.deg }

  -- its operations, as polynomials
  pub quotient_zero : Quotient.𝟘.0 ≡ 𝟘
  unfolding Quotient
  quotient_zero = refl

  pub quotient_one : Quotient.𝟙.0 ≡ rem l 𝟙
  unfolding Quotient
  quotient_one = refl

  pub quotient_sum : (a b : Residue) → (Quotient.◌⊕◌ a b).0 ≡ a.0 ⊕ b.0
  unfolding Quotient
  quotient_sum a b = refl

  pub quotient_neg : (a : Residue) → (Quotient.neg a).0 ≡ neg a.0
  unfolding Quotient
  quotient_neg a = refl

  pub quotient_mul : (a b : Residue) → (Quotient.◌⊗◌ a b).0 ≡ rem l (a.0 ⊗ b.0)
  unfolding Quotient
  quotient_mul a b = refl

  module _ (F : Field S) (i : Irreducible f) where
    abbrev Found : Residue → Type 0
    Found a = (a ≡ Quotient.𝟘) ⊎ ((b : Residue) × (Quotient.◌⊗◌ b a ≡ Quotient.𝟙))

    find : (a : Residue) → Found a
    find a = elim (divides_or_coprime F f a.0 i) [
      | inl d ↦ inl (low_path S l.deg (small_multiple l a.0 d a.1 ∙ sym quotient_zero))
      | inr c ↦ inr (
        (rem l c.t, rem_size l c.t),
        low_path S l.deg (quotient_mul _ a
            ∙ ap (rem l) (mul_comm (Polys S) (rem l c.t) a.0) ∙ rem_mul l a.0 c.t
            ∙ rem_cong l (a.0 ⊗ c.t) 𝟙 (neg c.s, ap (λ (x : Poly S). a.0 ⊗ c.t ⊕ neg x) (sym c.sum) ∙ ring (Polys S) (a.0 ∷ c.t ∷ c.s ∷ f ∷ []) (A :* B :- (C :* D :+ B :* A)) (:neg C :* D) refl)
            ∙ sym quotient_one),
      )
    ]

    pick : (a : Residue) → Found a → Residue
    pick a (inl e) = Quotient.𝟘
    pick a (inr r) = r.0

    pick_inverse : (a : Residue) (r : Found a) → (a ≡ Quotient.𝟘 → ⊥) → Quotient.◌⊗◌ (pick a r) a ≡ Quotient.𝟙
    unfolding pick
    pick_inverse a (inl e) n = absurd (n e)
    pick_inverse a (inr r) n = r.1

    -- modulo an irreducible polynomial over a field, the remainders are a field
    pub quotient_field : Field QuotientScalars
    quotient_field = record {
      inv = λ a. pick a (find a);
      inverse = λ a n. pick_inverse a (find a) n;
      apart = λ e. absurd (omega (arith, i.positive, dvd_one F f ((rem_zero l 𝟙).1 (sym quotient_one ∙ ap (λ (x : Residue). x.0) e ∙ quotient_zero))));
    }

  -- ones sum up in the quotient as in the scalars
  pub quotient_times : (n : ℕ) → (times Quotient n Quotient.𝟙).0 ≡ rem l (times (Polys S) n 𝟙)
  quotient_times zero = ap (λ (x : Residue). x.0) (times_zero Quotient _) ∙ quotient_zero ∙ sym (ap (rem l) (times_zero (Polys S) 𝟙) ∙ rem_small l 𝟘 (omega (arith, zero_size S)))
  quotient_times (suc n) =
      ap (λ (x : Residue). x.0) (times_suc Quotient n _) ∙ quotient_sum _ _ ∙ ap₂ ◌⊕◌ quotient_one (quotient_times n) ∙ sym (ap (rem l) (times_suc (Polys S) n 𝟙) ∙ rem_sum l 𝟙 _)

  -- the characteristic stays, if the modulus has positive degree
  pub quotient_characteristic : (p : ℕ) → 1 ≤ l.deg → Characteristic S.ring p → Characteristic Quotient p
  quotient_characteristic p h c = record {
    positive = c.positive;
    vanishes = low_path S l.deg (quotient_times p ∙ ap (rem l) (poly_vanishes S p c.vanishes) ∙ rem_small l 𝟘 (omega (arith, zero_size S)) ∙ sym quotient_zero);
    least = λ n k e. c.least n k (back n e);
  }
    where
      back : (n : ℕ) → times Quotient n Quotient.𝟙 ≡ Quotient.𝟘 → times S.ring n S.ring.𝟙 ≡ S.ring.𝟘
      back n e =
          sym (const_coef_zero S _) ∙ ap (λ (x : Poly S). x.coef 0)
          (const_times S n S.ring.𝟙 ∙ ap (times (Polys S) n) (const_one S)
          ∙ sym (rem_small l _ (subst (λ (x : Poly S). size x ≤ l.deg) (const_times S n S.ring.𝟙 ∙ ap (times (Polys S) n) (const_one S)) (omega (arith, const_size S (times S.ring n S.ring.𝟙)))))
          ∙ sym (quotient_times n) ∙ ap (λ (x : Residue). x.0) e ∙ quotient_zero)
          ∙ zero_coef S 0

number_power_add : (p m n : ℕ) → p ^ (m + n) ≡ p ^ m * p ^ n
number_power_add p zero n = rw (zero-add n, pow-zero p) (omega arith)
number_power_add p (suc m) n = rw (suc-add m n, pow-succ' p (m + n), number_power_add p m n, pow-succ' p m) (sym (mul-assoc-ℕ p (p ^ m) (p ^ n)))

pub power_of_power : (p j k : ℕ) → (p ^ j) ^ k ≡ p ^ (k * j)
power_of_power p j zero = rw (zero-mul j, pow-zero (p ^ j), pow-zero p)
power_of_power p j (suc k) = rw (pow-succ' (p ^ j) k, power_of_power p j k, suc-mul k j, number_power_add p (k * j) j) (mul-comm-ℕ (p ^ j) (p ^ (k * j)))

module _ {K : Type 0} {S : Scalars K} {f : Poly S} (l : Leading f) where
  -- the extension of a finite field by an irreducible polynomial
  pub quotient_finite : (E : FiniteField S) → Irreducible f → FiniteField (QuotientScalars l)
  quotient_finite E i = record {
    field = quotient_field l E.field i;
    p = E.p;
    j = l.deg * E.j;
    q = E.q ^ l.deg;
    characteristic = quotient_characteristic l E.p (omega (arith, i.positive, l.bound)) E.characteristic;
    order = ap (λ (n : ℕ). n ^ l.deg) E.order ∙ power_of_power E.p E.j l.deg;
    listing = listing_low S E.q E.listing l.deg;
  }
