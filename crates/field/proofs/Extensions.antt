-- The quotient of a field is a field just if its modulus does not split.
use Rattle.std.proofs.Common.{◌≡◌, ℕ, suc, ◌+◌, ◌^◌, ◌≤◌, length, sym, ap, ◌∙◌, subst, ap₂, mul_comm as mul-comm-ℕ, mul-le-mul_left, arith}
use Rattle.algebra.specs.Ring.{Scalars}
use Rattle.algebra.proofs.Poly.{Polys, size, zero_size}
use Rattle.algebra.proofs.Size.{Factors, factors, no_zero_divisors}
use Rattle.algebra.proofs.Divides.{Divides, dvd_refl}
use Rattle.algebra.proofs.Low.{low_path}
use Rattle.algebra.proofs.Irreducible.{Irreducible}
use Rattle.algebra.proofs.Remainder.{Leading, rem_zero}
use Rattle.algebra.proofs.Quotient.{Quotient, Residue, quotient_field, quotient_characteristic, quotient_mul, quotient_zero, power_of_power}
use Rattle.field.specs.Ring.{RingMeaning, RingLaws, greatest_order}
use Rattle.field.specs.Field.{FieldMeaning, FieldLaws}
use Rattle.field.specs.Polynomial.{degree, Splits}
use Rattle.field.specs.Quotient.{modulus, quotient_ring, extension_field}
use Rattle.field.specs.Inverting.{inverses_found}
use Rattle.field.specs.Scalars.{Code, CodeRing, CodeScalars, code_path, zero_code, product_codes, code_field, code_characteristic}
use Rattle.field.specs.Polynomials.{P as CodePoly, poly_of, poly_of_size}
use Rattle.field.proofs.Factors.{split_product, unsplittable_to}
use Rattle.field.specs.Coding.{Coding, coded_product, coded_characteristic, coded_inverse}
use Rattle.field.specs.Quotients.{modulus_length, modulus_canonical, modulus_poly, modulus_poly_is, leads, leads_degree}
use Rattle.field.specs.QuotientRings.{quotient_sum_at, quotient_opposite_at, quotient_product_at, quotient_coding, quotient_laws}

module _ (F : FieldMeaning) (L : FieldLaws F) (k n : ℕ) (some : 1 ≤ k) where
  abbrev r : RingMeaning
  r = F.ring

  abbrev P : Type 0
  P = CodePoly r L.ring

  abbrev S : Scalars (Code r L.ring)
  S = CodeScalars r L.ring

  abbrev M : P
  M = modulus_poly r L.ring k n some

  abbrev l : Leading M
  l = leads r L.ring k n some

  abbrev C : Coding (Quotient l) (r.order ^ k) (quotient_sum_at r L.ring k n some) (quotient_opposite_at r L.ring k n some) (quotient_product_at r L.ring k n some)
  C = quotient_coding r L.ring k n some

  pub irreducible_field : r.order ^ k ≤ greatest_order → Irreducible M → FieldLaws (extension_field F k n)
  irreducible_field high i = record {
    ring = laws;
    characteristic = coded_characteristic (Quotient l) _ _ _ _ C laws F.characteristic
        (quotient_characteristic l F.characteristic (subst (λ (d : ℕ). 1 ≤ d) (sym (leads_degree r L.ring k n some)) some) (code_characteristic F L));
    exponent = record {
      positive = omega (arith, mul-le-mul_left F.exponent some, L.exponent.positive);
      order = ap (λ (q : ℕ). q ^ k) L.exponent.order ∙ power_of_power F.characteristic F.exponent k ∙ ap (λ (j : ℕ). F.characteristic ^ j) (mul-comm-ℕ k F.exponent);
    };
    inverses = inverses_found (quotient_ring r k n) laws (coded_inverse (quotient_field l (code_field F L) i) _ _ _ _ C);
  }
    where
      laws : RingLaws (quotient_ring r k n)
      laws = quotient_laws r L.ring k n some high

  -- a modulus that does not split
  pub modulus_irreducible : (Splits r (modulus r k n) → ⊥) → Irreducible M
  modulus_irreducible h = subst (λ (f : P). Irreducible f) (modulus_poly_is r L.ring k n some)
      (unsplittable_to r L.ring (modulus r k n) (modulus_canonical r L.ring k n some, omega (arith, modulus_length r L.ring k n some, some), h))

  pub extension_laws : r.order ^ k ≤ greatest_order → (Splits r (modulus r k n) → ⊥) → FieldLaws (extension_field F k n)
  extension_laws high h = irreducible_field high (modulus_irreducible h)

  -- the two parts of a modulus that splits have smaller degrees than it, which add up
  module _ (s : Splits r (modulus r k n)) where
    abbrev pl : P
    pl = poly_of r L.ring s.left

    abbrev pr : P
    pr = poly_of r L.ring s.right

    multiplied : M ≡ (Polys S).◌⊗◌ pl pr
    multiplied = sym (modulus_poly_is r L.ring k n some) ∙ split_product r L.ring (modulus r k n) s

    left_length : length s.left ≡ size pl
    left_length = omega (arith, s.left_positive, poly_of_size r L.ring s.left s.left_canonical)

    right_length : length s.right ≡ size pr
    right_length = omega (arith, s.right_positive, poly_of_size r L.ring s.right s.right_canonical)

    modulus_size : size M ≡ suc k
    modulus_size = ap size (sym (modulus_poly_is r L.ring k n some)) ∙ omega (arith, some, modulus_length r L.ring k n some, poly_of_size r L.ring (modulus r k n) (modulus_canonical r L.ring k n some))

    sized : Factors M pl pr
    sized = factors (code_field F L) M pl pr (omega (arith, modulus_size)) multiplied

    pub part_degrees : degree s.left + degree s.right ≡ k
    part_degrees = omega (arith, sized.sizes, modulus_size, left_length, right_length, s.left_positive, s.right_positive)

    -- they are not zero in the quotient, and their product is: so it is no field
    left_small : size pl ≤ k
    left_small = omega (arith, part_degrees, left_length, s.right_positive)

    right_small : size pr ≤ k
    right_small = omega (arith, part_degrees, right_length, s.left_positive)

    residue : (f : P) → size f ≤ k → Residue l
    residue f h = (f, subst (λ (d : ℕ). size f ≤ d) (sym (leads_degree r L.ring k n some)) h)

    pub split_no_field : FieldLaws (extension_field F k n) → ⊥
    unfolding residue
    split_no_field e = no_zero_divisors (code_field E e) x y (differs pl left_small (omega (arith, s.left_positive, left_length))) (differs pr right_small (omega (arith, s.right_positive, right_length))) zero
      where
        E : FieldMeaning
        E = extension_field F k n

        code : (f : P) → size f ≤ k → Code E.ring e.ring
        code f h = (C.from (residue f h), C.from_code (residue f h))

        x : Code E.ring e.ring
        x = code pl left_small

        y : Code E.ring e.ring
        y = code pr right_small

        differs : (f : P) (h : size f ≤ k) → 2 ≤ size f → code f h ≡ (CodeRing E.ring e.ring).𝟘 → ⊥
        differs f h p z = absurd (omega (
          arith,
          zero_size S,
          p,
          ap size (
              ap (λ (t : Residue l). t.0) (sym (C.to_from (residue f h)) ∙ ap C.to (ap (λ (c : Code E.ring e.ring). c.0) z ∙ zero_code E.ring e.ring) ∙ C.zero_to) ∙ quotient_zero l),
        ))

        vanishes : ((Quotient l).◌⊗◌ (residue pl left_small) (residue pr right_small)).0 ≡ (Polys S).𝟘
        vanishes = quotient_mul l _ _ ∙ (rem_zero l ((Polys S).◌⊗◌ pl pr)).0 (subst (λ (f : P). Divides (Polys S) M f) multiplied (dvd_refl (Polys S) M))

        zero : (CodeRing E.ring e.ring).◌⊗◌ x y ≡ (CodeRing E.ring e.ring).𝟘
        zero = code_path E.ring e.ring (product_codes E.ring e.ring x y
            ∙ sym (C.from_to _ (e.ring.product_code x.0 y.0))
            ∙ ap C.from (coded_product (Quotient l) _ _ _ _ C x.0 y.0 x.1 y.1
            ∙ ap₂ (Quotient l).◌⊗◌ (C.to_from (residue pl left_small)) (C.to_from (residue pr right_small))
            ∙ low_path S l.deg (vanishes ∙ sym (quotient_zero l)) ∙ sym C.zero_to)
            ∙ C.from_to 0 (omega (arith, e.ring.order_low)) ∙ sym (zero_code E.ring e.ring))
