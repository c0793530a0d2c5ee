-- Divisors, splittings and common divisors: what the statements say of lists is what the algebra says of their polynomials.
-- Main statements: divides_to, divides_from, split_product, splits_to, splits_from, unsplittable_to, unsplittable_from, common_size,
-- cofactor_monic, product_degree.
use Rattle.std.proofs.Common.{◌≡◌, ℕ, zero, suc, ◌+◌, ◌<◌, ◌≤◌, List, sym, refl, ap, ◌∙◌, subst, ap₂, arith}
use Rattle.algebra.specs.Ring.{Ring, Scalars, Field}
use Rattle.algebra.proofs.Laws.{mul_comm, one_⊗}
use Rattle.algebra.proofs.Divides.{Divides as DividesPoly}
use Rattle.algebra.proofs.Poly.{Poly, Polys, size}
use Rattle.algebra.proofs.Size.{dvd_size, factors, top_product}
use Rattle.algebra.proofs.Gcd.{Gcd, gcd_of, greatest}
use Rattle.algebra.proofs.Monic.{Monic as MonicPoly}
use Rattle.algebra.proofs.Irreducible.{Irreducible, Splits as SplitsPoly}
use Rattle.field.specs.Ring.{RingMeaning, RingLaws}
use Rattle.field.specs.Field.{FieldMeaning, FieldLaws}
use Rattle.field.specs.Polynomial.{degree, product, Canonical, Divides, Splits, Unsplittable, IsCommonDivisor}
use Rattle.field.specs.Scalars.{CodeScalars, code_field}
use Rattle.field.specs.Polynomials.{P, poly_of, list_of, poly_of_list, list_of_canonical, poly_of_injective, positive_size, size_positive, size_degree, poly_product, product_canonical}

-- a cofactor of a monic polynomial by a monic one is monic
pub cofactor_monic : {K : Type 0} {S : Scalars K} (F : Field S) (f g h : Poly S) → MonicPoly f → MonicPoly g → f ≡ (Polys S).◌⊗◌ g h → MonicPoly h
cofactor_monic {K = K} {S = S} F f g h mf mg e = go (size h) refl
  where
    sizes : size g + size h ≡ suc (size f)
    sizes = (factors F f g h (omega (arith, mf.sized)) e).sizes

    go : (n : ℕ) → size h ≡ n → MonicPoly h
    go zero z = absurd (omega (arith, mf.sized, (factors F f g h (omega (arith, mf.sized)) e).right))
    go (suc n) z = record { deg = n; sized = z; leads = leads }
      where
        at : mg.deg + n ≡ mf.deg
        at = omega (arith, sizes, mf.sized, mg.sized)

        leads : h.coef n ≡ S.ring.𝟙
        leads =
            sym (one_⊗ S.ring (h.coef n)) ∙ ap (λ (x : K). S.ring.◌⊗◌ x (h.coef n)) (sym mg.leads)
            ∙ sym (top_product F g h mg.deg n mg.sized z) ∙ ap (λ (x : Poly S). x.coef (mg.deg + n)) (sym e) ∙ ap f.coef at ∙ mf.leads

module _ (m : RingMeaning) (L : RingLaws m) where
  abbrev R : Ring (P m L)
  R = Polys (CodeScalars m L)

  pub divides_to : (g f : List ℕ) → Canonical m g → Divides m g f → DividesPoly R (poly_of m L g) (poly_of m L f)
  divides_to g f c d = (poly_of m L d.quotient, ap (poly_of m L) (sym d.multiplies) ∙ poly_product m L g d.quotient c d.canonical ∙ mul_comm R _ _)

  pub divides_from : (g f : List ℕ) → Canonical m g → Canonical m f → DividesPoly R (poly_of m L g) (poly_of m L f) → Divides m g f
  divides_from g f cg cf d = record {
    quotient = list_of m L d.0;
    canonical = list_of_canonical m L d.0;
    multiplies = poly_of_injective m L _ f (product_canonical m L g _) cf
        (poly_product m L g _ cg (list_of_canonical m L d.0) ∙ ap (R.◌⊗◌ (poly_of m L g)) (poly_of_list m L d.0) ∙ mul_comm R _ _ ∙ sym d.1);
  }

  pub split_product : (f : List ℕ) (s : Splits m f) → poly_of m L f ≡ R.◌⊗◌ (poly_of m L s.left) (poly_of m L s.right)
  split_product f s = ap (poly_of m L) (sym s.multiplies) ∙ poly_product m L _ _ s.left_canonical s.right_canonical

  pub splits_to : (f : List ℕ) → Splits m f → SplitsPoly (poly_of m L f)
  splits_to f s = record {
    left = poly_of m L s.left;
    right = poly_of m L s.right;
    product = split_product f s;
    left_positive = positive_size m L _ s.left_canonical s.left_positive;
    right_positive = positive_size m L _ s.right_canonical s.right_positive;
  }

  list_positive : (f : P m L) → 2 ≤ size f → 0 < degree (list_of m L f)
  list_positive f h = size_positive m L _ (list_of_canonical m L f) (subst (λ (x : P m L). 2 ≤ size x) (sym (poly_of_list m L f)) h)

  pub splits_from : (f : List ℕ) → Canonical m f → SplitsPoly (poly_of m L f) → Splits m f
  splits_from f c s = record {
    left = list_of m L s.left;
    right = list_of m L s.right;
    left_canonical = list_of_canonical m L s.left;
    right_canonical = list_of_canonical m L s.right;
    left_positive = list_positive s.left s.left_positive;
    right_positive = list_positive s.right s.right_positive;
    multiplies = poly_of_injective m L _ f (product_canonical m L _ _) c
        (poly_product m L _ _ (list_of_canonical m L s.left) (list_of_canonical m L s.right) ∙ ap₂ R.◌⊗◌ (poly_of_list m L s.left) (poly_of_list m L s.right) ∙ sym s.product);
  }

  pub unsplittable_to : (f : List ℕ) → Unsplittable m f → Irreducible (poly_of m L f)
  unsplittable_to f u = record {
    positive = positive_size m L f u.0 u.1;
    alone = λ a b e p q. u.2 (splits_from f u.0 (record { left = a; right = b; product = e; left_positive = p; right_positive = q }));
  }

  pub unsplittable_from : (f : List ℕ) → Canonical m f → Irreducible (poly_of m L f) → Unsplittable m f
  unsplittable_from f c i = (c, size_positive m L f c i.positive, λ s. let w = splits_to f s in i.alone w.left w.right w.product w.left_positive w.right_positive)

module _ (F : FieldMeaning) (L : FieldLaws F) where
  abbrev m : RingMeaning
  m = F.ring

  abbrev poly : List ℕ → P m L.ring
  poly = poly_of m L.ring

  abbrev G : Field (CodeScalars m L.ring)
  G = code_field F L

  -- the greatest common divisor of the statements has the size of that of the algebra
  pub common_size : (f g d : List ℕ) → Canonical m f → Canonical m g → 1 ≤ size (poly f) → IsCommonDivisor m f g d → size (poly d) ≡ size (gcd_of G (poly f) (poly g)).gcd
  common_size f g d cf cg h c = omega (arith, dvd_size G (poly d) e.gcd e_some d_e, dvd_size G e.gcd (poly d) d_some e_d)
    where
      e : Gcd (poly f) (poly g)
      e = gcd_of G (poly f) (poly g)

      d_f : DividesPoly (Polys (CodeScalars m L.ring)) (poly d) (poly f)
      d_f = divides_to m L.ring d f c.canonical c.divides_left

      d_e : DividesPoly (Polys (CodeScalars m L.ring)) (poly d) e.gcd
      d_e = greatest (poly f) (poly g) e (poly d) d_f (divides_to m L.ring d g c.canonical c.divides_right)

      k : List ℕ
      k = list_of m L.ring e.gcd

      ck : Canonical m k
      ck = list_of_canonical m L.ring e.gcd

      same : poly k ≡ e.gcd
      same = poly_of_list m L.ring e.gcd

      divides : (x : List ℕ) → Canonical m x → DividesPoly (Polys (CodeScalars m L.ring)) e.gcd (poly x) → Divides m k x
      divides x cx z = divides_from m L.ring k x ck cx (subst (λ (y : P m L.ring). DividesPoly (Polys (CodeScalars m L.ring)) y (poly x)) (sym same) z)

      e_d : DividesPoly (Polys (CodeScalars m L.ring)) e.gcd (poly d)
      e_d = subst (λ (y : P m L.ring). DividesPoly (Polys (CodeScalars m L.ring)) y (poly d)) same (divides_to m L.ring k d ck (c.greatest k ck (divides f cf e.left) (divides g cg e.right)))

      d_some : 1 ≤ size (poly d)
      d_some = (factors G (poly f) d_f.0 (poly d) h d_f.1).right

      e_some : 1 ≤ size e.gcd
      e_some = (factors G (poly f) e.left.0 e.gcd h e.left.1).right

  -- degrees of a product that is not zero add up
  pub product_degree : (f g h : List ℕ) → Canonical m f → Canonical m g → Canonical m h → 1 ≤ size (poly f) → product m g h ≡ f → (degree g + degree h ≡ degree f) × (1 ≤ size (poly g)) × (1 ≤ size (poly h))
  product_degree f g h cf cg ch k e =
      let w = factors G (poly f) (poly g) (poly h) k (ap poly (sym e) ∙ poly_product m L.ring g h cg ch) in
      (omega (arith, w.sizes, w.left, w.right, size_degree m L.ring f cf k, size_degree m L.ring g cg w.left, size_degree m L.ring h ch w.right), w.left, w.right)
