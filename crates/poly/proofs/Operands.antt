-- An operand that is not refused is a polynomial of at most `most_codes` codes, and each such polynomial is taken; why any other
-- operand is refused.
-- Main statements: taken_is_canonical, canonical_is_taken; refused_code, refused_last; zero_refused, divisor_taken; passes, both_none.
use Rattle.std.proofs.Common.{◌≡◌, ℕ, ◌+◌, ◌<◌, ◌≤◌, Bool, true, false, not, ◌&&◌, ◌||◌, eqb, leb, ◌≢◌, List, length, Some, None, Option, refl, ap, subst, ap₂, inl, inr, arith, eq-eqb, ne_eqb, eqb-true, le-leb, leb-false, leb-true}
use native.Mathlib.Decide.{dec_lt}
use borrow.Author.Tests.{lt-leb, clash}
use Rattle.field.specs.Checks.{unless, between, ◌or_else◌}
use Rattle.field.specs.Ring.{RingMeaning}
use Rattle.field.specs.Polynomial.{coefficient, leading, degree, Canonical}
use Rattle.field.specs.Tests.{both_left, both_right, either, refuted}
use Rattle.field.specs.Searches.{Sought, sought, first_found, none_found}
use Rattle.field.specs.Ranges.{some_none, passed, first_none, second_none}
use Rattle.poly.specs.declared.fault.PolyFault.{PolyFault}
use Rattle.poly.specs.declared.fault.PolyFault.TheVariants.{Length, NotCode, LastZero, ZeroDivisor}
use Rattle.poly.specs.Faults.{most_codes, at_index, first_bad, is_zero, operand_refusal, operands_refusal, division_refusal}

pub passes : (b : Bool) (e : PolyFault) → b ≡ true → unless b e ≡ None
passes true e h = refl
passes false e h = absurd (clash h)

pub both_none : (o p : Option PolyFault) → o ≡ None → p ≡ None → (o or_else p) ≡ None
both_none o p a b = rw (a, b)

-- the second of two checks refuses
pub second_some : (o p : Option PolyFault) (e : PolyFault) → o ≡ None → p ≡ Some e → (o or_else p) ≡ Some e
second_some o p e a b = rw (a, b)

first_some : (o p : Option PolyFault) (e : PolyFault) → o ≡ Some e → (o or_else p) ≡ Some e
first_some o p e a = rw a

index_none : (o : Option ℕ) → at_index o ≡ None → o ≡ None
index_none None h = refl
index_none (Some i) h = absurd (some_none h)

or_right : (a b : Bool) → b ≡ true → (a || b) ≡ true
or_right true b h = refl
or_right false b h = h

-- the three checks of an operand
module _ (m : RingMeaning) (f : List ℕ) where
  abbrev sized : Option PolyFault
  sized = unless (between 1 most_codes (length f)) Length

  abbrev coded : Option PolyFault
  coded = at_index (first_bad m f)

  abbrev ended : Option PolyFault
  ended = unless (eqb (length f) 1 || not (eqb (leading f) 0)) (LastZero (degree f))

  abbrev is_bad : ℕ → Bool
  is_bad i = leb m.order (coefficient f i)

  pub taken_is_canonical : operand_refusal m f ≡ None → Canonical m f × (length f ≤ most_codes)
  taken_is_canonical e = (
    record {
      some_code = leb-true 1 (length f) (both_left (leb 1 (length f)) (leb (length f) most_codes) fits);
      codes = λ i h. leb-false m.order (coefficient f i) (all i (omega arith) (omega arith));
      leads = λ h z. elim (either (eqb (length f) 1) (not (eqb (leading f) 0)) ends) [
        | inl p ↦ let q : length f ≡ 1 = eqb-true (length f) 1 p in omega arith
        | inr p ↦ refuted (eqb (leading f) 0) p (eq-eqb (leading f) 0 z)
      ];
    },
    leb-true (length f) most_codes (both_right (leb 1 (length f)) (leb (length f) most_codes) fits),
  )
    where
      fits : between 1 most_codes (length f) ≡ true
      fits = passed (between 1 most_codes (length f)) Length (first_none sized (coded or_else ended) e)

      rest : (coded or_else ended) ≡ None
      rest = second_none sized (coded or_else ended) e

      all : (i : ℕ) → 0 ≤ i → i < 0 + length f → is_bad i ≡ false
      all = subst (Sought is_bad 0 (length f)) (index_none (first_bad m f) (first_none coded ended rest)) (sought is_bad 0 (length f))

      ends : (eqb (length f) 1 || not (eqb (leading f) 0)) ≡ true
      ends = passed (eqb (length f) 1 || not (eqb (leading f) 0)) (LastZero (degree f)) (second_none coded ended rest)

  module _ (some : 0 < length f) (short : length f ≤ most_codes) where
    sized_none : sized ≡ None
    sized_none = passes (between 1 most_codes (length f)) Length (ap₂ ◌&&◌ (le-leb 1 (length f) some) (le-leb (length f) most_codes short))

    coded_none : ((i : ℕ) → i < length f → coefficient f i < m.order) → coded ≡ None
    coded_none h = ap at_index (none_found (length f) is_bad (λ i l. lt-leb m.order (coefficient f i) (h i l)))

    -- the first code that is none of the ring's
    pub refused_code : (i : ℕ) → i < length f → ((k : ℕ) → k < i → coefficient f k < m.order) → m.order ≤ coefficient f i → operand_refusal m f ≡ Some (NotCode i)
    refused_code i l h b =
        second_some sized (coded or_else ended) (NotCode i) sized_none (first_some coded ended (NotCode i)
        (ap at_index (first_found (length f) is_bad i l (λ k n. lt-leb m.order (coefficient f k) (h k n)) (le-leb m.order (coefficient f i) b))))

    -- the last of several codes is 0
    pub refused_last : ((i : ℕ) → i < length f → coefficient f i < m.order) → 1 < length f → leading f ≡ 0 → operand_refusal m f ≡ Some (LastZero (degree f))
    refused_last h l z =
        second_some sized (coded or_else ended) (LastZero (degree f)) sized_none (second_some coded ended (LastZero (degree f)) (coded_none h)
        (ap (λ (b : Bool). unless b (LastZero (degree f))) (ap₂ (λ (a b : Bool). a || not b) (ne_eqb (length f) 1 (λ e. omega arith)) (eq-eqb (leading f) 0 z))))

  pub canonical_is_taken : Canonical m f → length f ≤ most_codes → operand_refusal m f ≡ None
  canonical_is_taken k l =
      both_none sized (coded or_else ended) (sized_none k.some_code l) (both_none coded ended (coded_none k.some_code l k.codes)
      (passes (eqb (length f) 1 || not (eqb (leading f) 0)) (LastZero (degree f)) (ends (dec_lt 1 (length f)))))
    where
      ends : Dec (1 < length f) → (eqb (length f) 1 || not (eqb (leading f) 0)) ≡ true
      ends (yes h) = or_right (eqb (length f) 1) (not (eqb (leading f) 0)) (ap not (ne_eqb (leading f) 0 (k.leads h)))
      ends (no h) = ap (λ (b : Bool). b || not (eqb (leading f) 0)) (eq-eqb (length f) 1 (omega (arith, k.some_code)))

-- the divisor of a division whose operands are polynomials: refused if its last code is 0
module _ (m : RingMeaning) (f g : List ℕ) (fits : operand_refusal m f ≡ None) (goes : operand_refusal m g ≡ None) where
  last_zero : leading g ≡ 0 → is_zero g ≡ true
  last_zero z = ap₂ ◌&&◌ (eq-eqb (length g) 1 one_code) (eq-eqb (leading g) 0 z)
    where
      one_code : length g ≡ 1
      one_code = elim (dec_lt 1 (length g)) [
        | yes h ↦ absurd ((taken_is_canonical m g goes).0.leads h z)
        | no h ↦ omega (arith, (taken_is_canonical m g goes).0.some_code)
      ]

  pub zero_refused : leading g ≡ 0 → division_refusal m f g ≡ Some ZeroDivisor
  zero_refused z = second_some (operands_refusal m f g) _ ZeroDivisor (both_none (operand_refusal m f) (operand_refusal m g) fits goes) (ap (λ (b : Bool). unless (not b) ZeroDivisor) (last_zero z))

  pub divisor_taken : leading g ≢ 0 → division_refusal m f g ≡ None
  divisor_taken h = both_none (operands_refusal m f g) _ (both_none (operand_refusal m f) (operand_refusal m g) fits goes) (ap (λ (b : Bool). unless (not b) ZeroDivisor) (no_zero (eqb (length g) 1)))
    where
      no_zero : (b : Bool) → (b && eqb (leading g) 0) ≡ false
      no_zero true = ne_eqb (leading g) 0 h
      no_zero false = refl
