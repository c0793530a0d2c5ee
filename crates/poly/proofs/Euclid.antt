-- Euclid's algorithm on rows of codes: the common divisor of dividend and divisor stays that of the two polynomials given, and the divisor
-- gets smaller.
-- Main statements: same_inverse, same_division; padded_row, padded_coded, padded_same; Reducing, size_of, reducing_none, reducing_more, reducing_less, reducing_all.
use Rattle.std.proofs.Common.{◌≡◌, ℕ, ◌+◌, ◌-◌, ◌<◌, ◌≤◌, Bool, true, false, cond, eqb, ◌≢◌, ◌⊎◌, List, ◌++◌, length, get_or, drop, replicate, sym, refl, ap, ◌∙◌, subst, inl, inr, arith, ne_eqb}
use native.Mathlib.Decide.{dec_lt}
use Rattle.std.proofs.lemmas.List.{get_or_past, get_or-drop, get_or-replicate, get_or_append_left, get_or-append_right, length-append, length-drop, length-replicate}
use Rattle.field.specs.Ring.{RingMeaning, RingLaws, one}
use Rattle.field.specs.Polynomial.{coefficient, degree, leading, zero_polynomial, trimmed, or_zero, Canonical, IsDivision, IsCommonDivisor}
use Rattle.field.specs.Rows.{IsRow}
use Rattle.field.specs.Polynomials.{Coded, code_at, canonical_unique}
use Rattle.field.proofs.RowPolynomials.{trimmed_coefficient, trimmed_canonical, leading_zero}
use Rattle.field.proofs.Divisions.{common_step}
use Rattle.poly.specs.Faults.{most_codes}

-- what a divisor is known by, at the field and the polynomial that it was made of
module _ {A : Type 0} (meaning : A → RingMeaning) (x y : A) (same : x ≡ y) (f g : List ℕ) (of : f ≡ g) where
  pub same_inverse : (u : ℕ) → (meaning x).product (leading f) u ≡ one (meaning x) → (meaning y).product (leading g) u ≡ one (meaning y)
  same_inverse u e = subst (λ (z : A). (meaning z).product (leading g) u ≡ one (meaning z)) same (subst (λ (p : List ℕ). (meaning x).product (leading p) u ≡ one (meaning x)) of e)

  pub same_division : (h q r : List ℕ) → IsDivision (meaning x) h f q r → IsDivision (meaning y) h g q r
  same_division h q r d = subst (λ (z : A). IsDivision (meaning z) h g q r) same (subst (λ (p : List ℕ). IsDivision (meaning x) h p q r) of d)

-- a row of a polynomial with zeros after it
pub padded_row : (f : List ℕ) (n : ℕ) → length f ≤ n → IsRow (f ++ drop (length f) (replicate n 0)) n (coefficient f)
padded_row f n short = record {
  sized = length-append f zeros ∙ omega (arith, length-drop {A = ℕ} (length f) (replicate n 0), length-replicate {A = ℕ} n 0);
  at = λ i h. at i h (dec_lt i (length f));
}
  where
    zeros : List ℕ
    zeros = drop (length f) (replicate n 0)

    at : (i : ℕ) → i < n → Dec (i < length f) → get_or (f ++ zeros) i 0 ≡ coefficient f i
    at i h (yes l) = get_or_append_left f zeros 0 i l
    at i h (no l) =
        get_or-append_right f zeros (length f) i 0 refl (omega arith) ∙ get_or-drop (length f) (replicate n 0) (i - length f) 0
        ∙ get_or-replicate n (length f + (i - length f)) 0 0 (omega arith) ∙ sym (get_or_past f i 0 (omega arith))

module _ (m : RingMeaning) (L : RingLaws m) (f row : List ℕ) (n : ℕ) (c : Canonical m f) (short : length f ≤ n) (w : IsRow row n (coefficient f)) where
  padded_at : (i : ℕ) → get_or row i 0 ≡ coefficient f i
  padded_at i = elim (dec_lt i n) [
    | yes h ↦ w.at i h
    | no h ↦ get_or_past row i 0 (omega (arith, w.sized)) ∙ sym (get_or_past f i 0 (omega arith))
  ]

  pub padded_coded : Coded m row
  padded_coded i = subst (λ (x : ℕ). x < m.order) (sym (padded_at i)) (code_at m L f c i)

  pub padded_same : or_zero (trimmed row) ≡ f
  padded_same = canonical_unique m (or_zero (trimmed row)) f (trimmed_canonical m L row padded_coded) c (λ i. trimmed_coefficient row i ∙ padded_at i)

-- before each turn
pub record Reducing (m : RingMeaning) (f g dividend divisor : List ℕ) : Type 0 where
  pub dividend_sized : length dividend ≡ most_codes
  pub divisor_sized : length divisor ≡ most_codes
  pub dividend_codes : Coded m dividend
  pub divisor_codes : Coded m divisor
  pub same : (d : List ℕ) → IsCommonDivisor m (or_zero (trimmed dividend)) (or_zero (trimmed divisor)) d → IsCommonDivisor m f g d

-- the length of a polynomial, but 0 for zero
abbrev pub size_of : List ℕ → ℕ
size_of p = cond (eqb (leading p) 0) 0 (length p)

size_small : (b : Bool) (n : ℕ) → cond b 0 n ≤ n
size_small true n = omega arith
size_small false n = omega arith

module _ (m : RingMeaning) (L : RingLaws m) (f g : List ℕ) where
  pub reducing_none : (dividend divisor : List ℕ) → Canonical m f × (length f ≤ most_codes) → Canonical m g × (length g ≤ most_codes) →
      IsRow dividend most_codes (coefficient f) → IsRow divisor most_codes (coefficient g) → Reducing m f g dividend divisor
  reducing_none dividend divisor cf cg rf rg = record {
    dividend_sized = rf.sized;
    divisor_sized = rg.sized;
    dividend_codes = padded_coded m L f dividend most_codes cf.0 cf.1 rf;
    divisor_codes = padded_coded m L g divisor most_codes cg.0 cg.1 rg;
    same = λ d w. subst (λ (x : List ℕ). IsCommonDivisor m x g d) (padded_same m L f dividend most_codes cf.0 cf.1 rf)
        (subst (λ (x : List ℕ). IsCommonDivisor m (or_zero (trimmed dividend)) x d) (padded_same m L g divisor most_codes cg.0 cg.1 rg) w);
  }

  module _ (dividend divisor : List ℕ) (r : Reducing m f g dividend divisor) where
    abbrev by : List ℕ
    by = or_zero (trimmed divisor)

    pub divisor_canonical : Canonical m (or_zero (trimmed divisor))
    divisor_canonical = trimmed_canonical m L divisor r.divisor_codes

    module _ (rest q : List ℕ) (long : length rest ≡ length dividend)
        (divided : IsDivision m (or_zero (trimmed dividend)) (or_zero (trimmed divisor)) q (or_zero (trimmed rest))) where
      -- the remainder is the next divisor
      pub reducing_more : Reducing m f g divisor rest
      reducing_more = record {
        dividend_sized = r.divisor_sized;
        divisor_sized = long ∙ r.dividend_sized;
        dividend_codes = r.divisor_codes;
        divisor_codes = λ i. subst (λ (x : ℕ). x < m.order) (trimmed_coefficient rest i) (code_at m L (or_zero (trimmed rest)) divided.remainder_canonical i);
        same = λ d w. r.same d (common_step m L (or_zero (trimmed dividend)) by q (or_zero (trimmed rest)) d (trimmed_canonical m L dividend r.dividend_codes) divisor_canonical divided w);
      }

      -- and is smaller
      pub reducing_less : or_zero (trimmed divisor) ≢ zero_polynomial → size_of (or_zero (trimmed rest)) < size_of (or_zero (trimmed divisor))
      reducing_less h = subst (λ (s : ℕ). size_of (or_zero (trimmed rest)) < s) (sym (ap (λ (b : Bool). cond b 0 (length by)) (ne_eqb (leading by) 0 (λ z. h (leading_zero m L by divisor_canonical z))))) (go divided.lower)
        where
          go : (or_zero (trimmed rest) ≡ zero_polynomial) ⊎ (degree (or_zero (trimmed rest)) < degree (or_zero (trimmed divisor))) → size_of (or_zero (trimmed rest)) < length (or_zero (trimmed divisor))
          go (inl z) = subst (λ (p : List ℕ). size_of p < length by) (sym z) divisor_canonical.some_code
          go (inr l) = omega (arith, size_small (eqb (leading (or_zero (trimmed rest))) 0) (length (or_zero (trimmed rest))))

    -- the divisor has become zero
    pub reducing_all : (d : List ℕ) → or_zero (trimmed divisor) ≡ zero_polynomial → IsCommonDivisor m (or_zero (trimmed dividend)) zero_polynomial d → IsCommonDivisor m f g d
    reducing_all d z w = r.same d (subst (λ (x : List ℕ). IsCommonDivisor m (or_zero (trimmed dividend)) x d) (sym z) w)
