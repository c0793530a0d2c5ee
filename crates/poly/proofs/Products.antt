-- The codes of a product, summed up row by row: after k rows place n holds the terms f_i g_(n-i) for each i below k that is at most n.
-- Main statements: partial_none, partial_more, partial_all; product_shorter.
use Rattle.std.proofs.Common.{◌≡◌, ℕ, suc, ◌+◌, ◌-◌, ◌<◌, ◌≤◌, min, List, length, get_or, sym, ap, ◌∙◌, subst, arith}
use native.Mathlib.Decide.{dec_lt}
use Rattle.std.proofs.lemmas.List.{get_or_past}
use Rattle.field.specs.Ring.{RingMeaning, RingLaws, total}
use Rattle.field.specs.Polynomial.{coefficient, polynomial, product}
use Rattle.field.specs.Rows.{IsRow, Written}
use Rattle.field.specs.Scalars.{total_code}
use Rattle.field.proofs.Rows.{polynomial_last}
use Rattle.field.proofs.Totals.{total_none, total_more, total_beyond, product_with_zero, zero_with_product}

-- f_i g_(n-i)
abbrev pub term : RingMeaning → List ℕ → List ℕ → ℕ → ℕ → ℕ
term m f g n i = m.product (coefficient f i) (coefficient g (n - i))

-- after k rows
abbrev pub Partial : RingMeaning → List ℕ → List ℕ → ℕ → List ℕ → Type 0
Partial m f g k row = IsRow row (length f + length g - 1) (λ n. total m (min k (suc n)) (term m f g n))

module _ (m : RingMeaning) (L : RingLaws m) (f g : List ℕ) where
  pub partial_none : (row : List ℕ) → IsRow row (length f + length g - 1) (λ _. 0) → Partial m f g 0 row
  partial_none row w = record { sized = w.sized; at = λ n h. w.at n h ∙ sym (none n) }
    where
      none : (n : ℕ) → total m (min 0 (suc n)) (term m f g n) ≡ 0
      none n = let e : min 0 (suc n) ≡ 0 = omega arith in ap (λ (k : ℕ). total m k (term m f g n)) e ∙ total_none m (term m f g n)

  pub partial_more : (old new : List ℕ) (k : ℕ) → k < length f → Partial m f g k old → length new ≡ length old →
      Written old new k (length g) (λ i. m.sum (get_or old (k + i) 0) (m.product (coefficient f k) (coefficient g i))) → Partial m f g (k + 1) new
  partial_more old new k l w e p = record { sized = e ∙ w.sized; at = λ n h. at n h (dec_lt n k) (dec_lt n (k + length g)) }
    where
      same : (n : ℕ) → min k (suc n) ≡ min (k + 1) (suc n) → n < length f + length g - 1 → get_or new n 0 ≡ get_or old n 0 → get_or new n 0 ≡ total m (min (k + 1) (suc n)) (term m f g n)
      same n q h r = r ∙ w.at n h ∙ ap (λ (j : ℕ). total m j (term m f g n)) q

      -- the row has a term for place n
      next : (n : ℕ) → k ≤ n → n < length f + length g - 1 → total m (min (k + 1) (suc n)) (term m f g n) ≡ m.sum (get_or old n 0) (term m f g n k)
      next n a h =
          let more : min (k + 1) (suc n) ≡ suc k = omega arith in
          let less : min k (suc n) ≡ k = omega arith in
          ap (λ (j : ℕ). total m j (term m f g n)) more ∙ total_more m k (term m f g n)
          ∙ ap (λ (x : ℕ). m.sum x (term m f g n k)) (ap (λ (j : ℕ). total m j (term m f g n)) (sym less) ∙ sym (w.at n h))

      at : (n : ℕ) → n < length f + length g - 1 → Dec (n < k) → Dec (n < k + length g) → get_or new n 0 ≡ total m (min (k + 1) (suc n)) (term m f g n)
      at n h (yes a) b = same n (omega arith) h (p.before n a)
      at n h (no a) (yes b) =
          let back : k + (n - k) ≡ n = omega arith in
          sym (ap (λ (j : ℕ). get_or new j 0) back) ∙ p.inside (n - k) (omega arith) ∙ ap (λ (j : ℕ). m.sum (get_or old j 0) (term m f g n k)) back ∙ sym (next n (omega arith) h)
      at n h (no a) (no b) =
          p.after n (omega arith) ∙ sym (next n (omega arith) h ∙ ap (m.sum (get_or old n 0)) (ap (m.product (coefficient f k)) (get_or_past g (n - k) 0 (omega arith)) ∙ product_with_zero m L (coefficient f k))
          ∙ L.sum_zero (get_or old n 0) (subst (λ (x : ℕ). x < m.order) (sym (w.at n h)) (total_code m L _ _)))

  past_left : (n i : ℕ) → length f ≤ i → term m f g n i ≡ 0
  past_left n i h = ap (λ (x : ℕ). m.product x (coefficient g (n - i))) (get_or_past f i 0 h) ∙ zero_with_product m L (coefficient g (n - i))

  past_right : (n i : ℕ) → length g ≤ n - i → term m f g n i ≡ 0
  past_right n i h = ap (m.product (coefficient f i)) (get_or_past g (n - i) 0 h) ∙ product_with_zero m L (coefficient f i)

  pub partial_all : (row : List ℕ) → Partial m f g (length f) row → IsRow row (length f + length g - 1) (λ n. total m (suc n) (term m f g n))
  partial_all row w = record { sized = w.sized; at = λ n h. w.at n h ∙ whole n (dec_lt n (length f)) }
    where
      whole : (n : ℕ) → Dec (n < length f) → total m (min (length f) (suc n)) (term m f g n) ≡ total m (suc n) (term m f g n)
      whole n (yes a) = let e : min (length f) (suc n) ≡ suc n = omega arith in ap (λ (k : ℕ). total m k (term m f g n)) e
      whole n (no a) =
          let e : min (length f) (suc n) ≡ length f = omega arith in
          let d : length f + (suc n - length f) ≡ suc n = omega arith in
          ap (λ (k : ℕ). total m k (term m f g n)) e ∙ sym (total_beyond m L (term m f g n) (length f) (suc n - length f) (λ i h. past_left n i h)) ∙ ap (λ (k : ℕ). total m k (term m f g n)) d

  -- the last of the places is zero
  pub product_shorter : 0 < length f → 0 < length g → polynomial (length f + length g - 1) (λ n. total m (suc n) (term m f g n)) ≡ product m f g
  product_shorter a b =
      sym (polynomial_last last (λ n. total m (suc n) (term m f g n)) (ap (λ (k : ℕ). total m k (term m f g last)) from_none ∙ total_beyond m L (term m f g last) 0 (suc last) (λ i h. zeros i (dec_lt i (length f))) ∙ total_none m (term m f g last)))
      ∙ ap (λ (n : ℕ). polynomial n (λ n. total m (suc n) (term m f g n))) whole
    where
      last : ℕ
      last = length f + length g - 1

      from_none : suc (length f + length g - 1) ≡ 0 + suc (length f + length g - 1)
      from_none = omega arith

      whole : suc (length f + length g - 1) ≡ length f + length g
      whole = omega arith

      zeros : (i : ℕ) → Dec (i < length f) → term m f g (length f + length g - 1) i ≡ 0
      zeros i (yes h) = past_right (length f + length g - 1) i (omega arith)
      zeros i (no h) = past_left (length f + length g - 1) i (omega arith)
