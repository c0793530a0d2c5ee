-- What the test of the two tables of the symbol field shows of each entry.
-- Main statements: tabulated, product_read, inverse_read.
use Rattle.std.proofs.Common.{◌≡◌, ℕ, zero, suc, ◌+◌, ◌-◌, ◌<◌, true, ◌&&◌, eqb, ltb, List, [], ◌∷◌, length, get_or, Some, sym, ap, ◌∙◌, subst, le_of_suc-le-suc, not-suc-le-zero, add-zero, add-suc, suc-add, zero-add, arith, ltb-true, eqb-true}
use Rattle.field.specs.Symbol.{symbol_ring, symbol_extras, alpha_power, Tabulated}
use Rattle.field.specs.Tables.{times_alpha, goes, undone, undoes, tables_pass}
use Rattle.field.specs.Tests.{both_left, both_right}
use Rattle.field.proofs.AlphaPowers.{alpha_step, alpha_one, product_by, inverse_by}

goes_at : (xs : List ℕ) (i : ℕ) → goes (alpha_power i) xs ≡ true → (k : ℕ) → k < length xs → get_or xs k 0 ≡ alpha_power (i + k)
unfolding goes
goes_at [] i t k h = absurd (not-suc-le-zero h)
goes_at (x ∷ xs) i t zero h = eqb-true x (alpha_power i) (both_left (eqb x (alpha_power i)) (goes (times_alpha (alpha_power i)) xs) t) ∙ ap alpha_power (sym (add-zero i))
goes_at (x ∷ xs) i t (suc k) h =
    goes_at xs (suc i) (subst (λ (p : ℕ). goes p xs ≡ true) (alpha_step i) (both_right (eqb x (alpha_power i)) (goes (times_alpha (alpha_power i)) xs) t)) k (le_of_suc-le-suc h)
    ∙ ap alpha_power (suc-add i k ∙ sym (add-suc i k))

powers_at : (xs : List ℕ) → goes 1 xs ≡ true → (k : ℕ) → k < length xs → get_or xs k 0 ≡ alpha_power k
powers_at xs t k h = goes_at xs 0 (subst (λ (p : ℕ). goes p xs ≡ true) (sym alpha_one) t) k h ∙ ap alpha_power (zero-add k)

module _ (powers : List ℕ) where
  undoes_at : (xs : List ℕ) (i : ℕ) → undoes powers i xs ≡ true → (k : ℕ) → k < length xs → undone powers (i + k) (get_or xs k 0) ≡ true
  unfolding undoes
  undoes_at [] i t k h = absurd (not-suc-le-zero h)
  undoes_at (x ∷ xs) i t zero h = ap (λ n. undone powers n x) (add-zero i) ∙ both_left (undone powers i x) (undoes powers (suc i) xs) t
  undoes_at (x ∷ xs) i t (suc k) h =
      ap (λ n. undone powers n (get_or xs k 0)) (add-suc i k ∙ sym (suc-add i k))
      ∙ undoes_at xs (suc i) (both_right (undone powers i x) (undoes powers (suc i) xs) t) k (le_of_suc-le-suc h)

  undone_is : (k x : ℕ) → 0 < k → undone powers k x ≡ true → (x < 255) × (get_or powers x 0 ≡ k)
  undone_is zero x h t = absurd (not-suc-le-zero h)
  undone_is (suc k) x h t =
      (ltb-true x 255 (both_left (ltb x 255) (eqb (get_or powers x 0) (suc k)) t), eqb-true (get_or powers x 0) (suc k) (both_right (ltb x 255) (eqb (get_or powers x 0) (suc k)) t))

  exponents_at : (xs : List ℕ) → undoes powers 0 xs ≡ true → (k : ℕ) → 0 < k → k < length xs → (get_or xs k 0 < 255) × (get_or powers (get_or xs k 0) 0 ≡ k)
  exponents_at xs t k p h = undone_is k (get_or xs k 0) p (ap (λ n. undone powers n (get_or xs k 0)) (sym (zero-add k)) ∙ undoes_at xs 0 t k h)

pub tabulated : (powers exponents : List ℕ) → tables_pass powers exponents ≡ true → Tabulated powers exponents
tabulated powers exponents t = record {
  power_count = count;
  power_at = power_at;
  exponent_count = size;
  exponent_at = λ a p h.
      let e = exponents_at powers exponents (both_right (eqb (length exponents) 256) (undoes powers 0 exponents) second) a p (omega (arith, size)) in
      (e.0, sym (power_at (get_or exponents a 0) (omega (arith, e.0))) ∙ e.1);
}
  where
    second : ◌≡◌ (eqb (length exponents) 256 && undoes powers 0 exponents) true
    second = both_right (eqb (length powers) 510 && goes 1 powers) (eqb (length exponents) 256 && undoes powers 0 exponents) t

    first : ◌≡◌ (eqb (length powers) 510 && goes 1 powers) true
    first = both_left (eqb (length powers) 510 && goes 1 powers) (eqb (length exponents) 256 && undoes powers 0 exponents) t

    count : length powers ≡ 510
    count = eqb-true (length powers) 510 (both_left (eqb (length powers) 510) (goes 1 powers) first)

    size : length exponents ≡ 256
    size = eqb-true (length exponents) 256 (both_left (eqb (length exponents) 256) (undoes powers 0 exponents) second)

    power_at : (i : ℕ) → i < 510 → get_or powers i 0 ≡ alpha_power i
    power_at i h = powers_at powers (both_right (eqb (length powers) 510) (goes 1 powers) first) i (omega (arith, count))

module _ (powers exponents : List ℕ) (t : Tabulated powers exponents) where
  -- what is read at a code but 0
  exponent_of : (a i x : ℕ) → 0 < a → a < 256 → i ≡ a → x ≡ get_or exponents i 0 → (x < 255) × (alpha_power x ≡ a)
  exponent_of a i x p h e r =
      let w = t.exponent_at a p h in
      let same : x ≡ get_or exponents a 0 = r ∙ ap (λ (k : ℕ). get_or exponents k 0) e in
      (omega (arith, w.0, same), ap alpha_power same ∙ w.1)

  -- the power at the sum of two exponents is the product
  pub product_read : (a b i j x y : ℕ) → 0 < a → a < 256 → 0 < b → b < 256 → i ≡ a → j ≡ b → x ≡ get_or exponents i 0 → y ≡ get_or exponents j 0 →
      get_or powers (x + y) 0 ≡ symbol_ring.product a b
  product_read a b i j x y p h q k e f r s =
      let v = exponent_of a i x p h e r in
      let w = exponent_of b j y q k f s in
      t.power_at (x + y) (omega (arith, v.0, w.0)) ∙ product_by a b x y v.1 w.1

  -- the power at 255 less the exponent is the inverse
  pub inverse_read : (a i x : ℕ) → 0 < a → a < 256 → i ≡ a → x ≡ get_or exponents i 0 → Some (get_or powers (255 - x) 0) ≡ symbol_extras.inverse a
  inverse_read a i x p h e r =
      let w = exponent_of a i x p h e r in
      ap Some (t.power_at (255 - x) (omega arith)) ∙ inverse_by a x p h w.0 w.1
