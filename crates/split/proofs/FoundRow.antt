-- Row d + e of the scratch, where row e is dependent: the least fixed polynomial, with zeros behind it.
-- Main statements: found_least, found_residue.
use Rattle.std.proofs.Common.{◌≡◌, ℕ, suc, ◌+◌, ◌-◌, ◌*◌, ◌<◌, ◌≤◌, List, length, get_or, take, drop, sym, refl, ap, ◌∙◌, subst, arith}
use native.Mathlib.Decide.{dec_lt}
use lib.ListN.{get_or-eq_default}
use Rattle.std.proofs.lemmas.List.{length-take-le, get_or-take}
use Rattle.std.proofs.lemmas.List.Edits.{length-between, get_or-between}
use Rattle.field.specs.Field.{FieldMeaning, FieldLaws}
use Rattle.field.specs.Polynomial.{coefficient, degree}
use Rattle.field.specs.Rows.{IsRow}
use Rattle.field.specs.Scalars.{zero_is_code}
use Rattle.split.specs.Matrix.{cell, Codes, Dependent}
use Rattle.split.specs.Calls.{Taken}
use Rattle.split.specs.Splitting.{LeastFixed}
use Rattle.split.specs.FixedRows.{Residue, FixedRows}
use Rattle.split.proofs.Rows.{row_facts, combination_code}
use Rattle.split.proofs.Modulo.{modulo_same}
use Rattle.split.proofs.FixedByRows.{least_found}

row_within : (d e n : ℕ) → e < d → 2 * (d * d) ≤ n → (d + e) * d + d ≤ n
row_within d e n h fits = let f = row_facts d e h in omega (arith, f.row_within, f.combination_at)

found_row : (codes fixed : List ℕ) (d e : ℕ) → e < d → 2 * (d * d) ≤ length codes
    → fixed ≡ take ((d + e) * d + d - (d + e) * d) (drop ((d + e) * d) codes) → IsRow fixed d (cell codes d (d + e))
found_row codes fixed d e h fits is = record {
  sized = ap length is ∙ length-between codes p (p + d) (row_within d e (length codes) h fits) ∙ count;
  at = λ i l. ap (λ (xs : List ℕ). get_or xs i 0) is ∙ get_or-between codes p (p + d) i 0 (omega arith);
}
  where
    p : ℕ
    p = (d + e) * d

    count : p + d - p ≡ d
    count = omega arith

-- its first codes
found_front : (codes fixed : List ℕ) (d e : ℕ) → e < d → IsRow fixed d (cell codes d (d + e)) → IsRow (take (e + 1) fixed) (suc e) (cell codes d (d + e))
found_front codes fixed d e h row = record {
  sized = length-take-le (e + 1) fixed (omega (arith, row.sized)) ∙ omega arith;
  at = λ i l. get_or-take (e + 1) fixed i 0 (omega arith) ∙ row.at i (omega arith);
}

-- the row that is copied out of the scratch
module _ (F : FieldMeaning) (L : FieldLaws F) (f : List ℕ) (t : Taken F.ring f) (old new fixed : List ℕ) (e : ℕ) (hnew : Codes F.ring (2 * (degree f * degree f)) new) (dep : Dependent F.ring (degree f) e old new)
    (fits : 2 * (degree f * degree f) ≤ length new)
    (is : fixed ≡ take ((degree f + e) * degree f + degree f - (degree f + e) * degree f) (drop ((degree f + e) * degree f) new)) where
  row : IsRow fixed (degree f) (cell new (degree f) (degree f + e))
  row = found_row new fixed (degree f) e dep.high fits is

  pub found_least : Codes F.ring (degree f * degree f) old → FixedRows F.ring f (degree f) old → LeastFixed F.ring f (take (e + 1) fixed)
  found_least hold rows = least_found F L f t.canonical t.positive (degree f) refl old hold rows new hnew e dep (take (e + 1) fixed) (found_front new fixed (degree f) e dep.high row)

  -- behind its first codes there is nothing
  pub found_residue : Residue F.ring f (take (e + 1) fixed) fixed
  found_residue = record { sized = row.sized; codes = coded; same = modulo_same F.ring L.ring f t.canonical (take (e + 1) fixed) fixed front coded same }
    where
      coded : (i : ℕ) → coefficient fixed i < F.ring.order
      coded i = elim (dec_lt i (degree f)) [
        | yes h ↦ subst (λ (x : ℕ). x < F.ring.order) (sym (row.at i h)) (combination_code F.ring (degree f) e i new hnew dep.high h)
        | no h ↦ subst (λ (x : ℕ). x < F.ring.order) (sym (get_or-eq_default fixed 0 (omega (arith, row.sized)))) (zero_is_code F.ring L.ring)
      ]

      long : length (take (e + 1) fixed) ≡ e + 1
      long = length-take-le (e + 1) fixed (omega (arith, row.sized, dep.high))

      same : (i : ℕ) → coefficient (take (e + 1) fixed) i ≡ coefficient fixed i
      same i = elim (dec_lt i (e + 1)) [
        | yes h ↦ get_or-take (e + 1) fixed i 0 h
        | no h ↦ get_or-eq_default (take (e + 1) fixed) 0 (omega (arith, long)) ∙ sym (rest i h)
      ]
        where
          rest : (k : ℕ) → (k < e + 1 → ⊥) → coefficient fixed k ≡ 0
          rest k h = elim (dec_lt k (degree f)) [
            | yes l ↦ row.at k l ∙ dep.none_beyond k (omega (arith, h)) l
            | no l ↦ get_or-eq_default fixed 0 (omega (arith, row.sized))
          ]

      front : (i : ℕ) → coefficient (take (e + 1) fixed) i < F.ring.order
      front i = subst (λ (x : ℕ). x < F.ring.order) (sym (same i)) (coded i)
