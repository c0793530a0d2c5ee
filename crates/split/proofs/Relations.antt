-- The relation that a dependent row tells.
-- Main statement: relation_written.
use Rattle.std.proofs.Common.{◌≡◌, ℕ, zero, suc, ◌+◌, ◌-◌, ◌*◌, ◌<◌, ◌≤◌, eqb, ◌≢◌, List, ◌++◌, length, get_or, take, drop, set, sym, ap, ◌∙◌, subst, arith}
use Rattle.std.proofs.lemmas.List.{length-set, get_or-set_same, get_or-set_other, set-append_left, take_at}
use Rattle.std.proofs.lemmas.Bool.{cond-false, ne_eqb}
use Rattle.field.specs.Ring.{RingMeaning}
use Rattle.field.specs.Polynomial.{coefficient}
use Rattle.field.specs.Rows.{IsRow}
use Rattle.split.specs.Matrix.{cell, combined}
use Rattle.split.specs.Sieve.{relation_at}
use Rattle.split.proofs.SimpleKinds.{combination_row}

-- the first codes of row d + e, with another constant, before the rest of a buffer
pub relation_written : (m : RingMeaning) (codes constants front rest : List ℕ) (d e v : ℕ) → e < d → 2 * (d * d) ≤ length codes
    → front ≡ take ((d + e) * d + e + 1 - (d + e) * d) (drop ((d + e) * d) codes)
    → v ≡ m.opposite (combined m e (cell codes d (d + e)) (coefficient constants))
    → (t : List ℕ) → t ≡ take (e + 1) (set (front ++ rest) 0 v) → IsRow t (suc e) (relation_at m codes d e constants)
relation_written m codes constants front rest d e v h fits is c t told = subst (λ (x : List ℕ). IsRow x (suc e) (relation_at m codes d e constants)) (sym (told ∙ begins)) (record { sized = sized; at = at })
  where
    row : IsRow front (suc e) (cell codes d (d + e))
    row = combination_row codes front d e h fits is

    sized : length (set front 0 v) ≡ suc e
    sized = length-set front 0 v ∙ row.sized

    at : (i : ℕ) → i < suc e → get_or (set front 0 v) i 0 ≡ relation_at m codes d e constants i
    at zero l = get_or-set_same front 0 v 0 (omega (arith, row.sized)) ∙ c
    at (suc i) l =
        let ne : suc i ≢ 0 = omega arith in
        get_or-set_other front 0 (suc i) v 0 ne ∙ row.at (suc i) l ∙ sym (cond-false (eqb (suc i) 0) _ _ (ne_eqb (suc i) 0 ne))

    parts : set (front ++ rest) 0 v ≡ set front 0 v ++ rest
    parts = set-append_left front rest 0 v (omega (arith, row.sized))

    begins : take (e + 1) (set (front ++ rest) 0 v) ≡ set front 0 v
    begins = ap (take (e + 1)) parts ∙ take_at (set front 0 v) rest (e + 1) (omega (arith, sized))
