-- Kind 1: the root and its codes.
-- Main statement: root_written.
use Rattle.std.proofs.Common.{◌≡◌, ℕ, ◌+◌, ◌*◌, ◌/◌, ◌<◌, ◌≤◌, List, length, sym, refl, ap, ◌∙◌, div-le_self, arith}
use native.Mathlib.Nat.{div-eq_of_eq-mul_left}
use Rattle.field.specs.Ring.{power}
use Rattle.field.specs.Field.{FieldMeaning, FieldLaws}
use Rattle.field.specs.Polynomial.{coefficient, degree, derivative, zero_polynomial}
use Rattle.field.specs.Rows.{Written}
use Rattle.field.specs.Coefficients.{polynomial_at}
use Rattle.poly.specs.Calls.{written}
use Rattle.split.specs.Splitting.{root_of}
use Rattle.split.specs.Calls.{Taken}
use Rattle.split.proofs.Splittings.{IsRoot, kind_root}
use Rattle.split.proofs.Buffers.{front_written}

module _ (F : FieldMeaning) (L : FieldLaws F) (f : List ℕ) (t : Taken F.ring f) (z : derivative F.ring f ≡ zero_polynomial) where
  abbrev r : List ℕ
  r = root_of F f

  is_root : IsRoot F L f r
  is_root = kind_root F L f t.canonical t.monic t.positive r (z, refl)

  root_degree : degree f / F.characteristic ≡ degree r
  root_degree = div-eq_of_eq-mul_left L.characteristic.positive is_root.degrees

  root_long : length r ≡ degree f / F.characteristic + 1
  root_long = omega (arith, root_degree, is_root.canonical.some_code)

  pub root_written : (old new : List ℕ) (p n : ℕ) → p ≡ F.characteristic → n ≡ F.ring.order / p → length new ≡ length old → length f ≤ length old
      → Written old new 0 (degree f / p + 1) (λ i. power F.ring (coefficient f (p * i)) n) → new ≡ written r old
  root_written old new p n ep en same room w = front_written r old new (degree f / p + 1) same fits long (record { inside = inside; before = w.before; after = w.after })
    where
      long : length r ≡ degree f / p + 1
      long = root_long ∙ ap (λ (x : ℕ). degree f / x + 1) (sym ep)

      fits : length r ≤ length old
      fits = omega (arith, long, div-le_self (degree f) p, t.positive)

      inside : (i : ℕ) → i < degree f / p + 1 → coefficient new (0 + i) ≡ coefficient r i
      inside i h =
          w.inside i h
          ∙ ap (λ (x : ℕ). power F.ring (coefficient f (p * i)) x) (en ∙ ap (λ (x : ℕ). F.ring.order / x) ep)
          ∙ ap (λ (x : ℕ). power F.ring (coefficient f (x * i)) (F.ring.order / F.characteristic)) ep
          ∙ sym (polynomial_at (length f) _ i (omega (arith, div-le_self (degree f) p, t.positive)))
