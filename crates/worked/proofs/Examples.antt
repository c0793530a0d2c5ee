-- The worked examples.
-- Main statement: examples.
use Rattle.std.proofs.Common.{[], ◌∷◌, None, refl, arith, lit<}
use Rattle.field.specs.Checks.{below, seek, same}
use Rattle.field.specs.Ring.{total, power}
use Rattle.field.specs.Field.{FieldLaws}
use Rattle.field.specs.Residues.{prime_field}
use Rattle.field.specs.Polynomial.{trimmed, polynomial_power, constant}
use Rattle.field.specs.Quotient.{digits, from_digits, reduced}
use Rattle.field.specs.Tests.{all_below}
use Rattle.field.specs.PrimeFields.{prime_field_laws}
use Rattle.field.proofs.Unsplittable.{undivided, unsplit}
use Rattle.split.specs.Splitting.{root, repeated, shifted, whole, SplitsInto}
use Rattle.extension.specs.Extension.{Extends}
use Rattle.extension.specs.Moduli.{told}
use Rattle.extension.specs.Judging.{extensions_are_fields}
use Rattle.worksheet.specs.Sheet.{total_degree, smaller, place, without, settle, next_open}
use Rattle.worked.specs.Examples.{Examples, order_4}
use Rattle.worked.proofs.Splitting.{common, stays, by_divisor, by_shift, replaces}

-- what is computed with
computing : Unit {0}
unfolding below seek same total power trimmed polynomial_power digits from_digits reduced total_degree smaller place without settle next_open all_below undivided unsplit
computing = tt

laws_2 : FieldLaws (prime_field 2)
unfolding computing
laws_2 = prime_field_laws 2 refl (omega arith)

laws_3 : FieldLaws (prime_field 3)
unfolding computing
laws_3 = prime_field_laws 3 refl (omega arith)

laws_5 : FieldLaws (prime_field 5)
unfolding computing
laws_5 = prime_field_laws 5 refl (omega arith)

-- t² + t + 1 over order 2
whole_2 : SplitsInto (prime_field 2) (1 ∷ 1 ∷ 1 ∷ []) whole
unfolding computing
whole_2 = stays (prime_field 2) laws_2 (1 ∷ 1 ∷ 1 ∷ []) 1 refl refl (lit< tt) (lit< tt) refl

extends_2 : Extends (prime_field 2) 2 3 None
unfolding computing
extends_2 = whole_2

laws_4 : FieldLaws order_4
laws_4 = extensions_are_fields (prime_field 2) laws_2 2 3 extends_2

-- X² + 1 over order 5
split_5 : SplitsInto (prime_field 5) (1 ∷ 0 ∷ 1 ∷ []) (shifted (3 ∷ 1 ∷ []) (2 ∷ 1 ∷ []))
unfolding computing
split_5 =
    let divisor = common (prime_field 5) laws_5 in
    by_shift (prime_field 5) laws_5 (3 ∷ 1 ∷ []) (2 ∷ 1 ∷ []) refl refl (0 ∷ 4 ∷ 0 ∷ 1 ∷ []) 2 refl refl (lit< tt) (lit< tt) (lit< tt)
    (divisor (constant 1) (1 ∷ 0 ∷ 1 ∷ []) (0 ∷ 2 ∷ []) (1 ∷ []) (0 ∷ 2 ∷ []) refl)
    ((tt, divisor (constant 1) (1 ∷ 0 ∷ 1 ∷ []) (0 ∷ 1 ∷ []) (1 ∷ []) (0 ∷ 4 ∷ []) refl), divisor (constant 1) (1 ∷ 0 ∷ 1 ∷ []) (4 ∷ 1 ∷ []) (3 ∷ []) (2 ∷ 2 ∷ []) refl)
    (divisor (3 ∷ 1 ∷ []) (2 ∷ 1 ∷ []) (1 ∷ []) (0 ∷ []) (1 ∷ []) refl)

-- X² + 2 over order 3
split_3 : SplitsInto (prime_field 3) (2 ∷ 0 ∷ 1 ∷ []) (shifted (2 ∷ 1 ∷ []) (1 ∷ 1 ∷ []))
unfolding computing
split_3 =
    let divisor = common (prime_field 3) laws_3 in
    by_shift (prime_field 3) laws_3 (2 ∷ 1 ∷ []) (1 ∷ 1 ∷ []) refl refl (0 ∷ 1 ∷ []) 1 refl refl (lit< tt) (lit< tt) (lit< tt)
    (divisor (constant 1) (2 ∷ 0 ∷ 1 ∷ []) (0 ∷ 2 ∷ []) (2 ∷ []) (0 ∷ 2 ∷ []) refl)
    (tt, divisor (constant 1) (2 ∷ 0 ∷ 1 ∷ []) (0 ∷ 1 ∷ []) (2 ∷ []) (0 ∷ 1 ∷ []) refl)
    (divisor (2 ∷ 1 ∷ []) (1 ∷ 1 ∷ []) (1 ∷ []) (0 ∷ []) (1 ∷ []) refl)

-- X² + X + 1 over order 4
split_4 : SplitsInto order_4 (1 ∷ 1 ∷ 1 ∷ []) (shifted (2 ∷ 1 ∷ []) (3 ∷ 1 ∷ []))
unfolding computing
split_4 =
    let divisor = common order_4 laws_4 in
    by_shift order_4 laws_4 (2 ∷ 1 ∷ []) (3 ∷ 1 ∷ []) refl refl (0 ∷ 1 ∷ 1 ∷ []) 2 refl refl (lit< tt) (lit< tt) (lit< tt)
    (divisor (constant 1) (1 ∷ 1 ∷ 1 ∷ []) (1 ∷ []) (0 ∷ []) (1 ∷ []) refl)
    ((tt, divisor (constant 1) (1 ∷ 1 ∷ 1 ∷ []) (0 ∷ 1 ∷ []) (1 ∷ []) (1 ∷ 1 ∷ []) refl), divisor (constant 1) (1 ∷ 1 ∷ 1 ∷ []) (1 ∷ 1 ∷ []) (1 ∷ []) (0 ∷ 1 ∷ []) refl)
    (divisor (2 ∷ 1 ∷ []) (3 ∷ 1 ∷ []) (1 ∷ []) (0 ∷ []) (1 ∷ []) refl)

-- X³ + X² + 2X + 2 over order 3
repeated_3 : SplitsInto (prime_field 3) (2 ∷ 2 ∷ 1 ∷ 1 ∷ []) (repeated (1 ∷ 1 ∷ []) (2 ∷ 0 ∷ 1 ∷ []))
unfolding computing
repeated_3 = by_divisor (prime_field 3) laws_3 (1 ∷ 1 ∷ []) (2 ∷ 0 ∷ 1 ∷ []) refl refl (common (prime_field 3) laws_3 (1 ∷ 1 ∷ []) (2 ∷ 0 ∷ 1 ∷ []) (2 ∷ []) (0 ∷ []) (2 ∷ []) refl) (lit< tt)

-- X + 1 and X + 2 over order 3
line_3 : SplitsInto (prime_field 3) (1 ∷ 1 ∷ []) whole × SplitsInto (prime_field 3) (2 ∷ 1 ∷ []) whole
unfolding computing
line_3 = (stays (prime_field 3) laws_3 (1 ∷ 1 ∷ []) 0 refl refl (lit< tt) (lit< tt) refl, stays (prime_field 3) laws_3 (2 ∷ 1 ∷ []) 0 refl refl (lit< tt) (lit< tt) refl)

pub examples : Examples
unfolding computing
examples = record {
  symbols = (refl, refl);
  made_256 = (refl, refl);
  made_251 = (refl, refl);
  made_1 = (refl, refl);
  made_257 = (refl, refl);
  over_2 = (extends_2, refl, (refl, told (prime_field 2) (1 ∷ 0 ∷ 1 ∷ []) (root (1 ∷ 1 ∷ [])) (refl, refl) (1, 1, 0) refl));
  over_3 = (stays (prime_field 3) laws_3 (2 ∷ 2 ∷ 1 ∷ []) 1 refl refl (lit< tt) (lit< tt) refl, refl);
  high_over_3 = λ n. (refl, refl);
  sheet_5 = (_, (refl, refl, refl), (_, (refl, replaces (prime_field 5) (shifted (3 ∷ 1 ∷ []) (2 ∷ 1 ∷ [])) refl split_5, refl), refl));
  sheet_3 = (
    _,
    (refl, refl, refl),
    (
      _,
      (refl, replaces (prime_field 3) (repeated (1 ∷ 1 ∷ []) (2 ∷ 0 ∷ 1 ∷ [])) refl repeated_3, refl),
      (
        _,
        (refl, replaces (prime_field 3) whole refl line_3.0, refl),
        (
          _,
          (refl, replaces (prime_field 3) (shifted (2 ∷ 1 ∷ []) (1 ∷ 1 ∷ [])) refl split_3, refl),
          (_, (refl, replaces (prime_field 3) whole refl line_3.1, refl), refl),
        ),
      ),
    ),
  );
  sheet_2 = (_, (refl, refl, refl), (_, (refl, replaces (prime_field 2) (root (1 ∷ 1 ∷ 1 ∷ [])) refl (refl, refl), refl), (_, (refl, replaces (prime_field 2) whole refl whole_2, refl), refl)));
  sheet_4 = (_, (refl, refl, refl), (_, (refl, replaces order_4 (shifted (2 ∷ 1 ∷ []) (3 ∷ 1 ∷ [])) refl split_4, refl), refl));
  square_4 = (_, (refl, refl, refl), (_, (refl, replaces order_4 (root (3 ∷ 1 ∷ [])) refl (refl, refl), refl), refl));
}
