-- The simplest sieves: f itself where the least fixed polynomial is X, and zero.
-- Main statements: variable_is, itself_is, zero_is.
use Rattle.std.proofs.Common.{◌≡◌, ℕ, zero, suc, ◌-◌, List, length, sym, ap, ◌∙◌, subst, arith}
use lib.ListN.{get_or-eq_default}
use Rattle.field.specs.Ring.{RingMeaning, RingLaws}
use Rattle.field.specs.Field.{FieldMeaning, FieldLaws}
use Rattle.field.specs.Polynomial.{coefficient, zero_polynomial}
use Rattle.field.specs.Polynomials.{canonical_unique, zero_canonical}
use Rattle.split.specs.Splitting.{LeastFixed}
use Rattle.split.specs.Calls.{Taken}
use Rattle.split.specs.FixedRows.{variable}
use Rattle.split.specs.Sieve.{IsSieve}
use Rattle.split.proofs.Modulo.{variable_canonical}
use Rattle.split.proofs.SimpleKinds.{zero_sieves}
use Rattle.split.proofs.Sieving.{sieve_itself}

-- a least fixed polynomial of two codes is X
pub variable_is : (m : RingMeaning) (L : RingLaws m) (f Q : List ℕ) → LeastFixed m f Q → length Q ≡ 2 → Q ≡ variable m
variable_is m L f Q k two = canonical_unique m Q (variable m) k.fixed.canonical (variable_canonical m L) at
  where
    at : (i : ℕ) → coefficient Q i ≡ coefficient (variable m) i
    at zero = k.constant_zero
    at (suc zero) = let s : 1 ≡ length Q - 1 = omega arith in ap (coefficient Q) s ∙ k.monic
    at (suc (suc i)) = get_or-eq_default Q 0 (omega arith)

-- f itself, where the least fixed polynomial is of degree one
pub itself_is : (F : FieldMeaning) (L : FieldLaws F) (f Q : List ℕ) → Taken F.ring f → LeastFixed F.ring f Q → length Q ≡ 2 → (t : List ℕ) → t ≡ f → IsSieve F.ring f Q t
itself_is F L f Q taken k two t e = subst (IsSieve F.ring f Q) (sym e)
    (record { canonical = taken.canonical; sieves = sieve_itself F L f Q taken.canonical k.fixed.canonical (variable_is F.ring L.ring f Q k two) })

pub zero_is : (m : RingMeaning) → RingLaws m → (f Q t : List ℕ) → t ≡ zero_polynomial → IsSieve m f Q t
zero_is m L f Q t e = subst (IsSieve m f Q) (sym e) (record { canonical = zero_canonical m L; sieves = zero_sieves m L f Q })
