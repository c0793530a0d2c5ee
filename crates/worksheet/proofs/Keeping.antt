-- What a list of calls keeps, from one worksheet to another, and that it holds of two lists in turn.
-- Main statements: Sound, Kept, kept_none, kept_then.
use Rattle.std.proofs.Common.{◌≡◌, ℕ, ◌+◌, ◌≤◌, false, List, [], ◌∷◌, ◌++◌, map, sym, refl, ap, ◌∙◌, arith}
use mathlib.Core.List.{map-append}
use Rattle.algebra.specs.Ring.{Ring}
use Rattle.algebra.specs.Powers.{prod}
use Rattle.algebra.proofs.Powers.{prod_append}
use Rattle.algebra.proofs.Solver.{ring, A, B, C, ◌:*◌}
use Rattle.algebra.proofs.Poly.{Polys}
use Rattle.algebra.proofs.Terms.{const}
use Rattle.field.specs.Ring.{RingMeaning}
use Rattle.field.specs.Field.{FieldMeaning, FieldLaws}
use Rattle.field.specs.Polynomial.{Canonical, Monic}
use Rattle.field.specs.Scalars.{CodeScalars, scalar}
use Rattle.field.specs.Polynomials.{P, poly_of}
use Rattle.worksheet.specs.Sheet.{PartMeaning, SheetMeaning, is_open, Each, GoodSheet}
use Rattle.worksheet.specs.Law.{most_steps}
use Rattle.worksheet.proofs.EachOf.{each_append}
use Rattle.worksheet.proofs.Measures.{weight, worth}

most_steps_append : (fs gs : List (List ℕ)) → most_steps (fs ++ gs) ≡ most_steps fs + most_steps gs
unfolding most_steps
most_steps_append [] gs = omega arith
most_steps_append (f ∷ fs) gs = omega (arith, most_steps_append fs gs)

module _ (F : FieldMeaning) (L : FieldLaws F) where
  abbrev m : RingMeaning
  m = F.ring

  abbrev pub poly : List ℕ → P m L.ring
  poly = poly_of m L.ring

  abbrev pub Ps : Ring (P m L.ring)
  Ps = Polys (CodeScalars m L.ring)

  abbrev pub unit_of : ℕ → P m L.ring
  unit_of u = const (CodeScalars m L.ring) (scalar m L.ring u)

  abbrev pub product_all : List (List ℕ) → P m L.ring
  product_all fs = prod Ps (map poly fs)

  -- the unit times the product of the parts
  abbrev pub holds : SheetMeaning → P m L.ring
  holds s = Ps.◌⊗◌ (unit_of s.unit) (worth Ps poly s.parts)

  pub product_each_append : (fs gs : List (List ℕ)) → product_all (fs ++ gs) ≡ Ps.◌⊗◌ (product_all fs) (product_all gs)
  product_each_append fs gs = ap (prod Ps) (map-append poly fs gs) ∙ prod_append Ps _ _

-- Known says what is known of a part that is not open: for the law, that it does not split.
module _ (F : FieldMeaning) (L : FieldLaws F) (Known : List ℕ → Type 0) where
  abbrev Q : Ring (P F.ring L.ring)
  Q = Ps F L

  abbrev pub Done : PartMeaning → Type 0
  Done p = is_open p.mark ≡ false → Known p.codes

  pub record Sound (s : SheetMeaning) : Type 0 where
    pub good : GoodSheet F.ring s
    pub done : Each Done s.parts

  -- a polynomial that was taken
  pub record Whole (f : List ℕ) : Type 0 where
    pub canonical : Canonical F.ring f
    pub monic : Monic F.ring f
    pub done : Known f

  -- Calls with the entries fs and the takes ts, and n steps, all accepted, that lead from s to t.
  pub record Kept (fs ts : List (List ℕ)) (n : ℕ) (s t : SheetMeaning) : Type 0 where
    pub sound : Sound t
    pub entered : Each (Canonical F.ring) fs
    pub wholes : Each Whole ts
    pub balance : Q.◌⊗◌ (holds F L s) (product_all F L fs) ≡ Q.◌⊗◌ (holds F L t) (product_all F L ts)
    pub few : n + weight t.parts ≤ weight s.parts + most_steps fs

  pub kept_none : (s : SheetMeaning) → Sound s → Kept [] [] 0 s s
  unfolding most_steps
  kept_none s h = record { sound = h; entered = tt; wholes = tt; balance = refl; few = omega arith }

  pub kept_then : {fs fs' ts ts' : List (List ℕ)} {n n' : ℕ} {s t u : SheetMeaning} → Kept fs ts n s u → Kept fs' ts' n' u t → Kept (fs ++ fs') (ts ++ ts') (n + n') s t
  kept_then {fs = fs} {fs' = fs'} {ts = ts} {ts' = ts'} {s = s} {t = t} {u = u} a b = record {
    sound = b.sound;
    entered = each_append (Canonical F.ring) fs fs' a.entered b.entered;
    wholes = each_append Whole ts ts' a.wholes b.wholes;
    balance =
        ap (Q.◌⊗◌ (holds F L s)) (product_each_append F L fs fs')
        ∙ ring Q (holds F L s ∷ product_all F L fs ∷ product_all F L fs' ∷ []) (A :* (B :* C)) (A :* B :* C) refl
        ∙ ap (λ (x : P F.ring L.ring). Q.◌⊗◌ x (product_all F L fs')) a.balance
        ∙ ring Q (holds F L u ∷ product_all F L ts ∷ product_all F L fs' ∷ []) (A :* B :* C) (A :* C :* B) refl
        ∙ ap (λ (x : P F.ring L.ring). Q.◌⊗◌ x (product_all F L ts)) b.balance
        ∙ ring Q (holds F L t ∷ product_all F L ts' ∷ product_all F L ts ∷ []) (A :* B :* C) (A :* (C :* B)) refl
        ∙ ap (Q.◌⊗◌ (holds F L t)) (sym (product_each_append F L ts ts'));
    few = omega (arith, a.few, b.few, most_steps_append fs fs');
  }
