use Rattle.std.proofs.Common.{◌≡◌, ℕ, ◌≤◌, Bool, not, eqb, List, replicate, MatchBool, sym, refl, ◌∙◌, subst, arith}
use denote.Enum.Bare.{sameb}
use Rattle.field.specs.Ring.{RingMeaning, RingLaws}
use Rattle.field.specs.Field.{FieldMeaning, means}
use Rattle.field.specs.Quotient.{modulus}
use Rattle.field.specs.Ranges.{InRange, in_range}
use Rattle.split.specs.Splitting.{whole, SplitsInto, scratch_size}
use Rattle.split.specs.declared.kind.Kind.{Kind}
use Rattle.split.specs.declared.kind.Kind.TheVariants.{Root, Repeated, Shifted, Whole}
use Rattle.split.specs.contracts.kind.Kind.{the_type}
use Rattle.split.specs.Kinds.{kind_number}
use Rattle.split.specs.Calls.{Taken}
use Rattle.extension.specs.Moduli.{row_modulus, modulus_taken, modulus_room, Otherwise, told}
use Rattle.extension.proofs.making.modulus_splits.Goals as goal

-- the test of a kind is that of its number
same_test : (kind : Kind) → not (sameb the_type kind Whole) ≡ not (eqb (kind_number kind) 4)
same_test Root = refl
same_test Repeated = refl
same_test Shifted = refl
same_test Whole = refl

pub returns-in-Some : goal.returns-in-Some
returns-in-Some g c =
    let r : RingMeaning = g.F.Ring.meaning c.args.base.now in
    let F : FieldMeaning = means r (g.F.Field.extras c.args.base.now) in
    let k : ℕ = c.args.k in
    let n : ℕ = c.args.m in
    let f : List ℕ = c.write_modulus.new.row in
    let range : InRange r k n = in_range r k n c.requires.range in
    let is : f ≡ modulus r k n = row_modulus r k n (replicate 17 0) f c.write_modulus.ensures (omega (arith, range.top)) in
    let w = c.in-Some.ensures.works.2 in
    subst (λ (b : Bool). MatchBool b (Otherwise F (modulus r k n)) (SplitsInto F (modulus r k n) whole)) (sym (c.ne.ensures ∙ same_test c.in-Some.kind))
    (subst (λ (x : List ℕ). MatchBool (not (eqb (kind_number c.in-Some.kind) 4)) (Otherwise F x) (SplitsInto F x whole)) is (told F f w.into w.splits _ w.answers))

pub returns-in-None : goal.returns-in-None
returns-in-None g c =
    let r : RingMeaning = g.F.Ring.meaning c.args.base.now in
    let L : RingLaws r = g.met.F.Ring.ring c.args.base.now c.requires.made in
    let k : ℕ = c.args.k in
    let n : ℕ = c.args.m in
    let f : List ℕ = c.write_modulus.new.row in
    let range : InRange r k n = in_range r k n c.requires.range in
    let is : f ≡ modulus r k n = row_modulus r k n (replicate 17 0) f c.write_modulus.ensures (omega (arith, range.top)) in
    absurd (c.in-None.ensures.works.0 (subst (Taken r) (sym is) (modulus_taken r L k n range)) (subst (λ (x : List ℕ). scratch_size x ≤ 512) (sym is) (modulus_room r L k n range)))
