-- A monic polynomial of positive degree stays whole exactly if it does not split.
-- Main statements: whole_or_splits, whole_unsplittable.
use Rattle.std.proofs.Common.{◌≡◌, ℕ, ◌<◌, ◌⊎◌, List, refl, subst, inl, inr}
use Rattle.field.specs.Field.{FieldMeaning, FieldLaws}
use Rattle.field.specs.Polynomial.{degree, Canonical, Monic, Splits}
use Rattle.field.proofs.Factors.{splits_from, unsplittable_from}
use Rattle.split.specs.Splitting.{Splitting, root, repeated, shifted, whole, SplitsInto, WholeUnsplittable}
use Rattle.split.proofs.Splittings.{kind_root, kind_repeated, kind_shifted, kind_whole, root_splits, pair_splits}
use Rattle.split.proofs.OneSplitting.{one_way}

module _ (F : FieldMeaning) (L : FieldLaws F) (f : List ℕ) (c : Canonical F.ring f) (e : Monic F.ring f) (p : 0 < degree f) where
  -- each kind but the last gives two polynomials of positive degree
  pub whole_or_splits : (s : Splitting) → SplitsInto F f s → (s ≡ whole) ⊎ Splits F.ring f
  whole_or_splits (root r) k = inr (splits_from F.ring L.ring f c (root_splits F L f r (kind_root F L f c e p r k)))
  whole_or_splits (repeated g h) k = inr (splits_from F.ring L.ring f c (pair_splits F L f g h (kind_repeated F L f c e p g h k)))
  whole_or_splits (shifted g h) k = inr (splits_from F.ring L.ring f c (pair_splits F L f g h (kind_shifted F L f c e p g h k)))
  whole_or_splits whole k = inl refl

pub whole_unsplittable : WholeUnsplittable
whole_unsplittable F L f c e p = (
  λ k. (unsplittable_from F.ring L.ring f c (kind_whole F L f c e p k)).2,
  λ n. let w = one_way F L f c e p in elim (whole_or_splits F L f c e p w.0 w.1) [ inl q ↦ subst (SplitsInto F f) q w.1 | inr s ↦ absurd (n s) ],
)
