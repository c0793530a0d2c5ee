-- What holds of each part holds of each polynomial that stands, and in permuted lists each stands equally often.
-- Main statements: each_standing, permuted_map, occurrences_permuted.
use Rattle.std.proofs.Common.{◌≡◌, ℕ, ◌+◌, cond, List, [], ◌∷◌, map, replicate, refl, arith}
use Rattle.algebra.specs.Lists.{Put, here, there, Permuted, none, put}
use Rattle.field.specs.Checks.{same}
use Rattle.worksheet.specs.Sheet.{PartMeaning, standing, Each}
use Rattle.worksheet.specs.Law.{occurrences}
use Rattle.worksheet.proofs.EachOf.{each_append, each_replicate}

-- what holds of each part holds of all that stand
pub each_standing : (Q : List ℕ → Type 0) (ps : List PartMeaning) → Each (λ p. Q p.codes) ps → Each Q (standing ps)
unfolding standing
each_standing Q [] h = tt
each_standing Q (p ∷ ps) h = each_append Q (replicate p.times p.codes) (standing ps) (each_replicate Q p.times p.codes h.0) (each_standing Q ps h.1)

module _ {S T : Type 0} (h : S → T) where
  put_map : {x : S} {ys zs : List S} → Put x ys zs → Put (h x) (map h ys) (map h zs)
  put_map here = here
  put_map (there i) = there (put_map i)

  pub permuted_map : {xs ys : List S} → Permuted xs ys → Permuted (map h xs) (map h ys)
  permuted_map none = none
  permuted_map (put p i) = put (permuted_map p) (put_map i)

occurrences_put : (f : List ℕ) {g : List ℕ} {gs hs : List (List ℕ)} → Put g gs hs → occurrences f hs ≡ cond (same f g) 1 0 + occurrences f gs
unfolding occurrences
occurrences_put f here = refl
occurrences_put f (there i) = omega (arith, occurrences_put f i)

pub occurrences_permuted : (f : List ℕ) {fs gs : List (List ℕ)} → Permuted fs gs → occurrences f fs ≡ occurrences f gs
unfolding occurrences
occurrences_permuted f none = refl
occurrences_permuted f (put p i) = omega (arith, occurrences_permuted f p, occurrences_put f i)
