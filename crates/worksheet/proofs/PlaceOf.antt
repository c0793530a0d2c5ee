-- Placing a part by its place: where the codes stand already the part there grows, and else a new part is inserted.
-- Main statements: place_within, place_grows, place_inserts.
use Rattle.std.proofs.Common.{◌≡◌, ℕ, suc, ◌≤◌, Bool, true, false, List, [], ◌∷◌, length, set, Some, sym, refl, ap, ◌∙◌, arith}
use Rattle.std.proofs.lemmas.Option.{same_Some}
use Rattle.std.specs.List.{insert}
use Rattle.std.proofs.lemmas.Bool.{cond-true, cond-false}
use Rattle.field.specs.Checks.{same}
use Rattle.field.specs.Ranges.{some_none}
use Rattle.field.specs.Tests.{list_test}
use Rattle.worksheet.specs.Sheet.{PartMeaning, new_part, grown, before, place, part_at}
use Rattle.worksheet.specs.Places.{place_of}
use Rattle.worksheet.proofs.PartOrder.{before_apart}
use Rattle.worksheet.proofs.PartLists.{not_same}

module _ (f : List ℕ) (p : PartMeaning) (ps : List PartMeaning) where
  pub place_on : before p.codes f ≡ true → place_of f (p ∷ ps) ≡ suc (place_of f ps)
  unfolding place_of
  place_on h = cond-true (before p.codes f) _ _ h

  pub place_here : before p.codes f ≡ false → place_of f (p ∷ ps) ≡ 0
  unfolding place_of
  place_here h = cond-false (before p.codes f) _ _ h

pub place_end : (f : List ℕ) → place_of f [] ≡ 0
unfolding place_of
place_end f = refl

pub place_within : (f : List ℕ) (ps : List PartMeaning) → place_of f ps ≤ length ps
place_within f [] = omega (arith, place_end f)
place_within f (p ∷ ps) = go (before p.codes f) refl (place_within f ps)
  where
    go : (b : Bool) → before p.codes f ≡ b → place_of f ps ≤ length ps → place_of f (p ∷ ps) ≤ suc (length ps)
    go true e h = omega (arith, place_on f p ps e)
    go false e h = omega (arith, place_here f p ps e)

module _ (f : List ℕ) (n : ℕ) where
  -- placing where the first part is before f, has the codes f, or is neither
  passes : (p : PartMeaning) (ps : List PartMeaning) → before p.codes f ≡ true → place f n (p ∷ ps) ≡ p ∷ place f n ps
  unfolding place
  passes p ps h = cond-false (same p.codes f) _ _ (not_same p.codes f (before_apart p.codes f h)) ∙ cond-true (before p.codes f) _ _ h

  grows : (p : PartMeaning) (ps : List PartMeaning) → p.codes ≡ f → place f n (p ∷ ps) ≡ grown n p ∷ ps
  unfolding place
  grows p ps e = cond-true (same p.codes f) _ _ (list_test e)

  starts : (p : PartMeaning) (ps : List PartMeaning) → (p.codes ≡ f → ⊥) → before p.codes f ≡ false → place f n (p ∷ ps) ≡ new_part f n ∷ p ∷ ps
  unfolding place
  starts p ps e h = cond-false (same p.codes f) _ _ (not_same p.codes f e) ∙ cond-false (before p.codes f) _ _ h

  alone : place f n [] ≡ new_part f n ∷ []
  unfolding place
  alone = refl

  pub place_grows : (ps : List PartMeaning) (p : PartMeaning) → part_at ps (place_of f ps) ≡ Some p → p.codes ≡ f → place f n ps ≡ set ps (place_of f ps) (grown n p)
  unfolding part_at
  place_grows [] p a e = absurd (some_none (sym a))
  place_grows (q ∷ ps) p a e = go (before q.codes f) refl (place_grows ps p)
    where
      go : (b : Bool) → before q.codes f ≡ b → (part_at ps (place_of f ps) ≡ Some p → p.codes ≡ f → place f n ps ≡ set ps (place_of f ps) (grown n p)) → place f n (q ∷ ps) ≡ set (q ∷ ps) (place_of f (q ∷ ps)) (grown n p)
      go true h rec =
          let s = place_on f q ps h in
          passes q ps h ∙ ap (λ (x : List PartMeaning). q ∷ x) (rec (sym (ap (part_at (q ∷ ps)) s) ∙ a) e) ∙ sym (ap (λ i. set (q ∷ ps) i (grown n p)) s)
      go false h rec =
          let s = place_here f q ps h in
          let i = same_Some q p (sym (ap (part_at (q ∷ ps)) s) ∙ a) in
          grows q ps (ap (λ (x : PartMeaning). x.codes) i ∙ e) ∙ ap (λ (x : PartMeaning). grown n x ∷ ps) i ∙ sym (ap (λ k. set (q ∷ ps) k (grown n p)) s)

  pub place_inserts : (ps : List PartMeaning) → ((p : PartMeaning) → part_at ps (place_of f ps) ≡ Some p → p.codes ≡ f → ⊥) → place f n ps ≡ insert ps (place_of f ps) (new_part f n)
  unfolding part_at
  place_inserts [] a = alone ∙ sym (ap (λ i. insert [] i (new_part f n)) (place_end f))
  place_inserts (q ∷ ps) a = go (before q.codes f) refl (place_inserts ps)
    where
      go : (b : Bool) → before q.codes f ≡ b → (((p : PartMeaning) → part_at ps (place_of f ps) ≡ Some p → p.codes ≡ f → ⊥) → place f n ps ≡ insert ps (place_of f ps) (new_part f n)) → place f n (q ∷ ps) ≡ insert (q ∷ ps) (place_of f (q ∷ ps)) (new_part f n)
      go true h rec =
          let s = place_on f q ps h in
          passes q ps h ∙ ap (λ (x : List PartMeaning). q ∷ x) (rec (λ p b. a p (ap (part_at (q ∷ ps)) s ∙ b))) ∙ sym (ap (λ i. insert (q ∷ ps) i (new_part f n)) s)
      go false h rec =
          let s = place_here f q ps h in
          starts q ps (a q (ap (part_at (q ∷ ps)) s)) h ∙ sym (ap (λ i. insert (q ∷ ps) i (new_part f n)) s)
