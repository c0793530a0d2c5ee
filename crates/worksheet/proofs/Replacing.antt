-- The part at a place, taken out, settled or replaced by its pieces; how many parts and how large multiplicities that makes.
-- Main statements: each_part_at, within_at, without_at, settle_at, total_at, longer_at; place_longer.
use Rattle.std.proofs.Common.{◌≡◌, ℕ, zero, suc, ◌+◌, ◌*◌, ◌<◌, ◌≤◌, List, [], ◌∷◌, ◌++◌, length, take, drop, set, Some, sym, refl, ap, ◌∙◌, subst, inl, inr, mul-le-mul_left, arith}
use Rattle.std.proofs.lemmas.Option.{same_Some}
use Rattle.std.specs.List.{remove}
use Rattle.field.specs.Ring.{RingMeaning}
use Rattle.field.specs.Polynomial.{degree}
use Rattle.field.specs.Ranges.{some_none}
use Rattle.worksheet.specs.Sheet.{PartMeaning, place, without, settle, settled, part_at, total_degree, Each, GoodPart, Ordered}
use Rattle.worksheet.proofs.Limits.{parts_degree}
use Rattle.worksheet.proofs.Measures.{degree_cons}
use Rattle.worksheet.proofs.PartLists.{PlaceView, place_view, place_none, without_found, settle_found}

pub each_part_at : (P : PartMeaning → Type 0) (ps : List PartMeaning) (i : ℕ) (p : PartMeaning) → part_at ps i ≡ Some p → Each P ps → P p
unfolding part_at
each_part_at P [] i p e a = absurd (some_none (sym e))
each_part_at P (q ∷ ps) zero p e a = subst P (same_Some q p e) a.0
each_part_at P (q ∷ ps) (suc i) p e a = each_part_at P ps i p e a.1

pub within_at : (ps : List PartMeaning) (i : ℕ) (p : PartMeaning) → part_at ps i ≡ Some p → i < length ps
unfolding part_at
within_at [] i p e = absurd (some_none (sym e))
within_at (q ∷ ps) zero p e = omega arith
within_at (q ∷ ps) (suc i) p e = omega (arith, within_at ps i p e)

-- the list taken apart at a place
parted : (ps : List PartMeaning) (i : ℕ) (p : PartMeaning) → part_at ps i ≡ Some p → ps ≡ take i ps ++ p ∷ drop (suc i) ps
unfolding part_at
parted [] i p e = absurd (some_none (sym e))
parted (q ∷ ps) zero p e = ap (λ (x : PartMeaning). x ∷ ps) (same_Some q p e)
parted (q ∷ ps) (suc i) p e = ap (λ (x : List PartMeaning). q ∷ x) (parted ps i p e)

set_parted : (ps : List PartMeaning) (i : ℕ) (p x : PartMeaning) → part_at ps i ≡ Some p → set ps i x ≡ take i ps ++ x ∷ drop (suc i) ps
unfolding part_at
set_parted [] i p x e = absurd (some_none (sym e))
set_parted (q ∷ ps) zero p x e = refl
set_parted (q ∷ ps) (suc i) p x e = ap (λ (y : List PartMeaning). q ∷ y) (set_parted ps i p x e)

module _ (ps : List PartMeaning) (i : ℕ) (p : PartMeaning) (here : part_at ps i ≡ Some p) where
  pub without_at : Ordered ps → without p.codes ps ≡ remove ps i
  without_at o = ap (without p.codes) (parted ps i p here) ∙ without_found (take i ps) p (drop (suc i) ps) (subst Ordered (parted ps i p here) o)

  pub settle_at : Ordered ps → settle p.codes ps ≡ set ps i (settled p)
  settle_at o =
      ap (settle p.codes) (parted ps i p here) ∙ settle_found (take i ps) p (drop (suc i) ps) (subst Ordered (parted ps i p here) o)
      ∙ sym (set_parted ps i p (settled p) here)

pub total_at : (ps : List PartMeaning) (i : ℕ) (p : PartMeaning) → part_at ps i ≡ Some p → degree p.codes * p.times ≤ total_degree ps
unfolding part_at
total_at [] i p e = absurd (some_none (sym e))
total_at (q ∷ ps) zero p e = omega (arith, degree_cons q ps, ap (λ (x : PartMeaning). degree x.codes * x.times) (same_Some q p e))
total_at (q ∷ ps) (suc i) p e = omega (arith, degree_cons q ps, total_at ps i p e)

-- a part of degree above 1 leaves room for another
pub longer_at : (m : RingMeaning) (ps : List PartMeaning) (i : ℕ) (p : PartMeaning) → part_at ps i ≡ Some p → Each (GoodPart m) ps → 1 < degree p.codes → length ps < total_degree ps
unfolding part_at
longer_at m [] i p e a h = absurd (some_none (sym e))
longer_at m (q ∷ ps) zero p e a h =
    let two : 2 ≤ degree q.codes = subst (λ (x : PartMeaning). 2 ≤ degree x.codes) (sym (same_Some q p e)) h in
    omega (arith, degree_cons q ps, parts_degree m ps a.1, mul-le-mul_left (degree q.codes) a.0.times)
longer_at m (q ∷ ps) (suc i) p e a h =
    omega (arith, degree_cons q ps, longer_at m ps i p e a.1 h, mul-le-mul_left (degree q.codes) a.0.times, a.0.positive)

pub place_longer : (f : List ℕ) (n : ℕ) (ps : List PartMeaning) → length (place f n ps) ≤ length ps + 1
place_longer f n [] = omega (arith, ap length (place_none f n))
place_longer f n (p ∷ ps) = go (place_view f n p ps) (place_longer f n ps)
  where
    go : PlaceView f n p ps → length (place f n ps) ≤ length ps + 1 → length (place f n (p ∷ ps)) ≤ suc (length ps) + 1
    go (inl v) rec = omega (arith, ap length v.1)
    go (inr (inl v)) rec = omega (arith, ap length v.1, rec)
    go (inr (inr v)) rec = omega (arith, ap length v.1)
