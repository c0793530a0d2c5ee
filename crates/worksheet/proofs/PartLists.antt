-- Lists of parts: where a part is placed, and a list taken apart at the part that a call works on.
-- Main statements: not_same; place_view, place_turns, place_each, place_ordered; Found, found_open, found_at, without_found, settle_found;
-- middle_each, middle_ordered.
use Rattle.std.proofs.Common.{◌≡◌, ℕ, zero, suc, Bool, true, false, ◌⊎◌, List, [], ◌∷◌, ◌++◌, Some, sym, refl, ap, ◌∙◌, subst, ap₂, inl, inr}
use Rattle.std.proofs.lemmas.Option.{same_Some}
use Rattle.field.specs.Checks.{same}
use Rattle.std.proofs.lemmas.Bool.{cond-true, cond-false}
use Rattle.field.specs.Tests.{list_test, equal_list, same_list}
use Rattle.field.specs.Ranges.{some_none}
use Rattle.worksheet.specs.Sheet.{PartMeaning, new_part, grown, before, place, without, settled, settle, is_open, next_open, part_at, taken_once, taken_at, Each, Ordered}
use Rattle.worksheet.proofs.EachOf.{each_map, each_append, each_front, each_back}
use Rattle.worksheet.proofs.PartOrder.{Before, Told, before_total, before_trans, before_apart}

pub not_same : (f g : List ℕ) → (f ≡ g → ⊥) → same f g ≡ false
not_same f g n = go (same f g) refl
  where
    go : (b : Bool) → same f g ≡ b → same f g ≡ false
    go true e = absurd (n (equal_list f g e))
    go false e = e

not_before : (f g : List ℕ) → Before f g → before g f ≡ false
not_before f g h = go (before g f) refl
  where
    go : (b : Bool) → before g f ≡ b → before g f ≡ false
    go true e = absurd (before_apart f f (before_trans f g f h e) refl)
    go false e = e

-- what placing f does at the first part
abbrev pub PlaceView : List ℕ → ℕ → PartMeaning → List PartMeaning → Type 0
PlaceView f n p ps =
    ((p.codes ≡ f) × (place f n (p ∷ ps) ≡ grown n p ∷ ps))
    ⊎ ((Before p.codes f × (place f n (p ∷ ps) ≡ p ∷ place f n ps)) ⊎ (Before f p.codes × (place f n (p ∷ ps) ≡ new_part f n ∷ p ∷ ps)))

pub place_view : (f : List ℕ) (n : ℕ) (p : PartMeaning) (ps : List PartMeaning) → PlaceView f n p ps
unfolding place
place_view f n p ps = go (before_total p.codes f)
  where
    go : Told Before p.codes f → PlaceView f n p ps
    go (inl e) = inl (e, cond-true (same p.codes f) _ _ (list_test e))
    go (inr (inl h)) = inr (inl (h, cond-false (same p.codes f) _ _ (not_same p.codes f (before_apart p.codes f h)) ∙ cond-true (before p.codes f) _ _ h))
    go (inr (inr h)) =
        inr (inr (h, cond-false (same p.codes f) _ _ (not_same p.codes f (λ e. before_apart f p.codes h (sym e))) ∙ cond-false (before p.codes f) _ _ (not_before f p.codes h)))

pub place_none : (f : List ℕ) (n : ℕ) → place f n [] ≡ new_part f n ∷ []
unfolding place
place_none f n = refl

-- what holds of each part after placing, from what held before
pub place_turns : (P Q : PartMeaning → Type 0) (f : List ℕ) (n : ℕ) → Q (new_part f n) → ((p : PartMeaning) → p.codes ≡ f → P p → Q (grown n p)) → ((p : PartMeaning) → P p → Q p) → (ps : List PartMeaning) → Each P ps → Each Q (place f n ps)
place_turns P Q f n new grow stay [] a = subst (Each Q) (sym (place_none f n)) (new, tt)
place_turns P Q f n new grow stay (p ∷ ps) a = go (place_view f n p ps) (place_turns P Q f n new grow stay ps a.1)
  where
    go : PlaceView f n p ps → Each Q (place f n ps) → Each Q (place f n (p ∷ ps))
    go (inl v) rec = subst (Each Q) (sym v.1) (grow p v.0 a.0, each_map P Q stay ps a.1)
    go (inr (inl v)) rec = subst (Each Q) (sym v.1) (stay p a.0, rec)
    go (inr (inr v)) rec = subst (Each Q) (sym v.1) (new, (stay p a.0, each_map P Q stay ps a.1))

-- the same of what held before and holds of each part still
pub place_each : (P : PartMeaning → Type 0) (f : List ℕ) (n : ℕ) → P (new_part f n) → ((p : PartMeaning) → p.codes ≡ f → P p → P (grown n p)) → (ps : List PartMeaning) → Each P ps → Each P (place f n ps)
place_each P f n new grow = place_turns P P f n new grow (λ p h. h)

pub place_ordered : (f : List ℕ) (n : ℕ) (ps : List PartMeaning) → Ordered ps → Ordered (place f n ps)
place_ordered f n [] o = subst Ordered (sym (place_none f n)) (tt, tt)
place_ordered f n (p ∷ ps) o = go (place_view f n p ps) (place_ordered f n ps o.1)
  where
    go : PlaceView f n p ps → Ordered (place f n ps) → Ordered (place f n (p ∷ ps))
    go (inl v) rec = subst Ordered (sym v.1) (o.0, o.1)
    go (inr (inl v)) rec = subst Ordered (sym v.1) (place_each (λ q. Before p.codes q.codes) f n v.0 (λ q e h. h) ps o.0, rec)
    go (inr (inr v)) rec = subst Ordered (sym v.1) ((v.0, each_map (λ q. Before p.codes q.codes) (λ q. Before f q.codes) (λ q h. before_trans f p.codes q.codes v.0 h) ps o.0), o)

-- p stands in a list, with parts before and after it
pub record Found (p : PartMeaning) (ps : List PartMeaning) : Type 0 where
  pub front : List PartMeaning
  pub back : List PartMeaning
  pub whole : ps ≡ front ++ p ∷ back

one_more : (p q : PartMeaning) (ps : List PartMeaning) → Found p ps → Found p (q ∷ ps)
one_more p q ps w = record { front = q ∷ w.front; back = w.back; whole = ap (λ (x : List PartMeaning). q ∷ x) w.whole }

-- the first open part
pub found_open : (ps : List PartMeaning) (p : PartMeaning) → next_open ps ≡ Some p → Found p ps × (is_open p.mark ≡ true)
unfolding next_open
found_open [] p e = absurd (some_none (sym e))
found_open (q ∷ ps) p e = go (is_open q.mark) refl (found_open ps p)
  where
    go : (b : Bool) → is_open q.mark ≡ b → (next_open ps ≡ Some p → Found p ps × (is_open p.mark ≡ true)) → Found p (q ∷ ps) × (is_open p.mark ≡ true)
    go true h rec =
        let s : q ≡ p = same_Some q p (sym (cond-true (is_open q.mark) (Some q) (next_open ps) h) ∙ e) in
        (record { front = []; back = ps; whole = ap (λ (x : PartMeaning). x ∷ ps) s }, subst (λ (x : PartMeaning). is_open x.mark ≡ true) s h)
    go false h rec = let r = rec (sym (cond-false (is_open q.mark) (Some q) (next_open ps) h) ∙ e) in (one_more p q ps r.0, r.1)

-- the part at place i, and the list with one of it taken
pub found_at : (ps : List PartMeaning) (i : ℕ) (p : PartMeaning) → part_at ps i ≡ Some p → (w : Found p ps) × (taken_at ps i ≡ w.front ++ (taken_once p ++ w.back))
unfolding part_at taken_at one_more
found_at [] i p e = absurd (some_none (sym e))
found_at (q ∷ ps) zero p e = let s = same_Some q p e in (record { front = []; back = ps; whole = ap (λ (x : PartMeaning). x ∷ ps) s }, ap (λ (x : PartMeaning). taken_once x ++ ps) s)
found_at (q ∷ ps) (suc i) p e = let r = found_at ps i p e in (one_more p q ps r.0, ap (λ (x : List PartMeaning). q ∷ x) r.1)

-- a list with some parts in its middle
pub middle_each : (P : PartMeaning → Type 0) (front : List PartMeaning) (p : PartMeaning) (back : List PartMeaning) (qs : List PartMeaning) → Each P qs → Each P (front ++ p ∷ back) → Each P (front ++ (qs ++ back))
middle_each P front p back qs k h = each_append P front (qs ++ back) (each_front P front (p ∷ back) h) (each_append P qs back k (each_back P front (p ∷ back) h).1)

-- the middle replaced by none or by a part with the same codes
abbrev pub SameCodes : PartMeaning → List PartMeaning → Type 0
SameCodes p [] = Unit {0}
SameCodes p (q ∷ qs) = (q.codes ≡ p.codes) × (qs ≡ [])

same_each : (f : List ℕ) (p : PartMeaning) (qs : List PartMeaning) → SameCodes p qs → Before f p.codes → Each (λ q. Before f q.codes) qs
same_each f p [] s h = tt
same_each f p (q ∷ qs) s h = (subst (Before f) (sym s.0) h, subst (Each (λ q. Before f q.codes)) (sym s.1) tt)

middle_start : (p : PartMeaning) (back qs : List PartMeaning) → SameCodes p qs → Ordered (p ∷ back) → Ordered (qs ++ back)
middle_start p back [] s o = o.1
middle_start p back (q ∷ qs) s o =
    subst (λ (x : List PartMeaning). Ordered (q ∷ x ++ back)) (sym s.1) (subst (λ (f : List ℕ). Each (λ r. Before f r.codes) back) (sym s.0) o.0, o.1)

pub middle_ordered : (front : List PartMeaning) (p : PartMeaning) (back qs : List PartMeaning) → SameCodes p qs → Ordered (front ++ p ∷ back) → Ordered (front ++ (qs ++ back))
middle_ordered [] p back qs s o = middle_start p back qs s o
middle_ordered (r ∷ front) p back qs s o =
    (middle_each (λ q. Before r.codes q.codes) front p back qs (same_each r.codes p qs s (each_back (λ q. Before r.codes q.codes) front (p ∷ back) o.0).0) o.0, middle_ordered front p back qs s o.1)

-- parts with other codes stay
without_none : (f : List ℕ) (ps : List PartMeaning) → Each (λ q. q.codes ≡ f → ⊥) ps → without f ps ≡ ps
unfolding without
without_none f [] h = refl
without_none f (p ∷ ps) h = cond-false (same p.codes f) _ _ (not_same p.codes f h.0) ∙ ap (λ (x : List PartMeaning). p ∷ x) (without_none f ps h.1)

settle_none : (f : List ℕ) (ps : List PartMeaning) → Each (λ q. q.codes ≡ f → ⊥) ps → settle f ps ≡ ps
unfolding settle
settle_none f [] h = refl
settle_none f (p ∷ ps) h = ap₂ ◌∷◌ (cond-false (same p.codes f) (settled p) p (not_same p.codes f h.0)) (settle_none f ps h.1)

-- those after a part have other codes
others : (p : PartMeaning) (ps : List PartMeaning) → Each (λ q. Before p.codes q.codes) ps → Each (λ q. q.codes ≡ p.codes → ⊥) ps
others p ps h = each_map (λ q. Before p.codes q.codes) (λ q. q.codes ≡ p.codes → ⊥) (λ q b e. before_apart p.codes q.codes b (sym e)) ps h

pub without_found : (front : List PartMeaning) (p : PartMeaning) (back : List PartMeaning) → Ordered (front ++ p ∷ back) → without p.codes (front ++ p ∷ back) ≡ front ++ back
unfolding without
without_found [] p back o = cond-true (same p.codes p.codes) _ _ (same_list p.codes) ∙ without_none p.codes back (others p back o.0)
without_found (r ∷ front) p back o =
    cond-false (same r.codes p.codes) _ _ (not_same r.codes p.codes (before_apart r.codes p.codes (each_back (λ q. Before r.codes q.codes) front (p ∷ back) o.0).0))
    ∙ ap (λ (x : List PartMeaning). r ∷ x) (without_found front p back o.1)

pub settle_found : (front : List PartMeaning) (p : PartMeaning) (back : List PartMeaning) → Ordered (front ++ p ∷ back) → settle p.codes (front ++ p ∷ back) ≡ front ++ settled p ∷ back
unfolding settle
settle_found [] p back o = ap₂ ◌∷◌ (cond-true (same p.codes p.codes) (settled p) p (same_list p.codes)) (settle_none p.codes back (others p back o.0))
settle_found (r ∷ front) p back o =
    ap₂ ◌∷◌ (cond-false (same r.codes p.codes) (settled r) r (not_same r.codes p.codes (before_apart r.codes p.codes (each_back (λ q. Before r.codes q.codes) front (p ∷ back) o.0).0)))
    (settle_found front p back o.1)
