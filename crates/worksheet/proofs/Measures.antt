-- What is counted over parts: the total degree, the weight, and the product of the parts by their multiplicity (their worth).
-- Main statements: degree_place, degree_append, weight_place, weight_append, worth_place, worth_append, worth_standing.
use Rattle.std.proofs.Common.{◌≡◌, ℕ, zero, suc, ◌+◌, ◌-◌, ◌*◌, ◌≤◌, cond, List, [], ◌∷◌, ◌++◌, map, replicate, sym, refl, ap, ◌∙◌, subst, ap₂, inl, inr, arith}
use mathlib.Core.List.{map-append}
use Rattle.algebra.specs.Ring.{Ring}
use Rattle.algebra.specs.Powers.{pow, prod}
use Rattle.algebra.proofs.Laws.{mul_assoc, mul_comm, one_⊗, ⊗_left_comm}
use Rattle.algebra.proofs.Powers.{pow_add, prod_nil, prod_append, prod_replicate}
use Rattle.field.specs.Polynomial.{degree}
use Rattle.worksheet.specs.Sheet.{PartMeaning, place, is_open, standing, total_degree}
use Rattle.worksheet.proofs.PartLists.{PlaceView, place_view, place_none}

grow_degree : (d t n r : ℕ) → d * (t + n) + r ≡ d * n + (d * t + r)
grow_degree d t n r = omega arith

pub degree_place : (f : List ℕ) (n : ℕ) (ps : List PartMeaning) → total_degree (place f n ps) ≡ degree f * n + total_degree ps
unfolding total_degree
degree_place f n [] = ap total_degree (place_none f n)
degree_place f n (p ∷ ps) = go (place_view f n p ps) (degree_place f n ps)
  where
    go : PlaceView f n p ps → total_degree (place f n ps) ≡ degree f * n + total_degree ps → total_degree (place f n (p ∷ ps)) ≡ degree f * n + total_degree (p ∷ ps)
    go (inl v) rec = ap total_degree v.1 ∙ grow_degree (degree p.codes) p.times n (total_degree ps) ∙ ap (λ (g : List ℕ). degree g * n + (degree p.codes * p.times + total_degree ps)) v.0
    go (inr (inl v)) rec = ap total_degree v.1 ∙ omega (arith, rec)
    go (inr (inr v)) rec = ap total_degree v.1

pub degree_append : (ps qs : List PartMeaning) → total_degree (ps ++ qs) ≡ total_degree ps + total_degree qs
unfolding total_degree
degree_append [] qs = omega arith
degree_append (p ∷ ps) qs = omega (arith, degree_append ps qs)

pub degree_cons : (p : PartMeaning) (ps : List PartMeaning) → total_degree (p ∷ ps) ≡ degree p.codes * p.times + total_degree ps
unfolding total_degree
degree_cons p ps = refl

pub degree_nil : total_degree [] ≡ 0
unfolding total_degree
degree_nil = refl

-- the steps that a part can still ask for: 2d - 1 if it is open
abbrev pub asks : PartMeaning → ℕ
asks p = cond (is_open p.mark) (2 * degree p.codes - 1) 0

-- the sum of 2d - 1 over the open parts
pub weight : List PartMeaning → ℕ
weight [] = 0
weight (p ∷ ps) = asks p + weight ps

pub weight_cons : (p : PartMeaning) (ps : List PartMeaning) → weight (p ∷ ps) ≡ asks p + weight ps
unfolding weight
weight_cons p ps = refl

pub weight_nil : weight [] ≡ 0
unfolding weight
weight_nil = refl

pub weight_append : (ps qs : List PartMeaning) → weight (ps ++ qs) ≡ weight ps + weight qs
unfolding weight
weight_append [] qs = omega arith
weight_append (p ∷ ps) qs = omega (arith, weight_append ps qs)

pub weight_place : (f : List ℕ) (n : ℕ) (ps : List PartMeaning) → weight (place f n ps) ≤ (2 * degree f - 1) + weight ps
unfolding weight
weight_place f n [] = omega (arith, ap weight (place_none f n))
weight_place f n (p ∷ ps) = go (place_view f n p ps) (weight_place f n ps)
  where
    go : PlaceView f n p ps → weight (place f n ps) ≤ (2 * degree f - 1) + weight ps → weight (place f n (p ∷ ps)) ≤ (2 * degree f - 1) + weight (p ∷ ps)
    go (inl v) rec = subst (λ (x : List PartMeaning). weight x ≤ (2 * degree f - 1) + weight (p ∷ ps)) (sym v.1) (omega arith)
    go (inr (inl v)) rec = subst (λ (x : List PartMeaning). weight x ≤ (2 * degree f - 1) + weight (p ∷ ps)) (sym v.1) (omega (arith, rec))
    go (inr (inr v)) rec = subst (λ (x : List PartMeaning). weight x ≤ (2 * degree f - 1) + weight (p ∷ ps)) (sym v.1) (omega arith)

module _ {K : Type 0} (R : Ring K) (value : List ℕ → K) where
  infixl 70 ◌⊗◌
  open R use {𝟙, ◌⊗◌}

  -- the product of the parts, each by its multiplicity
  pub worth : List PartMeaning → K
  worth [] = 𝟙
  worth (p ∷ ps) = pow R (value p.codes) p.times ⊗ worth ps

  pub worth_cons : (p : PartMeaning) (ps : List PartMeaning) → worth (p ∷ ps) ≡ pow R (value p.codes) p.times ⊗ worth ps
  unfolding worth
  worth_cons p ps = refl

  pub worth_nil : worth [] ≡ 𝟙
  unfolding worth
  worth_nil = refl

  pub worth_place : (f : List ℕ) (n : ℕ) (ps : List PartMeaning) → worth (place f n ps) ≡ pow R (value f) n ⊗ worth ps
  unfolding worth
  worth_place f n [] = ap worth (place_none f n)
  worth_place f n (p ∷ ps) = go (place_view f n p ps) (worth_place f n ps)
    where
      go : PlaceView f n p ps → worth (place f n ps) ≡ pow R (value f) n ⊗ worth ps → worth (place f n (p ∷ ps)) ≡ pow R (value f) n ⊗ worth (p ∷ ps)
      go (inl v) rec =
          ap worth v.1 ∙ ap (λ (x : K). x ⊗ worth ps) (pow_add R (value p.codes) p.times n ∙ mul_comm R _ _) ∙ mul_assoc R _ _ _
          ∙ ap (λ (g : List ℕ). pow R (value g) n ⊗ (pow R (value p.codes) p.times ⊗ worth ps)) v.0
      go (inr (inl v)) rec = ap worth v.1 ∙ ap (◌⊗◌ (pow R (value p.codes) p.times)) rec ∙ ⊗_left_comm R _ _ _
      go (inr (inr v)) rec = ap worth v.1

  pub worth_append : (ps qs : List PartMeaning) → worth (ps ++ qs) ≡ worth ps ⊗ worth qs
  unfolding worth
  worth_append [] qs = sym (one_⊗ R _)
  worth_append (p ∷ ps) qs = ap (◌⊗◌ (pow R (value p.codes) p.times)) (worth_append ps qs) ∙ sym (mul_assoc R _ _ _)

  map_replicate : (n : ℕ) (f : List ℕ) → map value (replicate n f) ≡ replicate n (value f)
  map_replicate zero f = refl
  map_replicate (suc n) f = ap (λ (x : List K). value f ∷ x) (map_replicate n f)

  pub worth_standing : (ps : List PartMeaning) → prod R (map value (standing ps)) ≡ worth ps
  unfolding worth standing
  worth_standing [] = prod_nil R
  worth_standing (p ∷ ps) =
      ap (prod R) (map-append value (replicate p.times p.codes) (standing ps)) ∙ prod_append R _ _
      ∙ ap₂ ◌⊗◌ (ap (prod R) (map_replicate p.times p.codes) ∙ prod_replicate R p.times _) (worth_standing ps)
