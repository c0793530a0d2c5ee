-- What a loop that writes a stretch of a slice keeps: at its start and at each turn.
-- Main statements: written_none, written_more, written_outside.
use Rattle.std.proofs.Common.{◌≡◌, ℕ, ◌+◌, ◌<◌, ◌≤◌, ◌≢◌, ◌⊎◌, List, length, get_or, set, sym, refl, ap, ◌∙◌, ⊎_elim, arith, get_or-set_other, get_or-set_same}
use Rattle.std.proofs.lemmas.Bool.{cases_eq}
use Rattle.field.specs.Rows.{Written}

-- nothing is written
pub written_none : (old : List ℕ) (p : ℕ) (f : ℕ → ℕ) → Written old old p 0 f
written_none old p f = record { inside = λ i h. absurd (omega arith); before = λ k h. refl; after = λ k h. refl }

-- one code more
pub written_more : (old new : List ℕ) (p i v : ℕ) (f : ℕ → ℕ) → Written old new p i f → p + i < length new → v ≡ f i → Written old (set new (p + i) v) p (i + 1) f
written_more old new p i v f w h e = record {
  inside = λ k l.
      ⊎_elim
      (λ (q : k ≡ i). ap (λ (x : ℕ). get_or (set new (p + i) v) (p + x) 0) q ∙ get_or-set_same new (p + i) v 0 h ∙ e ∙ ap f (sym q))
      (λ (q : k ≡ i → ⊥). let ne : p + k ≢ p + i = λ z. q (omega arith) in get_or-set_other new (p + i) (p + k) v 0 ne ∙ w.inside k (omega arith))
      (cases_eq k i);
  before = λ k l. let ne : k ≢ p + i = omega arith in get_or-set_other new (p + i) k v 0 ne ∙ w.before k l;
  after = λ k l. let ne : k ≢ p + i = omega arith in get_or-set_other new (p + i) k v 0 ne ∙ w.after k (omega arith);
}

-- a place outside of what was written is as it was
pub written_outside : {old new : List ℕ} {p n : ℕ} {f : ℕ → ℕ} → Written old new p n f → (k : ℕ) → (k < p) ⊎ (p + n ≤ k) → get_or new k 0 ≡ get_or old k 0
written_outside w k h = ⊎_elim (w.before k) (w.after k) h
