-- Divisors and coprime elements in a commutative ring.
-- Main statements: Divides, Coprime, dvd_trans, dvd_mul, dvd_sum, euclid_lemma, coprime_mul, coprime_dvd, coprime_both, coprime_down.
use Rattle.std.proofs.Common.{◌≡◌, [], ◌∷◌, sym, refl, ap, ◌∙◌, subst, ap₂}
use mathlib.Core.Path.{◌≡⟨◌⟩◌, ◌∎}
use Rattle.algebra.specs.Ring.{Ring}
use Rattle.algebra.proofs.Laws.{mul_assoc, mul_comm, one_⊗, mul_one, zero_⊗, neg_⊗, ring_simp}
use Rattle.algebra.proofs.Solver.{◌:+◌, ◌:*◌, :neg, ring, A, B, C, D, E, F, G}

module _ {K : Type 0} (R : Ring K) where
  -- d divides f
  abbrev pub Divides : K → K → Type 0
  Divides d f = (h : K) × (f ≡ R.◌⊗◌ h d)

  -- a sum of multiples of f and g is one
  pub record Coprime (f g : K) : Type 0 where
    pub s : K
    pub t : K
    pub sum : R.◌⊕◌ (R.◌⊗◌ s f) (R.◌⊗◌ t g) ≡ R.𝟙

module _ {K : Type 0} (R : Ring K) where
  infixl 65 ◌⊕◌
  infixl 70 ◌⊗◌
  infix 40 ◌∣◌
  open R use {𝟘, 𝟙, ◌⊕◌, ◌⊗◌, neg}

  abbrev ◌∣◌ : K → K → Type 0
  ◌∣◌ = Divides R

  pub dvd_refl : (a : K) → a ∣ a
  dvd_refl a = (𝟙, sym (one_⊗ R a))

  pub dvd_zero : (a : K) → a ∣ 𝟘
  dvd_zero a = (𝟘, sym (zero_⊗ R a))

  pub dvd_trans : (a b c : K) → a ∣ b → b ∣ c → a ∣ c
  dvd_trans a b c p q = (q.0 ⊗ p.0, q.1 ∙ ap (λ (x : K). q.0 ⊗ x) p.1 ∙ sym (mul_assoc R q.0 p.0 a))

  pub dvd_mul : (a b c : K) → a ∣ b → a ∣ c ⊗ b
  dvd_mul a b c p = (c ⊗ p.0, ap (λ (x : K). c ⊗ x) p.1 ∙ sym (mul_assoc R c p.0 a))

  pub dvd_mul_right : (a b c : K) → a ∣ b → a ∣ b ⊗ c
  dvd_mul_right a b c p = rw (mul_comm R b c) (dvd_mul a b c p)

  -- a factor divides, on either side
  pub dvd_left : (a b : K) → a ∣ a ⊗ b
  dvd_left a b = (b, mul_comm R a b)

  pub dvd_right : (a b : K) → b ∣ a ⊗ b
  dvd_right a b = (a, refl)

  pub dvd_sum : (a b c : K) → a ∣ b → a ∣ c → a ∣ b ⊕ c
  dvd_sum a b c p q = (p.0 ⊕ q.0, ap₂ ◌⊕◌ p.1 q.1 ∙ ring R (_ ∷ _ ∷ _ ∷ []) (A :* B :+ C :* B) ((A :+ C) :* B) refl)

  pub dvd_neg : (a b : K) → a ∣ b → a ∣ neg b
  dvd_neg a b p = (neg p.0, ap neg p.1 ∙ sym (neg_⊗ R p.0 a))

  -- of three that sum up, one that divides two divides the third
  pub dvd_rest : (a b c : K) → a ∣ b ⊕ c → a ∣ b → a ∣ c
  dvd_rest a b c p q = subst (λ (x : K). a ∣ x) (ring R (_ ∷ _ ∷ []) (A :+ B :+ :neg A) B refl) (dvd_sum a (b ⊕ c) (neg b) p (dvd_neg a b q))

  pub coprime_sym : (f g : K) → Coprime R f g → Coprime R g f
  coprime_sym f g p = record { s = p.t; t = p.s; sum = ring R (_ ∷ _ ∷ _ ∷ _ ∷ []) (A :* B :+ C :* D) (C :* D :+ A :* B) refl ∙ p.sum }

  -- what is coprime to two elements is coprime to their product
  pub coprime_mul : (f g h : K) → Coprime R f g → Coprime R f h → Coprime R f (g ⊗ h)
  coprime_mul f g h p q = record {
    s = p.s ⊗ q.s ⊗ f ⊕ p.s ⊗ q.t ⊗ h ⊕ p.t ⊗ g ⊗ q.s;
    t = p.t ⊗ q.t;
    sum =
        ring R (f ∷ g ∷ h ∷ p.s ∷ p.t ∷ q.s ∷ q.t ∷ [])
        ((D :* F :* A :+ D :* G :* C :+ E :* B :* F) :* A :+ E :* G :* (B :* C)) ((D :* A :+ E :* B) :* (F :* A :+ G :* C)) refl
        ∙ ap₂ ◌⊗◌ p.sum q.sum ∙ mul_one R 𝟙;
  }

  pub coprime_one : (f : K) → Coprime R f 𝟙
  coprime_one f = record { s = 𝟘; t = 𝟙; sum = simp ring_simp }

  -- Euclid's lemma: one that divides a product and is coprime to a factor divides the other
  pub euclid_lemma : (f g h : K) → Coprime R f g → f ∣ g ⊗ h → f ∣ h
  euclid_lemma f g h p d = (
    p.s ⊗ h ⊕ p.t ⊗ d.0,
    h ≡⟨ sym (one_⊗ R h) ∙ ap (λ (x : K). x ⊗ h) (sym p.sum) ⟩
        (p.s ⊗ f ⊕ p.t ⊗ g) ⊗ h ≡⟨ ring R (_ ∷ _ ∷ _ ∷ _ ∷ _ ∷ []) ((A :* B :+ C :* D) :* E) (A :* E :* B :+ C :* (D :* E)) refl ⟩
        p.s ⊗ h ⊗ f ⊕ p.t ⊗ (g ⊗ h) ≡⟨ ap (λ (x : K). p.s ⊗ h ⊗ f ⊕ p.t ⊗ x) d.1 ⟩
        p.s ⊗ h ⊗ f ⊕ p.t ⊗ (d.0 ⊗ f) ≡⟨ ring R (_ ∷ _ ∷ _ ∷ _ ∷ _ ∷ []) (A :* B :* C :+ D :* (E :* C)) ((A :* B :+ D :* E) :* C) refl ⟩
        (p.s ⊗ h ⊕ p.t ⊗ d.0) ⊗ f ∎,
  )

  -- a divisor that is coprime to what it divides divides one
  pub coprime_dvd : (f g : K) → Coprime R f g → f ∣ g → f ∣ 𝟙
  coprime_dvd f g p d = euclid_lemma f g 𝟙 p (d.0, mul_one R g ∙ d.1)

  -- two coprime divisors divide together
  pub coprime_both : (a b f : K) → Coprime R a b → a ∣ f → b ∣ f → a ⊗ b ∣ f
  coprime_both a b f c p q = put (euclid_lemma a b q.0 c (p.0, mul_comm R b q.0 ∙ sym q.1 ∙ p.1))
    where
      put : a ∣ q.0 → a ⊗ b ∣ f
      put r = (r.0, q.1 ∙ ap (λ (x : K). x ⊗ b) r.1 ∙ mul_assoc R r.0 a b)

  -- divisors of coprime elements are coprime
  pub coprime_down : (a b f g : K) → a ∣ f → b ∣ g → Coprime R f g → Coprime R a b
  coprime_down a b f g p q c = record {
    s = c.s ⊗ p.0;
    t = c.t ⊗ q.0;
    sum = ap₂ ◌⊕◌ (mul_assoc R c.s p.0 a ∙ ap (λ (x : K). c.s ⊗ x) (sym p.1)) (mul_assoc R c.t q.0 b ∙ ap (λ (x : K). c.t ⊗ x) (sym q.1)) ∙ c.sum;
  }
