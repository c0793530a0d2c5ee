-- The codes of a ring with the laws are scalars, those of a field with the laws a finite field.
-- Main statements: CodeRing, CodeScalars, scalar, code_field, code_characteristic, code_finite; total_codes, multiple_codes, power_codes.
use Rattle.std.specs.Prelude.{◌≡◌, ℕ, zero, suc, ◌<◌, [], ◌∷◌, map, ◌≢◌}
use Rattle.std.proofs.Math.Path.{refl, sym, ap}
use Rattle.std.proofs.Common.{ap₂, ◌∙◌, subst, inl, inr, not-suc-le-zero, arith}
use mathlib.Core.HLevel.{Σ_prop_path, Σ_prop_discrete, hedberg}
use Rattle.std.proofs.Math.Nat.{suc_inj}
use Rattle.std.proofs.Math.Bridge.{le_prop}
use Rattle.std.proofs.Math.Decide.{ℕ_discrete, dec_lt}
use Rattle.algebra.specs.Ring.{Ring, Scalars, Field}
use Rattle.algebra.specs.Lists.{In, Listing}
use Rattle.algebra.specs.Powers.{times, pow, Characteristic}
use Rattle.algebra.specs.Finite.{FiniteField}
use Rattle.algebra.proofs.Lists.{in_map, in_map_to, map_length, map_distinct}
use Rattle.algebra.proofs.Powers.{times_zero, times_suc, pow_zero, pow_suc}
use Rattle.algebra.proofs.Laws.{add_comm, mul_comm, ⊗_zero, neg_zero}
use Rattle.algebra.proofs.Combination.{total as sum_of, total_zero, total_last}
use Rattle.field.specs.Ring.{RingMeaning, RingLaws, one, total, multiple, power}
use Rattle.field.specs.Field.{FieldMeaning, FieldLaws}

-- a number below n
abbrev pub Below : ℕ → Type 0
Below n = (a : ℕ) × (a < n)

pub below_path : (n : ℕ) {a b : Below n} → a.0 ≡ b.0 → a ≡ b
below_path n e = Σ_prop_path (λ a. le_prop) e

pub below_dec : (n : ℕ) (a b : Below n) → Dec (a ≡ b)
below_dec n = Σ_prop_discrete (λ a. le_prop) ℕ_discrete

next : (n : ℕ) → Below n → Below (suc n)
next n a = (suc a.0, omega (arith, a.1))

pub listing_below : (n : ℕ) → Listing (Below n) n
unfolding next
listing_below zero = record { elements = []; distinct = tt; all = λ a. absurd (not-suc-le-zero a.1); count = refl }
listing_below (suc n) = go (listing_below n)
  where
    zeroth : Below (suc n)
    zeroth = (0, omega arith)

    go : Listing (Below n) n → Listing (Below (suc n)) (suc n)
    go L = record {
      elements = zeroth ∷ map (next n) L.elements;
      distinct = (λ i. absurd (differs (in_map (next n) zeroth L.elements i)), map_distinct (next n) (λ x y e. below_path n (suc_inj (ap (λ (a : Below (suc n)). a.0) e))) L.elements L.distinct);
      all = λ a. each a a.0 refl;
      count = ap suc (map_length (next n) L.elements ∙ L.count);
    }
      where
        differs : (x : Below n) × In x L.elements × (zeroth ≡ next n x) → ⊥
        differs r = omega (arith, ap (λ (a : Below (suc n)). a.0) r.2)

        each : (a : Below (suc n)) (k : ℕ) → a.0 ≡ k → In a (zeroth ∷ map (next n) L.elements)
        each a zero e = inl (below_path (suc n) e)
        each a (suc k) e = inr (subst (λ (x : Below (suc n)). In x (map (next n) L.elements)) (below_path (suc n) (sym e)) (in_map_to (next n) (k, omega (arith, a.1, e)) L.elements (L.all (k, omega (arith, a.1, e)))))

module _ (m : RingMeaning) (L : RingLaws m) where
  abbrev pub Code : Type 0
  Code = Below m.order

  pub CodeRing : Ring Code
  CodeRing = record {
    𝟘 = (0, omega (arith, L.order_low));
    𝟙 = (one m, L.one_code.1);
    ◌⊕◌ = λ a b. (m.sum a.0 b.0, L.sum_code a.0 b.0);
    ◌⊗◌ = λ a b. (m.product a.0 b.0, L.product_code a.0 b.0);
    neg = λ a. (m.opposite a.0, L.opposite_code a.0);
    is_set = hedberg (below_dec m.order);
    ⊕_assoc = λ a b c. below_path m.order (L.sum_assoc a.0 b.0 c.0 a.1 b.1 c.1);
    ⊕_comm = λ a b. below_path m.order (L.sum_comm a.0 b.0 a.1 b.1);
    ⊕_zero = λ a. below_path m.order (L.sum_zero a.0 a.1);
    ⊕_neg = λ a. below_path m.order (L.sum_opposite a.0 a.1);
    ⊗_assoc = λ a b c. below_path m.order (L.product_assoc a.0 b.0 c.0 a.1 b.1 c.1);
    ⊗_comm = λ a b. below_path m.order (L.product_comm a.0 b.0 a.1 b.1);
    ⊗_one = λ a. below_path m.order (L.product_one a.0 a.1);
    ⊗_dist = λ a b c. below_path m.order (L.distributes a.0 b.0 c.0 a.1 b.1 c.1);
  }

  abbrev pub CodeScalars : Scalars Code
  CodeScalars = record { ring = CodeRing; dec = below_dec m.order }

  pub zero_code : CodeRing.𝟘.0 ≡ 0
  unfolding CodeRing
  zero_code = refl

  pub unit_code : CodeRing.𝟙.0 ≡ one m
  unfolding CodeRing
  unit_code = refl

  pub sum_codes : (a b : Code) → (CodeRing.◌⊕◌ a b).0 ≡ m.sum a.0 b.0
  unfolding CodeRing
  sum_codes a b = refl

  pub product_codes : (a b : Code) → (CodeRing.◌⊗◌ a b).0 ≡ m.product a.0 b.0
  unfolding CodeRing
  product_codes a b = refl

  pub opposite_codes : (a : Code) → (CodeRing.neg a).0 ≡ m.opposite a.0
  unfolding CodeRing
  opposite_codes a = refl

  pub code_path : {a b : Code} → a.0 ≡ b.0 → a ≡ b
  code_path e = below_path m.order e

  pub zero_is_code : 0 < m.order
  zero_is_code = omega (arith, L.order_low)

  -- laws with zero, in numbers
  pub zero_sum : (a : ℕ) → a < m.order → m.sum 0 a ≡ a
  zero_sum a h = L.sum_comm 0 a zero_is_code h ∙ L.sum_zero a h

  pub product_zero : (a : ℕ) → a < m.order → m.product a 0 ≡ 0
  unfolding CodeRing
  product_zero a h = ap (λ (x : Code). x.0) (⊗_zero CodeRing (a, h))

  pub zero_product : (a : ℕ) → a < m.order → m.product 0 a ≡ 0
  zero_product a h = L.product_comm 0 a zero_is_code h ∙ product_zero a h

  pub opposite_zero : m.opposite 0 ≡ 0
  unfolding CodeRing
  opposite_zero = ap (λ (x : Code). x.0) (neg_zero CodeRing)

  pub total_code : (n : ℕ) (c : ℕ → ℕ) → total m n c < m.order
  unfolding total
  total_code zero c = zero_is_code
  total_code (suc n) c = L.sum_code (total m n c) (c n)

  -- sums, multiples and powers of scalars, in numbers
  pub total_codes : (n : ℕ) (g : ℕ → Code) → (sum_of CodeRing n g).0 ≡ total m n (λ i. (g i).0)
  unfolding total
  total_codes zero g = ap (λ (x : Code). x.0) (total_zero CodeRing g) ∙ zero_code
  total_codes (suc n) g = ap (λ (x : Code). x.0) (total_last CodeRing n g) ∙ sum_codes _ _ ∙ ap (λ (x : ℕ). m.sum x (g n).0) (total_codes n g)

  pub multiple_codes : (n : ℕ) (a : Code) → (times CodeRing n a).0 ≡ multiple m n a.0
  unfolding total
  multiple_codes zero a = ap (λ (x : Code). x.0) (times_zero CodeRing a) ∙ zero_code
  multiple_codes (suc n) a = ap (λ (x : Code). x.0) (times_suc CodeRing n a ∙ add_comm CodeRing a _) ∙ sum_codes _ _ ∙ ap (λ (x : ℕ). m.sum x a.0) (multiple_codes n a)

  pub power_codes : (n : ℕ) (a : Code) → (pow CodeRing a n).0 ≡ power m a.0 n
  unfolding power
  power_codes zero a = ap (λ (x : Code). x.0) (pow_zero CodeRing a) ∙ unit_code
  power_codes (suc n) a = ap (λ (x : Code). x.0) (pow_suc CodeRing a n) ∙ product_codes _ _ ∙ ap (m.product a.0) (power_codes n a)

  pub power_code : (a n : ℕ) → power m a n < m.order
  unfolding power
  power_code a zero = L.one_code.1
  power_code a (suc n) = L.product_code _ _

  choose : (a : ℕ) → Dec (a < m.order) → Code
  choose a (yes h) = (a, h)
  choose a (no h) = CodeRing.𝟘

  -- the scalar of a number: itself if it is a code, else zero
  pub scalar : ℕ → Code
  scalar a = choose a (dec_lt a m.order)

  pub scalar_value : (a : ℕ) → a < m.order → (scalar a).0 ≡ a
  unfolding scalar choose
  scalar_value a h = go (dec_lt a m.order)
    where
      go : (d : Dec (a < m.order)) → (choose a d).0 ≡ a
      go (yes k) = refl
      go (no k) = absurd (k h)

  pub scalar_of : (a : Code) → scalar a.0 ≡ a
  scalar_of a = below_path m.order (scalar_value a.0 a.1)

  pub scalar_zero : scalar 0 ≡ CodeRing.𝟘
  scalar_zero = below_path m.order (scalar_value 0 (omega (arith, L.order_low)) ∙ sym zero_code)

  pub scalar_one : scalar (one m) ≡ CodeRing.𝟙
  scalar_one = below_path m.order (scalar_value (one m) L.one_code.1 ∙ sym unit_code)

  pub scalar_product : (a b : ℕ) → a < m.order → b < m.order → scalar (m.product a b) ≡ CodeRing.◌⊗◌ (scalar a) (scalar b)
  scalar_product a b ha hb = below_path m.order (scalar_value _ (L.product_code a b) ∙ sym (product_codes _ _ ∙ ap₂ m.product (scalar_value a ha) (scalar_value b hb)))

  pub scalar_nonzero : (a : ℕ) → a < m.order → 0 < a → scalar a ≢ CodeRing.𝟘
  scalar_nonzero a h k e = absurd (omega (arith, sym (scalar_value a h) ∙ ap (λ (x : Code). x.0) e ∙ zero_code))

  pub nonzero_positive : (a : Code) → (a ≢ CodeRing.𝟘) → 0 < a.0
  nonzero_positive a n = go a.0 refl
    where
      go : (k : ℕ) → a.0 ≡ k → 0 < a.0
      go zero e = absurd (n (below_path m.order (e ∙ sym zero_code)))
      go (suc k) e = omega arith

module _ (F : FieldMeaning) (L : FieldLaws F) where
  abbrev m : RingMeaning
  m = F.ring

  abbrev R : Ring (Code m L.ring)
  R = CodeRing m L.ring

  invert : (a : Code m L.ring) → Dec (a ≡ R.𝟘) → Code m L.ring
  invert a (yes e) = R.𝟘
  invert a (no n) = let w = L.inverses.some a.0 (nonzero_positive m L.ring a n) a.1 in (w.0, w.2)

  inverts : (a : Code m L.ring) (d : Dec (a ≡ R.𝟘)) → (a ≢ R.𝟘) → R.◌⊗◌ (invert a d) a ≡ R.𝟙
  unfolding invert
  inverts a (yes e) n = absurd (n e)
  inverts a (no k) n = mul_comm R _ a ∙ below_path m.order (product_codes m L.ring a _ ∙ (L.inverses.some a.0 (nonzero_positive m L.ring a k) a.1).3 ∙ sym (unit_code m L.ring))

  pub code_field : Field (CodeScalars m L.ring)
  code_field = record {
    inv = λ a. invert a (below_dec m.order a R.𝟘);
    inverse = λ a n. inverts a (below_dec m.order a R.𝟘) n;
    apart = λ e. absurd (omega (arith, L.ring.one_code.0, sym (unit_code m L.ring) ∙ ap (λ (x : Code m L.ring). x.0) e ∙ zero_code m L.ring));
  }

  pub ones_codes : (n : ℕ) → (times R n R.𝟙).0 ≡ multiple m n (one m)
  ones_codes n = multiple_codes m L.ring n R.𝟙 ∙ ap (multiple m n) (unit_code m L.ring)

  pub code_characteristic : Characteristic R F.characteristic
  code_characteristic = record {
    positive = L.characteristic.positive;
    vanishes = below_path m.order (ones_codes F.characteristic ∙ L.characteristic.sums_to_zero ∙ sym (zero_code m L.ring));
    least = λ n h e. L.characteristic.smallest n h (sym (ones_codes n) ∙ ap (λ (x : Code m L.ring). x.0) e ∙ zero_code m L.ring);
  }

  abbrev pub code_finite : FiniteField (CodeScalars m L.ring)
  code_finite = record {
    field = code_field;
    p = F.characteristic;
    j = F.exponent;
    q = m.order;
    characteristic = code_characteristic;
    order = L.exponent.order;
    listing = listing_below m.order;
  }
