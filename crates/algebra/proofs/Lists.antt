-- Members, distinct elements and permutations of lists; lists of all elements of a type.
-- Main statements: find, put_distinct, in_map, map_distinct, permuted_sym, permuted_trans, listing_pair, listing_map, search_listing.
use Rattle.std.proofs.Common.{◌≡◌, ℕ, suc, ◌+◌, ◌*◌, ◌⊎◌, List, [], ◌∷◌, ◌++◌, map, length, sym, refl, ap, ◌∙◌, subst, ap₂, inl, inr, arith}
use Rattle.algebra.specs.Lists.{In, Distinct, Put, here, there, Permuted, none, put, Listing}

module _ {T : Type 0} where
  -- a list with x in it is another list with x put in
  pub find : (x : T) (zs : List T) → In x zs → (ys : List T) × Put x ys zs
  find x [] h = absurd h
  find x (z ∷ zs) (inl e) = (zs, rw e here)
  find x (z ∷ zs) (inr h) = let r = find x zs h in (z ∷ r.0, there r.1)

  pub put_length : {x : T} {ys zs : List T} → Put x ys zs → length zs ≡ suc (length ys)
  put_length here = refl
  put_length (there i) = ap suc (put_length i)

  pub put_in : {x : T} {ys zs : List T} → Put x ys zs → In x zs
  put_in here = inl refl
  put_in (there i) = inr (put_in i)

  -- the others stay members, both ways
  pub put_more : (z : T) {x : T} {ys zs : List T} → Put x ys zs → In z ys → In z zs
  put_more z here h = inr h
  put_more z (there i) (inl e) = inl e
  put_more z (there i) (inr h) = inr (put_more z i h)

  -- a member is what was put in, or was there before
  pub put_split : {x z : T} {ys zs : List T} → Put x ys zs → In z zs → (z ≡ x) ⊎ In z ys
  put_split here (inl e) = inl e
  put_split here (inr h) = inr h
  put_split (there i) (inl e) = inr (inl e)
  put_split (there i) (inr h) = elim (put_split i h) [ inl e ↦ inl e | inr k ↦ inr (inr k) ]

  pub put_less : {x z : T} {ys zs : List T} → Put x ys zs → In z zs → (z ≡ x → ⊥) → In z ys
  put_less i h n = elim (put_split i h) [ inl e ↦ absurd (n e) | inr k ↦ k ]

  -- one of distinct elements stands nowhere else, and the others are distinct
  pub put_distinct : {x : T} {ys zs : List T} → Put x ys zs → Distinct zs → (In x ys → ⊥) × Distinct ys
  put_distinct here d = d
  put_distinct {x} (there {y = y} {ys = ys} {zs = zs} i) d =
      let r = put_distinct i d.1 in
      (λ h. elim h [ inl e ↦ d.0 (subst (λ (w : T). In w zs) e (put_in i)) | inr k ↦ r.0 k ], (λ h. d.0 (put_more y i h), r.1))

  -- an element of a mapped list is the image of an element
  pub in_map : {S : Type 0} (g : S → T) (z : T) (xs : List S) → In z (map g xs) → (x : S) × In x xs × (z ≡ g x)
  in_map g z [] h = absurd h
  in_map g z (x ∷ xs) (inl e) = (x, inl refl, e)
  in_map g z (x ∷ xs) (inr h) = let r = in_map g z xs h in (r.0, inr r.1, r.2)

  pub map_length : {S : Type 0} (g : S → T) (xs : List S) → length (map g xs) ≡ length xs
  map_length g [] = refl
  map_length g (x ∷ xs) = ap suc (map_length g xs)

  -- an injective map keeps elements distinct
  pub map_distinct : {S : Type 0} (g : S → T) → ((x y : S) → g x ≡ g y → x ≡ y) → (xs : List S) → Distinct xs → Distinct (map g xs)
  map_distinct g inj [] d = tt
  map_distinct {S} g inj (x ∷ xs) d = (λ i. d.0 (back (in_map g (g x) xs i)), map_distinct g inj xs d.1)
    where
      back : (y : S) × In y xs × (g x ≡ g y) → In x xs
      back r = subst (λ (w : S). In w xs) (sym (inj x r.0 r.2)) r.1

  pub permuted_refl : (xs : List T) → Permuted xs xs
  permuted_refl [] = none
  permuted_refl (x ∷ xs) = put (permuted_refl xs) here

  pub permuted_length : {xs ys : List T} → Permuted xs ys → length ys ≡ length xs
  permuted_length none = refl
  permuted_length (put p i) = put_length i ∙ ap suc (permuted_length p)

  pub permuted_in : (z : T) {xs ys : List T} → Permuted xs ys → In z xs → In z ys
  permuted_in z none h = h
  permuted_in z (put {zs = zs} p i) (inl e) = subst (λ (w : T). In w zs) (sym e) (put_in i)
  permuted_in z (put p i) (inr h) = put_more z i (permuted_in z p h)

  -- what is put in on the left can be put in on the right
  put_left : {x : T} {xs ys xs' : List T} → Permuted xs ys → Put x xs xs' → Permuted xs' (x ∷ ys)
  put_left p here = put p here
  put_left (put {ys = ws} p j) (there i) = put (put_left p i) (there j)

  pub permuted_sym : {xs ys : List T} → Permuted xs ys → Permuted ys xs
  permuted_sym none = none
  permuted_sym (put p i) = put_left (permuted_sym p) i

-- Permutations go one after the other, and side by side
module _ {T : Type 0} where
  -- two elements put in, in the other order
  put_swap : {x y : T} {ws ys zs : List T} → Put x ws ys → Put y ys zs → (vs : List T) × Put y ws vs × Put x vs zs
  put_swap {x} {y} {ws} i here = (y ∷ ws, here, there i)
  put_swap here (there {zs = us} j) = (us, j, here)
  put_swap (there {y = z} {ys = us} i) (there j) = let r = put_swap {ws = us} i j in (z ∷ r.0, there r.1, there r.2)

  -- what is put in on the left is put in on the right
  pull : {x : T} {ws ys zs : List T} → Put x ws ys → Permuted ys zs → (vs : List T) × Permuted ws vs × Put x vs zs
  pull here (put {ys = us} p i) = (us, p, i)
  pull (there {ys = us} i) (put p j) = let r = pull {ws = us} i p in let t = put_swap r.2 j in (t.0, put r.1 t.1, t.2)

  pub permuted_trans : {xs ys zs : List T} → Permuted xs ys → Permuted ys zs → Permuted xs zs
  permuted_trans none q = q
  permuted_trans (put p i) q = let r = pull i q in put (permuted_trans p r.1) r.2

  put_append : {x : T} {xs ys : List T} (zs : List T) → Put x xs ys → Put x (xs ++ zs) (ys ++ zs)
  put_append zs here = here
  put_append zs (there i) = there (put_append zs i)

  pub permuted_append : {xs ys us vs : List T} → Permuted xs ys → Permuted us vs → Permuted (xs ++ us) (ys ++ vs)
  permuted_append none q = q
  permuted_append {vs = vs} (put p i) q = put (permuted_append p q) (put_append vs i)

-- Lists of all elements: of pairs, and through a map that is one to one
module _ {T : Type 0} where
  in_left : (z : T) (xs ys : List T) → In z xs → In z (xs ++ ys)
  in_left z (x ∷ xs) ys (inl e) = inl e
  in_left z (x ∷ xs) ys (inr i) = inr (in_left z xs ys i)
  in_left z [] ys i = absurd i

  in_right : (z : T) (xs ys : List T) → In z ys → In z (xs ++ ys)
  in_right z [] ys i = i
  in_right z (x ∷ xs) ys i = inr (in_right z xs ys i)

  -- a member of a joined list is a member of one of its parts
  pub in_either : (z : T) (xs ys : List T) → In z (xs ++ ys) → In z xs ⊎ In z ys
  in_either z [] ys i = inr i
  in_either z (x ∷ xs) ys (inl e) = inl (inl e)
  in_either z (x ∷ xs) ys (inr i) = elim (in_either z xs ys i) [ inl j ↦ inl (inr j) | inr j ↦ inr j ]

  distinct_append : (xs ys : List T) → Distinct xs → Distinct ys → ((z : T) → In z xs → In z ys → ⊥) → Distinct (xs ++ ys)
  distinct_append [] ys d e n = e
  distinct_append (x ∷ xs) ys d e n = (λ i. elim (in_either x xs ys i) [ inl j ↦ d.0 j | inr j ↦ n x (inl refl) j ], distinct_append xs ys d.1 e (λ z i j. n z (inr i) j))

  length_append : (xs ys : List T) → length (xs ++ ys) ≡ length xs + length ys
  length_append [] ys = omega arith
  length_append (x ∷ xs) ys = omega (arith, length_append xs ys)

  -- the image of a member is a member
  pub in_map_to : {S : Type 0} (g : S → T) (x : S) (xs : List S) → In x xs → In (g x) (map g xs)
  in_map_to g x (y ∷ ys) (inl e) = inl (ap g e)
  in_map_to g x (y ∷ ys) (inr i) = inr (in_map_to g x ys i)
  in_map_to g x [] i = absurd i

module _ {A B : Type 0} where
  pairs : List A → List B → List (A × B)
  pairs [] ys = []
  pairs (x ∷ xs) ys = map (λ y. (x, y)) ys ++ pairs xs ys

  pairs_in : (x : A) (y : B) (xs : List A) (ys : List B) → In x xs → In y ys → In (x, y) (pairs xs ys)
  unfolding pairs
  pairs_in x y [] ys i j = absurd i
  pairs_in x y (z ∷ xs) ys (inl e) j = in_left (x, y) (map (λ w. (z, w)) ys) (pairs xs ys) (subst (λ (v : A). In {T = A × B} (x, y) (map (λ w. (v, w)) ys)) e (in_map_to (λ w. (x, w)) y ys j))
  pairs_in x y (z ∷ xs) ys (inr i) j = in_right (x, y) (map (λ w. (z, w)) ys) (pairs xs ys) (pairs_in x y xs ys i j)

  pairs_first : (z : A × B) (xs : List A) (ys : List B) → In z (pairs xs ys) → In z.0 xs
  unfolding pairs
  pairs_first z [] ys i = i
  pairs_first z (x ∷ xs) ys i = elim (in_either z (map (λ y. (x, y)) ys) (pairs xs ys) i) [
    | inl j ↦ inl (ap (λ (w : A × B). w.0) (in_map (λ y. (x, y)) z ys j).2)
    | inr j ↦ inr (pairs_first z xs ys j)
  ]

  pairs_distinct : (xs : List A) (ys : List B) → Distinct xs → Distinct ys → Distinct (pairs xs ys)
  unfolding pairs
  pairs_distinct [] ys d e = tt
  pairs_distinct (x ∷ xs) ys d e = distinct_append (map (λ y. (x, y)) ys) (pairs xs ys) (map_distinct (λ y. (x, y)) (λ y z p. ap (λ (w : A × B). w.1) p) ys e) (pairs_distinct xs ys d.1 e)
      (λ z i j. d.0 (subst (λ (w : A). In w xs) (ap (λ (w : A × B). w.0) (in_map (λ y. (x, y)) z ys i).2) (pairs_first z xs ys j)))

  pairs_length : (xs : List A) (ys : List B) → length (pairs xs ys) ≡ length xs * length ys
  unfolding pairs
  pairs_length [] ys = omega arith
  pairs_length (x ∷ xs) ys = omega (arith, length_append (map (λ y. (x, y)) ys) (pairs xs ys), map_length {T = A × B} (λ y. (x, y)) ys, pairs_length xs ys)

  -- all pairs
  pub listing_pair : (m n : ℕ) → Listing A m → Listing B n → Listing (A × B) (m * n)
  listing_pair m n L M = record {
    elements = pairs L.elements M.elements;
    distinct = pairs_distinct L.elements M.elements L.distinct M.distinct;
    all = λ z. pairs_in z.0 z.1 L.elements M.elements (L.all z.0) (M.all z.1);
    count = pairs_length L.elements M.elements ∙ ap₂ ◌*◌ L.count M.count;
  }

  -- all images under a map that is one to one and onto
  pub listing_map : (n : ℕ) → Listing A n → (g : A → B) → ((x y : A) → g x ≡ g y → x ≡ y) → ((y : B) → (x : A) × (g x ≡ y)) → Listing B n
  listing_map n L g inj onto = record {
    elements = map g L.elements;
    distinct = map_distinct g inj L.elements L.distinct;
    all = λ y. let r = onto y in subst (λ (z : B). In z (map g L.elements)) r.1 (in_map_to g r.0 L.elements (L.all r.0));
    count = map_length g L.elements ∙ L.count;
  }

-- a decided property holds of some element or of none
pub search_listing : {T : Type 0} {q : ℕ} (L : Listing T q) (P : T → Type 0) → ((x : T) → Dec (P x)) → ((x : T) × P x) ⊎ ((x : T) → P x → ⊥)
search_listing {T} L P dec = elim (go L.elements) [ inl r ↦ inl r | inr n ↦ inr (λ x p. n x (L.all x) p) ]
  where
    by : (y : T) (ys : List T) → Dec (P y) → ((x : T) × P x) ⊎ ((x : T) → In x ys → P x → ⊥) → ((x : T) × P x) ⊎ ((x : T) → In x (y ∷ ys) → P x → ⊥)
    by y ys (yes p) r = inl (y, p)
    by y ys (no n) (inl r) = inl r
    by y ys (no n) (inr m) = inr (λ x i p. elim i [ inl e ↦ n (subst P e p) | inr j ↦ m x j p ])

    go : (xs : List T) → ((x : T) × P x) ⊎ ((x : T) → In x xs → P x → ⊥)
    go [] = inr (λ x i p. i)
    go (x ∷ xs) = by x xs (dec x) (go xs)
