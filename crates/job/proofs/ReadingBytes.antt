-- What a check of the reading says of all that is read after it.
-- Main statements: carried, passed; given_there, given_short, allowed_there, allowed_not, end_there, end_not; given_carried, judged_carried,
-- judged_after, given_ok, judged_ok, counted, judged_there, judged_not; moved_short, moved_there, given_moved, taken_moved; byte_taken, word_taken, words_taken;
-- judged_from, base_from, base_prime, base_symbols; words_are.
use Rattle.std.proofs.Common.{◌≡◌, ℕ, zero, suc, ◌+◌, ◌*◌, ◌<◌, ◌≤◌, Bool, true, false, leb, ◌⊎◌, List, length, get_or, take, drop, IsErrAnd, Ok, Err, Result, sym, refl, ap, ◌∙◌, ap₂, inl, inr, arith, eqb, eq-eqb, ne_eqb, le-leb, leb-true}
use borrow.Author.Tests.{lt-leb}
use Rattle.std.proofs.lemmas.List.{ext_get_or, get_or-take, get_or-drop}
use Rattle.std.proofs.lemmas.Result.{err_from_is_err_and}
use Rattle.std.proofs.lemmas.Bool.{and_parts, and_from, and_left, and_right}
use Rattle.field.specs.Checks.{between}
use Rattle.job.specs.declared.fault.JobFault.{JobFault}
use Rattle.job.specs.declared.fault.JobFault.TheVariants.{EndsEarly, NotAllowed, LeftOver}
use Rattle.job.specs.declared.reader.Base.{Base}
use Rattle.job.specs.declared.reader.Base.TheVariants.{Prime, Symbols}
use Rattle.job.specs.declared.reader.Reader.{Reader}
use Rattle.job.specs.Reading.{end, ended, byte, word, words, given, allowed, judged, at_end}
use Rattle.job.specs.Reader.{bytes_of, Moved, base_at}

-- what `go` makes of an answer, and `stop` of a refusal
abbrev pub carried : {A B : Type 0} → (JobFault → B) → (A → B) → Result A JobFault → B
carried stop go (Ok a) = go a
carried stop go (Err e) = stop e

-- what a `?` passes on
pub passed : {A : Type 0} (r : Result A JobFault) (e : JobFault) → IsErrAnd r (λ x. x ≡ e) → r ≡ Err e
passed r e h = let p = err_from_is_err_and r h in p.1 ∙ ap Err p.2

-- a check by a test
check : {A : Type 0} → Bool → A → A → A
check b refusal rest = elim b [ true ↦ rest | false ↦ refusal ]

check_carried : {A B : Type 0} (b : Bool) (e : JobFault) (stop : JobFault → B) (go : A → B) (r : Result A JobFault) → carried stop go (check b (Err e) r) ≡ check b (stop e) (carried stop go r)
unfolding check
check_carried true e stop go r = refl
check_carried false e stop go r = refl

check_ok : {A : Type 0} (b : Bool) (e : JobFault) (r : Result A JobFault) (a : A) → Ok a ≡ check b (Err e) r → (b ≡ true) × (Ok a ≡ r)
unfolding check
check_ok true e r a h = (refl, h)
check_ok false e r a h = cc

module _ {A : Type 0} (stop : JobFault → A) (bytes : List ℕ) (rest : A) where
  pub given_there : (to : ℕ) → to ≤ length bytes → given stop bytes to rest ≡ rest
  unfolding given check
  given_there to h = ap (λ (b : Bool). check b (stop (EndsEarly (length bytes))) rest) (le-leb to (length bytes) h)

  pub given_short : (to : ℕ) → length bytes < to → given stop bytes to rest ≡ stop (EndsEarly (length bytes))
  unfolding given check
  given_short to h = ap (λ (b : Bool). check b (stop (EndsEarly (length bytes))) rest) (lt-leb to (length bytes) h)

  pub allowed_there : (i low high : ℕ) → low ≤ byte bytes i → byte bytes i ≤ high → allowed stop bytes i low high rest ≡ rest
  unfolding allowed check
  allowed_there i low high h k = ap (λ (b : Bool). check b (stop (NotAllowed i)) rest) (and_from _ _ (le-leb low (byte bytes i) h) (le-leb (byte bytes i) high k))

  pub allowed_not : (i low high : ℕ) → (byte bytes i < low) ⊎ (high < byte bytes i) → allowed stop bytes i low high rest ≡ stop (NotAllowed i)
  unfolding allowed check
  allowed_not i low high h = ap (λ (b : Bool). check b (stop (NotAllowed i)) rest)
      (elim h [ inl k ↦ and_left (leb low (byte bytes i)) (leb (byte bytes i) high) (lt-leb low (byte bytes i) k) | inr k ↦ and_right (leb low (byte bytes i)) (leb (byte bytes i) high) (lt-leb (byte bytes i) high k) ])

module _ {A B : Type 0} (stop : JobFault → B) (go : A → B) (bytes : List ℕ) (r : Result A JobFault) where
  pub given_carried : (to : ℕ) → carried stop go (given Err bytes to r) ≡ given stop bytes to (carried stop go r)
  unfolding given check
  given_carried to = check_carried (leb to (length bytes)) (EndsEarly (length bytes)) stop go r

  pub allowed_carried : (i low high : ℕ) → carried stop go (allowed Err bytes i low high r) ≡ allowed stop bytes i low high (carried stop go r)
  unfolding allowed check
  allowed_carried i low high = check_carried (between low high (byte bytes i)) (NotAllowed i) stop go r

pub judged_carried : {A B : Type 0} (stop : JobFault → B) (go : A → B) (bytes : List ℕ) (r : Result A JobFault) (i low high : ℕ) → carried stop go (judged Err bytes i low high r) ≡ judged stop bytes i low high (carried stop go r)
judged_carried stop go bytes r i low high =
    given_carried stop go bytes (allowed Err bytes i low high r) (i + 1) ∙ ap (given stop bytes (i + 1)) (allowed_carried stop go bytes r i low high)

-- after a check that asked for nothing more: r is what it answered
pub judged_after : {A B : Type 0} (stop : JobFault → B) (rest : B) (bytes : List ℕ) (i low high : ℕ) (a : A) (r : Result A JobFault) → r ≡ judged Err bytes i low high (Ok a) → carried stop (λ _. rest) r ≡ judged stop bytes i low high rest
judged_after stop rest bytes i low high a r e = ap (carried stop (λ _. rest)) e ∙ judged_carried stop (λ _. rest) bytes (Ok a) i low high

pub given_ok : {A : Type 0} (bytes : List ℕ) (to : ℕ) (r : Result A JobFault) (a : A) → Ok a ≡ given Err bytes to r → (to ≤ length bytes) × (Ok a ≡ r)
unfolding given check
given_ok bytes to r a h = let k = check_ok (leb to (length bytes)) (EndsEarly (length bytes)) r a h in (leb-true to (length bytes) k.0, k.1)

pub same_ok : {A : Type 0} {a b : A} → ◌≡◌ {A = Result A JobFault} (Ok a) (Ok b) → a ≡ b
same_ok e = cc

-- what is known of a count, kind or length that is allowed
pub record Counted (bytes : List ℕ) (i low high : ℕ) : Type 0 where
  pub least : low ≤ byte bytes i
  pub greatest : byte bytes i ≤ high

pub judged_ok : {A : Type 0} (bytes : List ℕ) (i low high : ℕ) (r : Result A JobFault) (a : A) → Ok a ≡ judged Err bytes i low high r → Counted bytes i low high × (Ok a ≡ r)
unfolding allowed check
judged_ok bytes i low high r a h =
    let k = given_ok bytes (i + 1) (allowed Err bytes i low high r) a h in
    let q = check_ok (between low high (byte bytes i)) (NotAllowed i) r a k.1 in
    let b = and_parts (leb low (byte bytes i)) (leb (byte bytes i) high) q.0 in
    (record { least = leb-true low (byte bytes i) b.0; greatest = leb-true (byte bytes i) high b.1 }, q.1)

-- the same of its value
pub counted : (bytes : List ℕ) (i low high n : ℕ) → Ok n ≡ judged Err bytes i low high (Ok (byte bytes i)) → (n ≡ byte bytes i) × (low ≤ n) × (n ≤ high)
counted bytes i low high n h =
    let k = judged_ok bytes i low high (Ok (byte bytes i)) n h in
    let is = same_ok k.1 in
    (is, omega (arith, k.0.least), omega (arith, k.0.greatest))

-- a byte that is there is one of low to high, or it is not
module _ (bytes : List ℕ) (i low high b : ℕ) (read : Ok b ≡ given Err bytes (i + 1) (Ok (byte bytes i))) where
  pub judged_there : low ≤ b → b ≤ high → Ok b ≡ judged Err bytes i low high (Ok (byte bytes i))
  judged_there h k =
      let (enough, same) = given_ok bytes (i + 1) (Ok (byte bytes i)) b read in
      let is = same_ok same in
      same ∙ sym (allowed_there Err bytes (Ok (byte bytes i)) i low high (omega arith) (omega arith)) ∙ sym (given_there Err bytes _ (i + 1) enough)

  pub judged_not : (b < low) ⊎ (high < b) → Err (NotAllowed i) ≡ judged Err bytes i low high (Ok (byte bytes i))
  judged_not h =
      let (enough, same) = given_ok bytes (i + 1) (Ok (byte bytes i)) b read in
      let is = same_ok same in
      sym (allowed_not Err bytes (Ok (byte bytes i)) i low high (elim h [ inl k ↦ inl (omega arith) | inr k ↦ inr (omega arith) ])) ∙ sym (given_there Err bytes _ (i + 1) enough)

pub end_there : (bytes : List ℕ) (i : ℕ) → i ≡ length bytes → at_end bytes i ≡ end
unfolding at_end check
end_there bytes i h = ap (λ (b : Bool). check b (ended (LeftOver i)) end) (eq-eqb i (length bytes) h)

pub end_not : (bytes : List ℕ) (i : ℕ) → i < length bytes → at_end bytes i ≡ ended (LeftOver i)
unfolding at_end check
end_not bytes i h = ap (λ (b : Bool). check b (ended (LeftOver i)) end) (ne_eqb i (length bytes) (λ e. omega arith))

-- n bytes, up to the place `to`, are asked for by a reader that has moved: they are not there, or they are
module _ {A : Type 0} {s t : Reader} {k : ℕ} (n to : ℕ) (rest : Result A JobFault) (h : Moved s k t) (place : s.at + k + n ≡ to) where
  pub moved_short : (e : JobFault) → length (bytes_of t) < t.at + n → e ≡ EndsEarly (length (bytes_of t)) → Err e ≡ given Err (bytes_of s) to rest
  moved_short e few is = ap Err (is ∙ ap (λ (b : List ℕ). EndsEarly (length b)) h.same) ∙ sym (given_short Err (bytes_of s) rest to (omega (arith, h.place, ap length h.same)))

  pub moved_there : t.at + n ≤ length (bytes_of t) → rest ≡ given Err (bytes_of s) to rest
  moved_there enough = sym (given_there Err (bytes_of s) rest to (omega (arith, h.place, ap length h.same)))

-- the bytes that are taken
module _ (bytes taken : List ℕ) (i n : ℕ) (is : taken ≡ take n (drop i bytes)) where
  pub byte_taken : (k j : ℕ) → k < n → i + k ≡ j → get_or taken k 0 ≡ byte bytes j
  byte_taken k j h e = ap (λ (l : List ℕ). get_or l k 0) is ∙ get_or-take n (drop i bytes) k 0 h ∙ get_or-drop i bytes k 0 ∙ ap (byte bytes) e

  pub word_taken : (k j : ℕ) → k + 1 < n → i + k ≡ j → word taken k ≡ word bytes j
  word_taken k j h e = ap₂ (λ (a b : ℕ). a + 256 * b) (byte_taken k j (omega arith) e) (byte_taken (k + 1) (j + 1) h (omega arith))

-- a reader that stands at place i
module _ (t : Reader) (bytes : List ℕ) (i : ℕ) (same : bytes_of t ≡ bytes) (place : t.at ≡ i) where
  pub judged_from : (low high : ℕ) → judged Err (bytes_of t) t.at low high (Ok (byte (bytes_of t) t.at)) ≡ judged Err bytes i low high (Ok (byte bytes i))
  judged_from low high = ap₂ (λ (b : List ℕ) (j : ℕ). judged Err b j low high (Ok (byte b j))) same place

  pub base_from : base_at (bytes_of t) t.at ≡ base_at bytes i
  base_from = ap₂ base_at same place

module _ {r s : Reader} {n : ℕ} (h : Moved r n s) where
  pub given_moved : (to : ℕ) → r.at + n + 1 ≡ to → given Err (bytes_of s) (s.at + 1) (Ok (byte (bytes_of s) s.at)) ≡ given Err (bytes_of r) to (Ok (byte (bytes_of r) (r.at + n)))
  given_moved to e =
      ap₂ (λ (b : List ℕ) (i : ℕ). given Err b (i + 1) (Ok (byte b i))) h.same h.place ∙ ap (λ (j : ℕ). given Err (bytes_of r) j (Ok (byte (bytes_of r) (r.at + n)))) e

  pub taken_moved : (count : ℕ) → take count (drop s.at (bytes_of s)) ≡ take count (drop (r.at + n) (bytes_of r))
  taken_moved count = ap₂ (λ (b : List ℕ) (i : ℕ). take count (drop i b)) h.same h.place

-- the first level, whose kind is at place i
module _ (bytes : List ℕ) (i : ℕ) where
  abbrev of_kind : Bool → Result Base JobFault
  of_kind b = elim b [ true ↦ given Err bytes (i + 2) (Ok (Prime (byte bytes (i + 1)))) | false ↦ Ok Symbols ]

  module _ (k : ℕ) (kind : Ok k ≡ judged Err bytes i 1 2 (Ok (byte bytes i))) where
    pub base_prime : k ≡ 1 → (r : Result ℕ JobFault) → r ≡ given Err bytes (i + 2) (Ok (byte bytes (i + 1))) → carried Err (λ p. Ok (Prime p)) r ≡ base_at bytes i
    base_prime e r h =
        ap (carried Err (λ p. Ok (Prime p))) h ∙ given_carried Err (λ p. Ok (Prime p)) bytes (Ok (byte bytes (i + 1))) (i + 2)
        ∙ ap of_kind (sym (eq-eqb (byte bytes i) 1 (sym (counted bytes i 1 2 k kind).0 ∙ e))) ∙ judged_after Err (of_kind (eqb (byte bytes i) 1)) bytes i 1 2 (byte bytes i) (Ok k) kind

    pub base_symbols : (k ≡ 1 → ⊥) → Ok Symbols ≡ base_at bytes i
    base_symbols n =
        ap of_kind (sym (ne_eqb (byte bytes i) 1 (λ e. n ((counted bytes i 1 2 k kind).0 ∙ e)))) ∙ judged_after Err (of_kind (eqb (byte bytes i) 1)) bytes i 1 2 (byte bytes i) (Ok k) kind

length_words : (bytes : List ℕ) (i n : ℕ) → length (words bytes i n) ≡ n
unfolding words
length_words bytes i zero = refl
length_words bytes i (suc n) = ap suc (length_words bytes (i + 2) n)

get_d_words : (bytes : List ℕ) (i n k : ℕ) → k < n → get_or (words bytes i n) k 0 ≡ word bytes (i + 2 * k)
unfolding words
get_d_words bytes i zero k h = absurd (omega arith)
get_d_words bytes i (suc n) zero h = ap (word bytes) (omega arith)
get_d_words bytes i (suc n) (suc k) h = get_d_words bytes (i + 2) n k (omega arith) ∙ ap (word bytes) (omega arith)

-- a row that holds the word of each index
pub words_are : (bytes row : List ℕ) (i n : ℕ) → length row ≡ n → ((k : ℕ) → k < n → get_or row k 0 ≡ word bytes (i + 2 * k)) → row ≡ words bytes i n
words_are bytes row i n e h = ext_get_or 0 row (words bytes i n) (e ∙ sym (length_words bytes i n)) (λ k l. h k (omega arith) ∙ sym (get_d_words bytes i n k (omega arith)))

-- the words of bytes that are taken
pub words_taken : (bytes taken : List ℕ) (i c n : ℕ) → taken ≡ take n (drop i bytes) → 2 * c ≤ n → words taken 0 c ≡ words bytes i c
words_taken bytes taken i c n is h =
    words_are bytes (words taken 0 c) i c (length_words taken 0 c) (λ k l. get_d_words taken 0 c k l ∙ word_taken bytes taken i n is (0 + 2 * k) (i + 2 * k) (omega arith) (omega arith))
