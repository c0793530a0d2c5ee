use Rattle.std.proofs.Common.{◌≡◌, ℕ, ◌++◌, List, map, drop, Some, None, Ok, Err, Option, vec_items, sym, refl, ap, ◌∙◌, arith, Bor, ltb, length, get_or}
use Rattle.std.specs.Option.{option_map, ok_or, is_some, IfSome}
use Rattle.std.proofs.lemmas.Result.{err_from_is_err_and}
use Rattle.worksheet.specs.declared.fault.SheetFault.{SheetFault}
use Rattle.worksheet.specs.declared.fault.SheetFault.TheVariants.{NoPart}
use Rattle.worksheet.specs.declared.parts.Part.{Part}
use Rattle.worksheet.specs.Sheet.{part_at}
use Rattle.worksheet.specs.Meaning.{part_of, sheet_of}
use Rattle.worksheet.proofs.Tallies.{got}
use Rattle.worksheet.proofs.Refusals.{read_none, read_short, read_fits, gives_at, tells_at}
use Rattle.worksheet.proofs.parts.Worksheet.read.Goals as goal

-- what `ok_or` answered, read back
ok_none : {A : Type 0} (r : Option A) (e : SheetFault) → ok_or r NoPart ≡ Err e → (r ≡ None) × (e ≡ NoPart)
ok_none None e h = (refl, cc)
ok_none (Some x) e h = absurd cc

ok_some : {A : Type 0} (r : Option A) (x : A) → ok_or r NoPart ≡ Ok x → r ≡ Some x
ok_some None x h = absurd cc
ok_some (Some y) x h = cc

-- the parts xs are those of the worksheet, ys
gets : (xs ys : List Part) (i : ℕ) (r o : Option (Bor Part)) → (is_some r ≡ ltb i (length xs)) → IfSome r (λ x. x.now ≡ get_or xs i x.now) → xs ≡ ys → r ≡ o → part_at (map part_of ys) i ≡ option_map (λ x. part_of x.now) o
gets xs ys i r o h k e d = sym (ap (λ (zs : List Part). part_at (map part_of zs) i) e) ∙ got xs i r h k ∙ ap (option_map (λ x. part_of x.now)) d

pub returns-in_err-part : goal.returns-in_err-part
returns-in_err-part g c =
    let w = c.args.self.now in
    let i = c.args.number in
    let h = c.get.ensures.lookup in
    let none = ok_none c.get.result c.in_err-part.field-0.0 (sym c.ok_or.ensures.value ∙ c.in_err-part.was) in
    let here = gets c.deref.result.now (vec_items w.parts) i c.get.result None h.0 h.1 c.deref.ensures.value none.0 in
    let p = err_from_is_err_and c.from_residual.result c.from_residual.ensures.1 in
    rw (p.1, p.2, none.1) (read_none (sheet_of w) i c.args.out.now here, refl)

pub returns-then-out-codes : goal.returns-then-out-codes
returns-then-out-codes g c =
    let w = c.args.self.now in
    let i = c.args.number in
    let h = c.get.ensures.lookup in
    let p = c.in_ok-part.part in
    let here = gets c.deref.result.now (vec_items w.parts) i c.get.result (Some p) h.0 h.1 c.deref.ensures.value (ok_some c.get.result p (sym c.ok_or.ensures.value ∙ c.in_ok-part.was)) in
    (read_short (sheet_of w) i c.args.out.now (part_of p.now) here (omega (arith, ap length c.codes-codes.ensures.value)), refl)

pub returns : goal.returns
returns g c =
    let w = c.args.self.now in
    let i = c.args.number in
    let out : List ℕ = c.args.out.now in
    let h = c.get.ensures.lookup in
    let p = c.in_ok-part.part in
    let here = gets c.deref.result.now (vec_items w.parts) i c.get.result (Some p) h.0 h.1 c.deref.ensures.value (ok_some c.get.result p (sym c.ok_or.ensures.value ∙ c.in_ok-part.was)) in (
      read_fits (sheet_of w) i out (part_of p.now) here (omega (arith, ap length c.codes-codes.ensures.value)),
      gives_at _ (part_of p.now) out _ _ here c.degree.ensures (ap (λ (xs : List ℕ). xs ++ drop (length c.codes-codes.result.now) out) c.copy_from_slice.ensures.after ∙ ap (λ (xs : List ℕ). xs ++ drop (length xs) out) c.codes-codes.ensures.value),
      tells_at _ (part_of p.now) here,
    )
