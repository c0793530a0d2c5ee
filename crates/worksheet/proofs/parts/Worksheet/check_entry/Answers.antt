use Rattle.std.proofs.Common.{map, ap, ◌∙◌, arith}
use borrow.Author.Tests.{both_ways}
use Rattle.std.proofs.lemmas.Slice.Eq.{slice_eq-Decides}
use Rattle.std.proofs.lemmas.Bool.Decides.{Decides-eqb}
use Rattle.worksheet.specs.Sheet.{total_degree}
use Rattle.worksheet.specs.Meaning.{part_of, sheet_of}
use Rattle.worksheet.proofs.Refusals.{entry_passes}
use Rattle.worksheet.proofs.parts.Worksheet.check_entry.Goals as goal

pub returns : goal.returns
returns g c =
    let total = c.degree_of.ensures ∙ ap (λ xs. total_degree (map part_of xs)) c.deref.ensures.value in
    entry_passes (g.F.Ring.meaning c.args.self.now.field) (sheet_of c.args.self.now) c.args.f.now c.in_ok-check.ensures
    (λ e. both_ways c.eq.result c.if-eq.false ((slice_eq-Decides Decides-eqb _ _ _ c.eq.ensures).1 e)) (omega arith)
