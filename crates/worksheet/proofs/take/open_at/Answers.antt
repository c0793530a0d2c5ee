use Rattle.std.proofs.Common.{◌∙◌, sym, ap, refl, rules}
use Rattle.worksheet.specs.Places.{some_open}
use Rattle.worksheet.proofs.Tallies.{got, got_and}
use Rattle.worksheet.proofs.take.open_at.Goals as goal

pub returns : goal.returns
returns c =
    let h = c.get.ensures.lookup in
    got_and some_open c.get.result c.is_some_and.result refl c.is_some_and.ensures (λ x q. search rules)
    ∙ sym (ap some_open (got c.args.parts.now c.args.number c.get.result h.0 h.1))
