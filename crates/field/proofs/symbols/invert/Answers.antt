use Rattle.std.proofs.Common.{◌<◌, sym, ap, ◌∙◌, arith}
use Rattle.field.specs.Symbol.{symbol_extras}
use Rattle.field.proofs.AlphaPowers.{inverse_none}
use Rattle.field.proofs.TableEntries.{inverse_read}
use Rattle.field.proofs.symbols.invert.Goals as goal

pub returns-then-a-eq0 : goal.returns-then-a-eq0
returns-then-a-eq0 c = inverse_none ∙ ap symbol_extras.inverse (sym c.if-a-eq0.true)

pub returns : goal.returns
returns c =
    let p : 0 < c.args.a = omega (arith, c.if-a-eq0.false) in
    inverse_read _ _ c.symbol_tables-table.ensures c.args.a c.from.result c.from-2.result p (omega arith) c.from.ensures c.from-2.ensures
