use Rattle.std.proofs.Common.{ℕ, ◌<◌, sym, ap, ◌∙◌, inl, inr, arith}
use Rattle.field.specs.Symbol.{symbol_ring}
use Rattle.field.proofs.AlphaPowers.{product_left, product_right}
use Rattle.field.proofs.TableEntries.{product_read}
use Rattle.field.proofs.symbols.multiply.Goals as goal

pub returns-then-a-eq0 : goal.returns-then-a-eq0
returns-then-a-eq0 c = elim c.then-a-eq0.either [
  | inl e ↦ product_left c.args.b (omega arith) ∙ ap (λ (x : ℕ). symbol_ring.product x c.args.b) (sym e)
  | inr e ↦ product_right c.args.a (omega arith) ∙ ap (symbol_ring.product c.args.a) (sym e.1)
]

pub returns : goal.returns
returns c =
    let p : 0 < c.args.a = omega (arith, c.if-a-eq0.false) in
    let q : 0 < c.args.b = omega (arith, c.if-b-eq0.false) in
    product_read _ _ c.symbol_tables-table.ensures c.args.a c.args.b c.from.result c.from-2.result c.from-3.result c.from-4.result
    p (omega arith) q (omega arith) c.from.ensures c.from-2.ensures c.from-3.ensures c.from-4.ensures
