use Rattle.std.proofs.Common.{arith}
use Rattle.field.proofs.SymbolSums.{symbol_sum}
use Rattle.field.proofs.symbols.SymbolFieldRing.sum.Goals as goal

pub returns : goal.returns
returns c = symbol_sum c.args.a c.args.b (omega arith) (omega arith)
