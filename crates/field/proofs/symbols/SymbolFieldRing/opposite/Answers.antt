use Rattle.std.proofs.Common.{arith}
use Rattle.field.proofs.SymbolSums.{symbol_opposite}
use Rattle.field.proofs.symbols.SymbolFieldRing.opposite.Goals as goal

pub returns-then-a-lt-ORDER : goal.returns-then-a-lt-ORDER
returns-then-a-lt-ORDER c = symbol_opposite c.args.a (omega arith)
