use Rattle.std.proofs.Common.{refl}
use Rattle.field.proofs.SymbolLaws.{symbol_laws}
use Rattle.field.proofs.symbols.SymbolField.new.Goals as goal

pub returns : goal.returns
returns c = (symbol_laws, refl, refl)
