use Rattle.std.proofs.Common.{refl}
use Rattle.field.specs.Tables.{goes, undoes}
use Rattle.field.proofs.TableEntries.{tabulated}
use Rattle.field.proofs.symbols.symbol_tables.Goals as goal

pub returns : goal.returns
unfolding goes undoes
returns c = tabulated _ _ refl
