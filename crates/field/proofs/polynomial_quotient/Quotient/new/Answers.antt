use Rattle.field.specs.Ranges.{reduces_made}
use Rattle.field.proofs.polynomial_quotient.Quotient.new.Goals as goal

pub returns-in_err-check_quotient-clause-reduces : goal.returns-in_err-check_quotient-clause-reduces
returns-in_err-check_quotient-clause-reduces g c = reduces_made

pub returns-clause-reduces : goal.returns-clause-reduces
returns-clause-reduces g c = reduces_made
