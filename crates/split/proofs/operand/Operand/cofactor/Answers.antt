use Rattle.std.proofs.Common.{replicate, arith}
use Rattle.split.proofs.ExactDivision.{divided, cofactor_read}
use Rattle.split.proofs.operand.Operand.cofactor.Goals as goal

pub unwrap-n-requires : goal.unwrap-n-requires
unwrap-n-requires g c =
    let t = c.args.self.now in
    divided _ t.laws _ _ t.taken c.requires.other c.requires.divides (record { quotient = replicate 128 0; remainder = replicate 128 0 })
    (record { quotient = c.divide.new.quotient; remainder = c.divide.new.remainder }) c.divide.result c.divide.ensures.result (omega arith) (omega arith)

pub returns : goal.returns
returns g c =
    let t = c.args.self.now in
    let w = cofactor_read _ t.laws _ _ t.taken c.requires.other c.requires.divides (record { quotient = replicate 128 0; remainder = replicate 128 0 })
    (record { quotient = c.divide.new.quotient; remainder = c.divide.new.remainder }) c.divide.result c.divide.ensures.result _ c.unwrap-n.ensures _ c.new.ensures in
    record { canonical = w.0; multiplies = w.1 }
