use Rattle.std.proofs.Common.{ltb, refl}
use Rattle.split.proofs.Shifting.{shares_decided}
use Rattle.split.proofs.operand.Operand.shares.Goals as goal

pub returns : goal.returns
returns g c =
    let s = c.args.self.now in
    shares_decided _ s.laws _ _ s.taken c.requires.least c.args.w c.shift_divisor.result c.shift_divisor.ensures c.degree.result c.degree.ensures (ltb 0 c.degree.result) refl
