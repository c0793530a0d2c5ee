use Rattle.std.proofs.Common.{arith}
use Rattle.split.proofs.Residues.{power_raised}
use Rattle.split.proofs.remainders.Modulo.times_x.Goals as goal

pub returns : goal.returns
returns g c n w =
    power_raised (g.R.Ring.meaning c.args.self.now.ring.now) (g.met.R.Ring.ring c.args.self.now.ring.now c.requires.made) c.args.self.now.f.now c.args.self.now.taken n c.args.row.now c.loop-i.row w
    (record { sized = c.loop-i.auto.row; at = λ k h. c.loop-i.invariant.1 k (omega arith) })
