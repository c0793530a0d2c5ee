use Rattle.split.proofs.remainders.Modulo.+write_power.Given as goal

abbrev pub decreases-write_power : goal.decreases-write_power
decreases-write_power g l = l.n
