use Rattle.std.proofs.Common.{length, rules, arith}
use Rattle.poly.proofs.Dividing.{dividing_none, dividing_skip, dividing_more, dividing_all, zeros_past}
use Rattle.poly.proofs.division.Divisor.divide.Goals as goal

pub loop-i-init : goal.loop-i-init
loop-i-init g c =
    let d = c.args.self.now in
    let q = c.args.quotient.now in
    record {
      sized = c.requires.zeros.sized;
      divides = λ L. dividing_none (g.R.Ring.meaning d.ring.now) L c.args.row.now d.codes.now q c.requires.codes (zeros_past q (length c.args.row.now) c.requires.zeros);
    }

pub loop-i-preserved : goal.loop-i-preserved
loop-i-preserved g c =
    let d = c.args.self.now in
    record {
      sized = c.loop-i.invariant.sized;
      divides = λ L. dividing_skip (g.R.Ring.meaning d.ring.now) L c.args.row.now d.codes.now c.loop-i.quotient c.loop-i.row c.loop-i.i (omega arith) (c.loop-i.invariant.divides L) (search rules);
    }

pub loop-i-preserved-then-row-i-ne0 : goal.loop-i-preserved-then-row-i-ne0
loop-i-preserved-then-row-i-ne0 g c =
    let d = c.args.self.now in
    record {
      sized = search rules;
      divides = λ L. dividing_more (g.R.Ring.meaning d.ring.now) L c.args.row.now d.codes.now c.loop-i.quotient c.loop-i.row d.inverse c.loop-i.i
          d.canonical d.inverts (omega arith) (c.loop-i.invariant.divides L) c.product-c.result c.opposite.result c.add_multiple.new.row
          (omega (arith, c.loop-i.invariant.sized)) c.product-c.ensures c.opposite.ensures c.add_multiple.ensures;
    }

pub returns : goal.returns
returns g c =
    let d = c.args.self.now in
    let L = g.met.R.Ring.ring d.ring.now c.requires.made in
    dividing_all (g.R.Ring.meaning d.ring.now) L c.args.row.now d.codes.now c.loop-i.quotient c.loop-i.row
    c.loop-i.i (omega arith) c.requires.codes d.canonical (c.loop-i.invariant.divides L)
