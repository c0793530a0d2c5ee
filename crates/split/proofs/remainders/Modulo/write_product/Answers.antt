use Rattle.std.proofs.Common.{◌≡◌, ℕ, ◌-◌, List, length, take, ap, arith}
use Rattle.split.proofs.Residues.{multiplied}
use Rattle.split.proofs.remainders.Modulo.write_product.Goals as goal

pub unwrap-requires : goal.unwrap-requires
unwrap-requires g c =
    let f : List ℕ = c.args.self.now.f.now in
    let s : length f - 1 - 0 ≡ length f - 1 = omega arith in
    (multiplied (g.R.Ring.meaning c.args.self.now.ring.now) (g.met.R.Ring.ring c.args.self.now.ring.now c.requires.made) f c.args.self.now.taken (take (length f - 1 - 0) f) c.args.left.now c.args.right.now c.args.out.now
    c.multiply_modulo.new.row c.multiply_modulo.result (ap (λ (n : ℕ). take n f) s) c.requires.left c.requires.right c.requires.room c.multiply_modulo.ensures).0

pub returns : goal.returns
returns g c =
    let f : List ℕ = c.args.self.now.f.now in
    let s : length f - 1 - 0 ≡ length f - 1 = omega arith in
    (multiplied (g.R.Ring.meaning c.args.self.now.ring.now) (g.met.R.Ring.ring c.args.self.now.ring.now c.requires.made) f c.args.self.now.taken (take (length f - 1 - 0) f) c.args.left.now c.args.right.now c.args.out.now
    c.multiply_modulo.new.row c.multiply_modulo.result (ap (λ (n : ℕ). take n f) s) c.requires.left c.requires.right c.requires.room c.multiply_modulo.ensures).1
