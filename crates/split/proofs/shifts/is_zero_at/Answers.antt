use Rattle.field.specs.Polynomial.{value}
use Rattle.poly.specs.Faults.{point_refusal}
use Rattle.split.proofs.Unrefused.{point_taken, gives_ok}
use Rattle.split.proofs.shifts.is_zero_at.Goals as goal

pub unwrap-requires : goal.unwrap-requires
unwrap-requires g c =
    let m = g.R.Ring.meaning c.args.ring.now in
    let f = c.args.sieve.now in
    let v = rw c.as_slice.ensures.value at c.value.ensures in
    gives_ok (point_refusal m f c.args.w) (value m f c.args.w) (point_taken m f c.args.w c.requires.canonical c.as_slice.ensures.short c.requires.code) c.value.result v
