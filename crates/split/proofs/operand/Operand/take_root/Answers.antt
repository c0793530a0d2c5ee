use Rattle.std.proofs.Common.{ℕ, ◌-◌, ◌/◌, length, refl, ap, arith}
use Rattle.field.specs.Field.{means}
use Rattle.split.specs.Splitting.{root, root_of}
use Rattle.split.proofs.RootKind.{root_written}
use Rattle.split.proofs.operand.Operand.take_root.Goals as goal

pub returns : goal.returns
returns g c other =
    let t = c.args.self.now in
    let p = c.characteristic-p in
    record {
      into = root (root_of (means (g.F.Ring.meaning t.field.now) (g.F.Field.extras t.field.now)) t.f.now);
      splits = (c.requires.kind, refl);
      answers = ap (λ (x : ℕ). (1, (length t.f.now - 1) / x, 0)) p.ensures.value;
      pieces = (
        root_written _ t.laws _ t.taken c.requires.kind _ c.root_codes.new.out p.result _ p.ensures.value (ap (λ (x : ℕ). x / p.result) c.order.ensures) (omega arith) (omega (arith, t.taken.short))
            c.root_codes.ensures,
        refl,
      );
    }
