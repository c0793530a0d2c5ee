use Rattle.std.proofs.Common.{ℕ, ◌*◌, ◌≤◌, List, length, sym, refl, ap, ◌∙◌, subst, ap₂, arith, rules}
use Rattle.std.proofs.lemmas.Option.{same_Some}
use Rattle.std.specs.List.{remove}
use Rattle.split.specs.Splitting.{root, whole}
use Rattle.worksheet.specs.Sheet.{PartMeaning, place}
use Rattle.worksheet.specs.Meaning.{sheet_of}
use Rattle.worksheet.proofs.PartsHeld.{parts_length}
use Rattle.worksheet.proofs.Replacing.{without_at, settle_at}
use Rattle.worksheet.proofs.Pieces.{begins_row, the_root, the_pair, the_whole, chosen_within, few_times}
use Rattle.worksheet.proofs.parts.Worksheet.replace.Goals as goal

pub overflow_add-d : goal.overflow_add-d
overflow_add-d g c = omega (arith, (the_root c.requires.made c.requires.chosen (search (rules, c.in-Root.is))).begins.short)

pub slice_bounds-put_root-end : goal.slice_bounds-put_root-end
slice_bounds-put_root-end g c = omega (arith, (the_root c.requires.made c.requires.chosen (search (rules, c.in-Root.is))).begins.fits)

pub put_root-requires : goal.put_root-requires
put_root-requires g c =
    let chosen = c.requires.chosen in
    let it = the_root c.requires.made chosen (search (rules, c.in-Root.is)) in
    let long = ap length (begins_row it.begins) in
    record {
      sized = c.requires.made.sized;
      within = chosen_within c.requires.made chosen;
      some = omega (arith, long, it.begins.long, it.begins.some);
      short = omega (arith, long, it.begins.long, it.begins.short);
      counts = few_times c.requires.made;
      count = λ q here.
          subst (λ (x : PartMeaning). x.times * c.characteristic-p.result ≤ 127) (same_Some chosen.part q (sym chosen.here ∙ here))
          (subst (λ (n : ℕ). chosen.part.times * n ≤ 127) (sym c.characteristic-p.ensures.value) it.count);
    }

pub settle_at-requires : goal.settle_at-requires
settle_at-requires g c = record { sized = c.requires.made.sized; within = chosen_within c.requires.made c.requires.chosen }

pub overflow_add-d-in-Repeated : goal.overflow_add-d-in-Repeated
overflow_add-d-in-Repeated g c = omega (arith, (the_pair c.requires.made c.requires.chosen (λ n. search (rules, c.in-Repeated.is, n)) (λ n. search (rules, c.in-Repeated.is, n))).left_begins.short)

pub slice_bounds-put_pieces-end : goal.slice_bounds-put_pieces-end
slice_bounds-put_pieces-end g c = omega (arith, (the_pair c.requires.made c.requires.chosen (λ n. search (rules, c.in-Repeated.is, n)) (λ n. search (rules, c.in-Repeated.is, n))).left_begins.fits)

pub overflow_add-e : goal.overflow_add-e
overflow_add-e g c = omega (arith, (the_pair c.requires.made c.requires.chosen (λ n. search (rules, c.in-Repeated.is, n)) (λ n. search (rules, c.in-Repeated.is, n))).right_begins.short)

pub slice_bounds-put_pieces-end-in-Repeated : goal.slice_bounds-put_pieces-end-in-Repeated
slice_bounds-put_pieces-end-in-Repeated g c = omega (arith, (the_pair c.requires.made c.requires.chosen (λ n. search (rules, c.in-Repeated.is, n)) (λ n. search (rules, c.in-Repeated.is, n))).right_begins.fits)

pub put_pieces-requires : goal.put_pieces-requires
put_pieces-requires g c =
    let it = the_pair c.requires.made c.requires.chosen (λ n. search (rules, c.in-Repeated.is, n)) (λ n. search (rules, c.in-Repeated.is, n)) in
    let left = ap length (begins_row it.left_begins) in
    let right = ap length (begins_row it.right_begins) in
    record {
      sized = c.requires.made.sized;
      within = chosen_within c.requires.made c.requires.chosen;
      some_left = omega (arith, left, it.left_begins.long, it.left_begins.some);
      short_left = omega (arith, left, it.left_begins.long, it.left_begins.short);
      some_right = omega (arith, right, it.right_begins.long, it.right_begins.some);
      short_right = omega (arith, right, it.right_begins.long, it.right_begins.short);
      counts = few_times c.requires.made;
      room = omega (arith, it.room, c.requires.made.room, parts_length c.args.self.now.parts);
    }

pub returns-in-Root : goal.returns-in-Root
returns-in-Root g c =
    let ps = (sheet_of c.args.self.now).parts in
    let i = c.args.number in
    let chosen = c.requires.chosen in
    let p : PartMeaning = chosen.part in
    let it = the_root c.requires.made chosen (search (rules, c.in-Root.is)) in
    record {
      replaced = record {
        part = p;
        next = chosen.next;
        splitting = root it.piece;
        splits = it.splits;
        answers = it.answers;
        unit = refl;
        parts =
            c.put_root.ensures.placed p chosen.here
            ∙ ap₂ (λ (f : List ℕ) (n : ℕ). place f n (remove ps i)) (begins_row it.begins) (ap (λ (n : ℕ). p.times * n) c.characteristic-p.ensures.value)
            ∙ ap (place it.piece _) (sym (without_at ps i p chosen.here c.requires.made.good.ordered));
      };
      sized = c.put_root.ensures.sized;
      capacity = c.put_root.ensures.capacity;
      same = refl;
    }

pub returns-in-Whole : goal.returns-in-Whole
returns-in-Whole g c =
    let chosen = c.requires.chosen in
    let p : PartMeaning = chosen.part in
    let it = the_whole c.requires.made chosen (search (rules, c.in-Whole.is)) in
    record {
      replaced = record {
        part = p;
        next = chosen.next;
        splitting = whole;
        splits = it.0;
        answers = it.1;
        unit = refl;
        parts = c.settle_at.ensures.settled p chosen.here ∙ sym (settle_at (sheet_of c.args.self.now).parts c.args.number p chosen.here c.requires.made.good.ordered);
      };
      sized = c.settle_at.ensures.sized;
      capacity = c.settle_at.ensures.capacity;
      same = refl;
    }

pub returns-in-Repeated : goal.returns-in-Repeated
returns-in-Repeated g c =
    let ps = (sheet_of c.args.self.now).parts in
    let i = c.args.number in
    let chosen = c.requires.chosen in
    let p : PartMeaning = chosen.part in
    let it = the_pair c.requires.made chosen (λ n. search (rules, c.in-Repeated.is, n)) (λ n. search (rules, c.in-Repeated.is, n)) in
    record {
      replaced = record {
        part = p;
        next = chosen.next;
        splitting = it.splitting;
        splits = it.splits;
        answers = it.answers;
        unit = refl;
        parts =
            c.put_pieces.ensures.placed p chosen.here
            ∙ ap₂ (λ (f h : List ℕ). place h p.times (place f p.times (remove ps i))) (begins_row it.left_begins) (begins_row it.right_begins)
            ∙ ap (λ (qs : List PartMeaning). place it.right p.times (place it.left p.times qs)) (sym (without_at ps i p chosen.here c.requires.made.good.ordered))
            ∙ sym (it.replaces ps);
      };
      sized = c.put_pieces.ensures.sized;
      capacity = c.put_pieces.ensures.capacity;
      same = refl;
    }
