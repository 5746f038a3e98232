use Rattle.std.proofs.Common.{◌≤◌, true, length, ap, arith}
use Rattle.std.proofs.lemmas.List.{get_or_default}
use Rattle.book_plan.specs.declared.slots.Slot.{Slot}
use Rattle.book_plan.proofs.Marks.{all_marked, none_marked}
use Rattle.book_plan.proofs.levels.mark.Goals as goal

pub returns-then-n-slots : goal.returns-then-n-slots
returns-then-n-slots c =
    all_marked c.args.slots.now c.args.from c.find-n.result c.args.piece _ c.requires.blocks c.find-n.ensures c.requires.before c.if-n-slots.true (λ d. ap (λ (s : Slot). let t : Slot = record { piece = s.piece; finished = true } in t) (get_or_default c.args.slots.now c.find-n.result _ d c.if-n-slots.true))

pub returns-else-n-slots : goal.returns-else-n-slots
returns-else-n-slots c =
    let past : length c.args.slots.now ≤ c.find-n.result = omega arith in
    none_marked c.args.slots.now c.args.from c.find-n.result c.args.piece c.find-n.ensures c.requires.before past
