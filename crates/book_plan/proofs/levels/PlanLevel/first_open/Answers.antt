use Rattle.std.proofs.Common.{◌<◌, not, List, filter, length, ap, sym, ◌∙◌, arith}
use Rattle.std.specs.Option.{option_map}
use Rattle.plan_model.specs.Strips.{first_of}
use Rattle.book_plan.specs.declared.slots.Slot.{Slot}
use Rattle.book_plan.specs.Slots.{Shelf, is_open, open_pieces}
use Rattle.book_plan.proofs.Lists.{first_pass, none_pass, first_mapped}
use Rattle.book_plan.proofs.levels.PlanLevel.first_open.Goals as goal

pub returns-then-self-len : goal.returns-then-self-len
returns-then-self-len c =
    let s = c.self.inside in
    let there : s.first < length s.slots.items = omega arith in
    sym (ap (λ (shelf : Shelf). first_of (open_pieces shelf.slots)) (sym c.self.view_is) ∙ first_mapped (λ (slot : Slot). slot.piece) (filter is_open s.slots.items) ∙ ap (option_map (λ (slot : Slot). slot.piece)) (first_pass is_open s.slots.items s.first c.index.result.now there (λ m d b. ap not (c.self.invariant.1.before m d b)) c.index.ensures (ap (λ (slot : Slot). not slot.finished) c.index.ensures ∙ ap not (c.self.invariant.1.this c.index.result.now there))))

pub returns : goal.returns
returns c =
    let s = c.self.inside in
    sym (ap (λ (shelf : Shelf). first_of (open_pieces shelf.slots)) (sym c.self.view_is) ∙ first_mapped (λ (slot : Slot). slot.piece) (filter is_open s.slots.items) ∙ ap (λ (xs : List Slot). option_map (λ (slot : Slot). slot.piece) (first_of xs)) (none_pass is_open s.slots.items (λ m d b. ap not (c.self.invariant.1.before m d (omega arith)))))
