use Rattle.std.proofs.Common.{◌≡◌, not, map, ap, sym, ◌∙◌, arith}
use Rattle.std.proofs.lemmas.Bool.{eqb-true}
use Rattle.book_plan.specs.declared.slots.Slot.{Slot}
use Rattle.book_plan.specs.Slots.{Shelf, is_open, open_pieces}
use Rattle.book_plan.proofs.Lists.{none_pass}
use Rattle.book_plan.proofs.levels.PlanLevel.is_done.Goals as goal

pub returns : goal.returns
returns c = λ t.
    let s = c.self.inside in
    let e : s.first ≡ c.len.result = eqb-true s.first c.len.result t in
    ap (λ (shelf : Shelf). open_pieces shelf.slots) (sym c.self.view_is) ∙ ap (map (λ (slot : Slot). slot.piece)) (none_pass is_open s.slots.items (λ m d b. ap not (c.self.invariant.1.before m d (omega arith))))
