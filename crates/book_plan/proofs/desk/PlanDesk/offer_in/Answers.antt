use Rattle.std.proofs.Common.{◌≡◌, Bool, true, cond, List, [], filter, ap, sym, ◌∙◌}
use Rattle.plan_model.specs.Strips.{first_of}
use Rattle.plan_model.specs.Claims.{strip_at}
use Rattle.book_plan.specs.declared.slots.Slot.{Slot}
use Rattle.book_plan.specs.Slots.{Shelf, all_pieces, open_pieces}
use Rattle.book_plan.specs.Desks.{state_of, shelf_at}
use Rattle.book_plan.specs.Offered.{is_claimable_slot, is_strip_offered}
use Rattle.book_plan.proofs.Claimable.{none_offered, offered_are}
use Rattle.book_plan.proofs.desk.PlanDesk.offer_in.Goals as goal

pub returns-then-is_done : goal.returns-then-is_done
returns-then-is_done c =
    let none : open_pieces c.args.shelf.now.slots ≡ [] = c.is_done.ensures c.if-is_done.true in
    sym (ap first_of (none_offered c.pieces_have_different_blocks.ensures c.args.self.now c.args.level c.requires.standing.slots c.requires.level (ap (λ (s : Shelf). open_pieces s.slots) (sym c.requires.shelf) ∙ none)))

pub returns : goal.returns
returns c =
    let st = state_of c.args.self.now in
    let offered : is_strip_offered st c.args.level (strip_at st c.args.level) ≡ true = sym c.if-not-is_strip_offered.ensures in
    let slots : c.slots.result.now ≡ (shelf_at c.args.self.now c.args.level).slots = c.slots.ensures ∙ ap (λ (s : Shelf). s.slots) c.requires.shelf in
    c.first_claimable.ensures
    ∙ ap (λ (ss : List Slot). first_of (all_pieces (filter (is_claimable_slot st c.args.level) ss))) slots
    ∙ ap (λ (b : Bool). first_of (cond b (all_pieces (filter (is_claimable_slot st c.args.level) (shelf_at c.args.self.now c.args.level).slots)) [])) (sym offered)
    ∙ ap first_of (sym (offered_are c.pieces_have_different_blocks.ensures c.args.self.now c.args.level c.requires.standing.slots c.requires.level))
