use Rattle.std.proofs.Common.{List, filter, get_or, ap, sym, ◌∙◌, arith}
use Rattle.std.specs.Option.{option_map}
use Rattle.std.proofs.lemmas.List.{get_or_default}
use Rattle.plan_model.specs.Strips.{first_of}
use Rattle.book_plan.specs.declared.slots.Slot.{Slot}
use Rattle.book_plan.specs.Desks.{state_of}
use Rattle.book_plan.specs.Offered.{is_claimable_slot}
use Rattle.book_plan.proofs.Lists.{first_pass, none_pass, first_mapped}
use Rattle.book_plan.proofs.Claimable.{finished_not}
use Rattle.book_plan.proofs.desk.PlanDesk.first_claimable.Goals as goal

pub loop-n-init : goal.loop-n-init
loop-n-init c =
    λ m d b. finished_not (state_of c.args.self.now) c.args.level (get_or c.args.slots.now m d) (c.requires.before m d b)

pub returns-then-is_claimable : goal.returns-then-is_claimable
returns-then-is_claimable c =
    let test = is_claimable_slot (state_of c.args.self.now) c.args.level in
    sym (first_mapped (λ (slot : Slot). slot.piece) (filter test c.args.slots.now) ∙ ap (option_map (λ (slot : Slot). slot.piece)) (first_pass test c.args.slots.now c.loop-n.n _ c.loop-n-test.true c.loop-n.invariant (get_or_default c.args.slots.now c.loop-n.n _ _ c.loop-n-test.true) (sym c.is_claimable.ensures ∙ c.if-is_claimable.true)))

pub returns : goal.returns
returns c =
    let test = is_claimable_slot (state_of c.args.self.now) c.args.level in
    sym (first_mapped (λ (slot : Slot). slot.piece) (filter test c.args.slots.now) ∙ ap (λ (ss : List Slot). option_map (λ (slot : Slot). slot.piece) (first_of ss)) (none_pass test c.args.slots.now (λ m d b. c.loop-n.invariant m d (omega arith))))
