use Rattle.std.proofs.Common.{Option, refl, subst, sym, ◌∙◌}
use Rattle.std.specs.Option.{IsSome}
use Rattle.std.specs.Slots.{slots_items}
use Rattle.gate_rule.specs.Plays.{Ends}
use Rattle.gate_rule.specs.Steps.{ground_in}
use Rattle.gate_rule.specs.declared.journal.Desk.{Desk}
use Rattle.gate_rule.proofs.Seats.{ends, never_out}
use Rattle.gate_rule.proofs.Calls.{read_or, ends_slot, ends_with, ends_whole}
use Rattle.gate_rule.proofs.turns.close.Goals as goal

pub returns-then-ticket-serving-clause-never : goal.returns-then-ticket-serving-clause-never
returns-then-ticket-serving-clause-never c all =
    let ws = slots_items c.close_with-closed.result.words in
    let same = never_out (ground_in c.args.table.shared.key) c.args.seat.id c.args.seat.me.0 ws _ c.requires.rests.ticket all c.close_with-closed.ensures.values.2 in
    c.if-ticket-serving.true (sym (read_or ws 0 c.word-ticket.result 0 c.word-ticket.ensures) ∙ same ∙ read_or ws 1 c.word-serving.result 0 c.word-serving.ensures)

pub unwrap-requires : goal.unwrap-requires
unwrap-requires c =
    let ws = slots_items c.close_with-closed.result.words in
    let xs = slots_items c.close_with-closed.result.slots in
    let e : Ends c.args.seat.me.0 xs = ends (ground_in c.args.table.shared.key) c.args.seat.id c.args.seat.me.0 ws xs c.requires.rests.live (read_or ws 0 c.word-ticket.result 0 c.word-ticket.ensures ∙ c.if-ticket-serving.false ∙ sym (read_or ws 1 c.word-serving.result 0 c.word-serving.ensures)) c.close_with-closed.ensures.values.2 in
    subst (λ (o : Option Desk). IsSome o) (sym (ends_slot c.args.seat.me.0 xs c.take-slot.result e c.take-slot.ensures.value)) refl

pub returns-clause-ends : goal.returns-clause-ends
returns-clause-ends c =
    let ws = slots_items c.close_with-closed.result.words in
    let xs = slots_items c.close_with-closed.result.slots in
    let e : Ends c.args.seat.me.0 xs = ends (ground_in c.args.table.shared.key) c.args.seat.id c.args.seat.me.0 ws xs c.requires.rests.live (read_or ws 0 c.word-ticket.result 0 c.word-ticket.ensures ∙ c.if-ticket-serving.false ∙ sym (read_or ws 1 c.word-serving.result 0 c.word-serving.ensures)) c.close_with-closed.ensures.values.2 in
    ends_with c.args.seat.me.0 xs c.take-slot.result c.unwrap.result e c.take-slot.ensures.value c.unwrap.ensures

pub returns-clause-whole : goal.returns-clause-whole
returns-clause-whole c all =
    let ws = slots_items c.close_with-closed.result.words in
    let xs = slots_items c.close_with-closed.result.slots in
    let e : Ends c.args.seat.me.0 xs = ends (ground_in c.args.table.shared.key) c.args.seat.id c.args.seat.me.0 ws xs c.requires.rests.live (read_or ws 0 c.word-ticket.result 0 c.word-ticket.ensures ∙ c.if-ticket-serving.false ∙ sym (read_or ws 1 c.word-serving.result 0 c.word-serving.ensures)) c.close_with-closed.ensures.values.2 in
    ends_whole c.args.seat.me.0 c.unwrap.result (ends_with c.args.seat.me.0 xs c.take-slot.result c.unwrap.result e c.take-slot.ensures.value c.unwrap.ensures) all
