use Rattle.std.proofs.Common.{rules, ◌≡◌, ◌%◌, ◌^◌, [], ap, ◌∙◌}
use Rattle.gate_rule.specs.Rule.{with_ticket}
use Rattle.gate_rule.specs.Steps.{ground_in}
use Rattle.gate_rule.proofs.TurnSteps.{draws, looks}
use Rattle.gate_rule.proofs.Calls.{drawn_live, found_turn, has_slot}
use Rattle.gate_rule.proofs.turns.enter.Goals as goal

pub fetch_add-ticket-requires : goal.fetch_add-ticket-requires
fetch_add-ticket-requires g c =
    let seat = c.args.seat.now in
    (c.requires.table.same, search rules, draws (ground_in c.args.table.now.shared.key) c.args.table.now.shared.table_id.slots seat.id seat.me c.requires.rests.live c.requires.rests.ticket)

pub load-requires : goal.load-requires
load-requires g c =
    let m = c.args.seat.now.me in
    let d = c.fetch_add-ticket.ensures.2 in
    let is : c.loop.seat.me ≡ (with_ticket m.0 d.ticket, []) = c.loop.invariant.1 ∙ d.seat ∙ ap (λ slots. (with_ticket m.0 d.ticket, slots)) c.requires.rests.slots in
    let live = drawn_live m c.loop.seat.me d.ticket c.requires.rests.live is in (
      search rules,
      search rules,
      looks (ground_in c.args.table.now.shared.key) c.args.table.now.shared.table_id.slots c.loop.seat.id c.loop.seat.me d.ticket live.0 live.1,
    )

pub exchange-requires : goal.exchange-requires
exchange-requires g c =
    let m = c.args.seat.now.me in
    let d = c.fetch_add-ticket.ensures.2 in
    let is : c.loop.seat.me ≡ (with_ticket m.0 d.ticket, []) = c.loop.invariant.1 ∙ d.seat ∙ ap (λ slots. (with_ticket m.0 d.ticket, slots)) c.requires.rests.slots in
    let hit : c.load.result ≡ d.ticket % 2 ^ 64 = c.if-load-ticket.true ∙ d.word in
    let t = found_turn m c.loop.seat.me c.load.new.seat.me d.ticket c.load.result is c.load.ensures.2 hit in
    (search rules, has_slot (with_ticket m.0 d.ticket, []) c.load.new.seat.me t)
