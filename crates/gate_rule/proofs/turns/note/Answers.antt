use Rattle.std.proofs.Common.{◌<◌, ◌+◌, length, refl, subst, sym, ap}
use Rattle.gate_rule.specs.Plays.{Adds}
use Rattle.gate_rule.specs.declared.journal.Desk.{Desk}
use Rattle.gate_rule.proofs.Calls.{adds_of, room_more, after_entry}
use Rattle.gate_rule.proofs.turns.note.Goals as goal

pub push-requires : goal.push-requires
push-requires c =
    let v = c.args.seat.now.me.0 in
    subst (λ l. length l < 1048576) (sym c.requires.answered.journal) (room_more v c.args.entry c.args.desk c.requires.turn.history c.requires.answered).1

pub count-requires-clause-adds : goal.count-requires-clause-adds
count-requires-clause-adds c =
    let v = c.args.seat.now.me.0 in
    let new : Desk = record { book = c.args.desk.book; journal = c.push.new.self; taken = c.args.desk.taken + c.places_of.result } in
    adds_of v c.args.entry c.args.desk new c.requires.turn.history c.requires.answered refl c.push.ensures (ap (λ n. c.args.desk.taken + n) c.places_of.ensures)

pub leave-requires-clause-turn : goal.leave-requires-clause-turn
leave-requires-clause-turn c =
    let v = c.args.seat.now.me.0 in
    let new : Desk = record { book = c.args.desk.book; journal = c.push.new.self; taken = c.args.desk.taken + c.places_of.result } in
    let adds : Adds v c.args.entry new = adds_of v c.args.entry c.args.desk new c.requires.turn.history c.requires.answered refl c.push.ensures (ap (λ n. c.args.desk.taken + n) c.places_of.ensures) in
    (after_entry c.args.seat.now.me c.count.new.seat.me c.args.entry new c.requires.turn adds c.count.ensures.counted).0.desk

pub leave-requires-clause-stands : goal.leave-requires-clause-stands
leave-requires-clause-stands c =
    let v = c.args.seat.now.me.0 in
    let new : Desk = record { book = c.args.desk.book; journal = c.push.new.self; taken = c.args.desk.taken + c.places_of.result } in
    let adds : Adds v c.args.entry new = adds_of v c.args.entry c.args.desk new c.requires.turn.history c.requires.answered refl c.push.ensures (ap (λ n. c.args.desk.taken + n) c.places_of.ensures) in
    (after_entry c.args.seat.now.me c.count.new.seat.me c.args.entry new c.requires.turn adds c.count.ensures.counted).1
