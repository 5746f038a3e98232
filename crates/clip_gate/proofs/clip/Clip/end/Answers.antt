use Rattle.std.proofs.Common.{◌≡◌, ◌<◌, ◌≤◌, ◌+◌, refl, sym, ap, ◌∙◌, subst}
use Rattle.plan_model.specs.States.{pass_at, frame_of}
use Rattle.plan_model.specs.declared.events.Event.TheVariants.{End}
use Rattle.plan_model.specs.declared.events.Answer.{Answer}
use Rattle.plan_model.specs.declared.events.Entry.{Entry}
use Rattle.clip_book.specs.Books.{Does}
use Rattle.clip_book.specs.Answers.{said_of_ended}
use Rattle.clip_book.specs.Tiles.{handed_to}
use Rattle.gate_rule.specs.Steps.{IsAnswered}
use Rattle.gate_rule.specs.declared.journal.Desk.{Desk}
use Rattle.gate_rule.proofs.Calls.{in_turn_of}
use Rattle.clip_gate.specs.Passes.{PassView, pass_of, part_of}
use Rattle.clip_gate.specs.Calls.{HasMade, IsFull, places_to_end}
use Rattle.clip_gate.proofs.Promises.{answered, made, full, pass_waited, pass_made, end_asks, asked_now, end_room, end_full, few_to_end}
use Rattle.clip_gate.proofs.clip.Clip.end.Goals as goal

pub invariant_of-pass : goal.invariant_of-pass
invariant_of-pass g c =
    let table = c.pass.inside.seat.table_id in
    let m = c.pass.inside.seat.me in
    let seat = c.enter-desk.new.seat.me in
    let desk : Desk = c.enter-desk.result in
    let e = c.enter-desk.ensures.entered in
    let own : c.pass.inside.number ≡ m.0.own = c.pass.invariant.own in
    pass_waited table c.leave.new.seat.table_id m seat c.leave.new.seat.me desk c.pass.inside.number c.pass.inside.left c.pass.inside.part c.pass.invariant e c.leave.ensures.left

pub write-pass-inside-requires-clause-turn : goal.write-pass-inside-requires-clause-turn
write-pass-inside-requires-clause-turn g c =
    in_turn_of c.pass.inside.seat.me c.enter-desk.new.seat.me c.enter-desk.result c.enter-desk.ensures.entered

pub write-pass-inside-requires-clause-answered : goal.write-pass-inside-requires-clause-answered
write-pass-inside-requires-clause-answered g c =
    let table = c.pass.inside.seat.table_id in
    let m = c.pass.inside.seat.me in
    let seat = c.enter-desk.new.seat.me in
    let desk : Desk = c.enter-desk.result in
    let e = c.enter-desk.ensures.entered in
    let own : c.pass.inside.number ≡ m.0.own = c.pass.invariant.own in
    let new : Desk = record desk { book = c.end-answer.new.self } in
    let x : Entry = record { pass = c.pass.inside.number; event = End; answer = c.told_of_ended.result } in
    let does : Does x.pass x.event x.answer desk.book new.book = subst (λ (a : Answer). Does c.pass.inside.number End a desk.book new.book) (sym c.told_of_ended.ensures) c.end-answer.ensures.does in
    let room : desk.taken + places_to_end (frame_of (pass_at desk.book.plan.state c.pass.inside.number)) ≤ 1048576 = (subst (λ n. desk.taken + n ≤ 1048576) c.places_to_end-asked.ensures (end_room desk.taken c.places_to_end-asked.result (few_to_end _ c.places_to_end-asked.ensures) c.if-asked-desk.false)) in
    answered m seat desk new x (places_to_end (frame_of (pass_at desk.book.plan.state c.pass.inside.number))) e own tt does refl refl (end_asks c.pass.inside.number desk.book new.book c.told_of_ended.result does) room

pub invariant_of-pass-2 : goal.invariant_of-pass-2
invariant_of-pass-2 g c =
    let table = c.pass.inside.seat.table_id in
    let m = c.pass.inside.seat.me in
    let seat = c.enter-desk.new.seat.me in
    let desk : Desk = c.enter-desk.result in
    let e = c.enter-desk.ensures.entered in
    let own : c.pass.inside.number ≡ m.0.own = c.pass.invariant.own in
    let new : Desk = record desk { book = c.end-answer.new.self } in
    let x : Entry = record { pass = c.pass.inside.number; event = End; answer = c.told_of_ended.result } in
    let does : Does x.pass x.event x.answer desk.book new.book = subst (λ (a : Answer). Does c.pass.inside.number End a desk.book new.book) (sym c.told_of_ended.ensures) c.end-answer.ensures.does in
    let room : desk.taken + places_to_end (frame_of (pass_at desk.book.plan.state c.pass.inside.number)) ≤ 1048576 = (subst (λ n. desk.taken + n ≤ 1048576) c.places_to_end-asked.ensures (end_room desk.taken c.places_to_end-asked.result (few_to_end _ c.places_to_end-asked.ensures) c.if-asked-desk.false)) in
    let is : IsAnswered seat.0 x new = answered m seat desk new x (places_to_end (frame_of (pass_at desk.book.plan.state c.pass.inside.number))) e own tt does refl refl (end_asks c.pass.inside.number desk.book new.book c.told_of_ended.result does) room in
    pass_made table c.write-pass-inside.new.seat.table_id m seat c.write-pass-inside.new.seat.me desk new x c.pass.inside.number c.pass.inside.left c.pass.inside.part c.write-pass-inside.result c.pass.invariant e is c.write-pass-inside.ensures.noted c.write-pass-inside.ensures.part

pub returns-clause-made : goal.returns-clause-made
returns-clause-made g c =
    let table = c.pass.inside.seat.table_id in
    let m = c.pass.inside.seat.me in
    let seat = c.enter-desk.new.seat.me in
    let desk : Desk = c.enter-desk.result in
    let e = c.enter-desk.ensures.entered in
    let own : c.pass.inside.number ≡ m.0.own = c.pass.invariant.own in
    let new : Desk = record desk { book = c.end-answer.new.self } in
    let x : Entry = record { pass = c.pass.inside.number; event = End; answer = c.told_of_ended.result } in
    let room : desk.taken + places_to_end (frame_of (pass_at desk.book.plan.state c.pass.inside.number)) ≤ 1048576 = (subst (λ n. desk.taken + n ≤ 1048576) c.places_to_end-asked.ensures (end_room desk.taken c.places_to_end-asked.result (few_to_end _ c.places_to_end-asked.ensures) c.if-asked-desk.false)) in
    let after = c.write-pass-inside.new.seat in
    let known : HasMade (End) (c.told_of_ended.result) (places_to_end (frame_of (pass_at desk.book.plan.state c.pass.inside.number))) (pass_of table m.0) (pass_of after.table_id after.me.0) = made table after.table_id m seat after.me desk new x (places_to_end (frame_of (pass_at desk.book.plan.state c.pass.inside.number))) (c.write-pass-inside.ensures.table ∙ c.enter-desk.ensures.table) c.pass.invariant.rests e c.write-pass-inside.ensures.noted own room (λ note has. ap (λ out. handed_to out m.0.own) c.end-answer.ensures.handed) in
    let said : HasMade (End) (said_of_ended c.end-answer.result) (places_to_end (frame_of (pass_at desk.book.plan.state c.pass.inside.number))) (pass_of table m.0) (pass_of after.table_id after.me.0) = subst (λ (a : Answer). HasMade (End) a (places_to_end (frame_of (pass_at desk.book.plan.state c.pass.inside.number))) (pass_of table m.0) (pass_of after.table_id after.me.0)) c.told_of_ended.ensures known in
    let asks : HasMade (End) (said_of_ended c.end-answer.result) (places_to_end (frame_of (part_of c.args.pass.now))) (pass_of table m.0) (pass_of after.table_id after.me.0) = subst (λ n. HasMade (End) (said_of_ended c.end-answer.result) n (pass_of table m.0) (pass_of after.table_id after.me.0)) (asked_now table m seat desk c.pass.inside.number c.args.pass.now c.pass.invariant.rests own e c.pass.view_is) said in
    subst (λ (q : PassView). HasMade (End) (said_of_ended c.end-answer.result) (places_to_end (frame_of (part_of c.args.pass.now))) q (pass_of after.table_id after.me.0)) c.pass.view_is asks

pub returns-then-asked-desk-clause-full : goal.returns-then-asked-desk-clause-full
returns-then-asked-desk-clause-full g c =
    let table = c.pass.inside.seat.table_id in
    let m = c.pass.inside.seat.me in
    let seat = c.enter-desk.new.seat.me in
    let desk : Desk = c.enter-desk.result in
    let e = c.enter-desk.ensures.entered in
    let after = c.leave.new.seat in
    let asked = c.places_to_end-asked.result in
    let more : 1048576 < desk.taken + asked = end_full desk.taken asked (few_to_end _ c.places_to_end-asked.ensures) c.if-asked-desk.true in
    let known : IsFull asked (pass_of table m.0) (pass_of after.table_id after.me.0) = full table after.table_id m seat after.me desk asked (c.leave.ensures.table ∙ c.enter-desk.ensures.table) c.pass.invariant.rests e c.leave.ensures.left more in
    let asks : IsFull (places_to_end (frame_of (part_of c.args.pass.now))) (pass_of table m.0) (pass_of after.table_id after.me.0) = subst (λ n. IsFull n (pass_of table m.0) (pass_of after.table_id after.me.0)) (c.places_to_end-asked.ensures ∙ asked_now table m seat desk c.pass.inside.number c.args.pass.now c.pass.invariant.rests c.pass.invariant.own e c.pass.view_is) known in
    subst (λ (q : PassView). IsFull (places_to_end (frame_of (part_of c.args.pass.now))) q (pass_of after.table_id after.me.0)) c.pass.view_is asks
