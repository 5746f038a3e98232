use Rattle.std.proofs.Common.{◌≡◌, ◌<◌, ◌≤◌, ◌+◌, refl, sym, ap, ◌∙◌, subst, arith}
use mir.Val.{to_z, of_z}
use Rattle.std.specs.Int.{w32}
use Rattle.std.proofs.lemmas.Int.{to_z-of_z}
use mathlib.Core.Path.{ap₂}
use Rattle.plan_model.specs.Histories.{IsAllowed}
use Rattle.plan_model.specs.declared.events.Event.{Event}
use Rattle.plan_model.specs.declared.events.Event.TheVariants.{Move}
use Rattle.plan_model.specs.declared.events.Answer.TheVariants.{Moved}
use Rattle.plan_model.specs.declared.events.Entry.{Entry}
use Rattle.plan_histories.proofs.PlaceLaws.{places_are_few}
use Rattle.clip_book.specs.Books.{Does}
use Rattle.clip_book.specs.Tiles.{handed_to}
use Rattle.gate_rule.specs.Rule.{ground_of, state_in}
use Rattle.gate_rule.specs.Steps.{IsAnswered}
use Rattle.gate_rule.specs.declared.journal.Desk.{Desk}
use Rattle.gate_rule.proofs.Calls.{in_turn_of}
use Rattle.clip_gate.specs.Passes.{PassView, pass_of}
use Rattle.clip_gate.specs.Calls.{HasMade, IsFull}
use Rattle.clip_gate.proofs.Promises.{answered, made, full, pass_waited, pass_made, does_of_any, few_moves}
use Rattle.clip_gate.proofs.clip.Clip.move_to.Goals as goal

pub invariant_of-pass : goal.invariant_of-pass
invariant_of-pass g c =
    let table = c.pass.inside.seat.table_id in
    let m = c.pass.inside.seat.me in
    let seat = c.enter-desk.new.seat.me in
    let desk : Desk = c.enter-desk.result in
    let e = c.enter-desk.ensures.entered in
    let own : c.pass.inside.number ≡ m.0.own = c.pass.invariant.own in
    pass_waited table c.leave.new.seat.table_id m seat c.leave.new.seat.me desk c.pass.inside.number c.pass.inside.left c.pass.inside.part c.pass.invariant e c.leave.ensures.left

pub move_to-requires-clause-moves : goal.move_to-requires-clause-moves
move_to-requires-clause-moves g c = few_moves c.pass.inside.seat.me c.enter-desk.new.seat.me c.enter-desk.result c.enter-desk.ensures.entered

pub write-pass-inside-requires-clause-turn : goal.write-pass-inside-requires-clause-turn
write-pass-inside-requires-clause-turn g c =
    in_turn_of c.pass.inside.seat.me c.enter-desk.new.seat.me c.enter-desk.result c.enter-desk.ensures.entered

pub write-pass-inside-requires-clause-answered : goal.write-pass-inside-requires-clause-answered
write-pass-inside-requires-clause-answered g c =
    let table = c.pass.inside.seat.table_id in
    let m = c.pass.inside.seat.me in
    let seat = c.enter-desk.new.seat.me in
    let desk : Desk = c.enter-desk.result in
    let e = c.enter-desk.ensures.entered in
    let own : c.pass.inside.number ≡ m.0.own = c.pass.invariant.own in
    let same : Move (to_z w32 (of_z w32 c.args.x)) (to_z w32 (of_z w32 c.args.y)) c.args.a ≡ Move c.args.x c.args.y c.args.a = ap₂ (λ a b. Move a b c.args.a) (to_z-of_z w32 c.args.x c.ranges.x) (to_z-of_z w32 c.args.y c.ranges.y) in
    let new : Desk = record desk { book = c.move_to.new.self } in
    let x : Entry = record { pass = c.pass.inside.number; event = Move (to_z w32 (of_z w32 c.args.x)) (to_z w32 (of_z w32 c.args.y)) c.args.a; answer = Moved } in
    let does : Does x.pass x.event x.answer desk.book new.book = does_of_any c.pass.inside.number (Move (to_z w32 (of_z w32 c.args.x)) (to_z w32 (of_z w32 c.args.y)) c.args.a) Moved desk.book new.book (λ st. refl) c.move_to.ensures.does c.move_to.ensures.handed in
    let room : desk.taken + 1 ≤ 1048576 = (let h = c.if-desk.false in omega arith) in
    answered m seat desk new x (1) e own (subst (λ (ev : Event). IsAllowed (state_in (ground_of m.0) e.log) c.pass.inside.number ev) (sym same) c.requires.viewer) does refl refl (places_are_few (Move (to_z w32 (of_z w32 c.args.x)) (to_z w32 (of_z w32 c.args.y)) c.args.a) Moved) room

pub invariant_of-pass-2 : goal.invariant_of-pass-2
invariant_of-pass-2 g c =
    let table = c.pass.inside.seat.table_id in
    let m = c.pass.inside.seat.me in
    let seat = c.enter-desk.new.seat.me in
    let desk : Desk = c.enter-desk.result in
    let e = c.enter-desk.ensures.entered in
    let own : c.pass.inside.number ≡ m.0.own = c.pass.invariant.own in
    let same : Move (to_z w32 (of_z w32 c.args.x)) (to_z w32 (of_z w32 c.args.y)) c.args.a ≡ Move c.args.x c.args.y c.args.a = ap₂ (λ a b. Move a b c.args.a) (to_z-of_z w32 c.args.x c.ranges.x) (to_z-of_z w32 c.args.y c.ranges.y) in
    let new : Desk = record desk { book = c.move_to.new.self } in
    let x : Entry = record { pass = c.pass.inside.number; event = Move (to_z w32 (of_z w32 c.args.x)) (to_z w32 (of_z w32 c.args.y)) c.args.a; answer = Moved } in
    let does : Does x.pass x.event x.answer desk.book new.book = does_of_any c.pass.inside.number (Move (to_z w32 (of_z w32 c.args.x)) (to_z w32 (of_z w32 c.args.y)) c.args.a) Moved desk.book new.book (λ st. refl) c.move_to.ensures.does c.move_to.ensures.handed in
    let room : desk.taken + 1 ≤ 1048576 = (let h = c.if-desk.false in omega arith) in
    let is : IsAnswered seat.0 x new = answered m seat desk new x (1) e own (subst (λ (ev : Event). IsAllowed (state_in (ground_of m.0) e.log) c.pass.inside.number ev) (sym same) c.requires.viewer) does refl refl (places_are_few (Move (to_z w32 (of_z w32 c.args.x)) (to_z w32 (of_z w32 c.args.y)) c.args.a) Moved) room in
    pass_made table c.write-pass-inside.new.seat.table_id m seat c.write-pass-inside.new.seat.me desk new x c.pass.inside.number c.pass.inside.left c.pass.inside.part c.write-pass-inside.result c.pass.invariant e is c.write-pass-inside.ensures.noted c.write-pass-inside.ensures.part

pub returns-clause-made : goal.returns-clause-made
returns-clause-made g c =
    let table = c.pass.inside.seat.table_id in
    let m = c.pass.inside.seat.me in
    let seat = c.enter-desk.new.seat.me in
    let desk : Desk = c.enter-desk.result in
    let e = c.enter-desk.ensures.entered in
    let own : c.pass.inside.number ≡ m.0.own = c.pass.invariant.own in
    let same : Move (to_z w32 (of_z w32 c.args.x)) (to_z w32 (of_z w32 c.args.y)) c.args.a ≡ Move c.args.x c.args.y c.args.a = ap₂ (λ a b. Move a b c.args.a) (to_z-of_z w32 c.args.x c.ranges.x) (to_z-of_z w32 c.args.y c.ranges.y) in
    let new : Desk = record desk { book = c.move_to.new.self } in
    let x : Entry = record { pass = c.pass.inside.number; event = Move (to_z w32 (of_z w32 c.args.x)) (to_z w32 (of_z w32 c.args.y)) c.args.a; answer = Moved } in
    let room : desk.taken + 1 ≤ 1048576 = (let h = c.if-desk.false in omega arith) in
    let after = c.write-pass-inside.new.seat in
    let known : HasMade (Move (to_z w32 (of_z w32 c.args.x)) (to_z w32 (of_z w32 c.args.y)) c.args.a) (Moved) (1) (pass_of table m.0) (pass_of after.table_id after.me.0) = made table after.table_id m seat after.me desk new x (1) (c.write-pass-inside.ensures.table ∙ c.enter-desk.ensures.table) c.pass.invariant.rests e c.write-pass-inside.ensures.noted own room (λ note has. ap (λ out. handed_to out m.0.own) c.move_to.ensures.handed) in
    let plain : HasMade (Move c.args.x c.args.y c.args.a) Moved 1 (pass_of table m.0) (pass_of after.table_id after.me.0) = subst (λ (ev : Event). HasMade ev Moved 1 (pass_of table m.0) (pass_of after.table_id after.me.0)) same known in
    subst (λ (q : PassView). HasMade (Move c.args.x c.args.y c.args.a) Moved 1 q (pass_of after.table_id after.me.0)) c.pass.view_is plain

pub returns-then-desk-clause-full : goal.returns-then-desk-clause-full
returns-then-desk-clause-full g c =
    let table = c.pass.inside.seat.table_id in
    let desk : Desk = c.enter-desk.result in
    let after = c.leave.new.seat in
    let more : 1048576 < desk.taken + 1 = (let h = c.if-desk.true in omega arith) in
    subst (λ (q : PassView). IsFull 1 q (pass_of after.table_id after.me.0)) c.pass.view_is
    (full table after.table_id c.pass.inside.seat.me c.enter-desk.new.seat.me after.me desk 1 (c.leave.ensures.table ∙ c.enter-desk.ensures.table) c.pass.invariant.rests c.enter-desk.ensures.entered c.leave.ensures.left more)
