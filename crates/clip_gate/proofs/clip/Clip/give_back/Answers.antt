use Rattle.std.proofs.Common.{◌≡◌, ◌≤◌, ◌+◌, refl, sym, ap, ◌∙◌, subst, arith}
use Rattle.plan_model.specs.declared.events.Event.TheVariants.{Finish}
use Rattle.plan_model.specs.declared.events.Answer.{Answer}
use Rattle.plan_model.specs.declared.events.Entry.{Entry}
use Rattle.plan_histories.proofs.PlaceLaws.{places_are_few}
use Rattle.clip_book.specs.Books.{Does}
use Rattle.clip_book.specs.Answers.{said_of_given}
use Rattle.clip_book.specs.Tiles.{handed_to}
use Rattle.gate_rule.specs.Steps.{IsAnswered}
use Rattle.gate_rule.specs.declared.journal.Desk.{Desk}
use Rattle.gate_rule.proofs.Calls.{in_turn_of}
use Rattle.clip_gate.specs.Passes.{PassView, pass_of}
use Rattle.clip_gate.specs.Calls.{HasMade}
use Rattle.clip_gate.proofs.Promises.{answered, made, pass_made, filled_of, may_finish}
use Rattle.clip_gate.proofs.clip.Clip.give_back.Goals as goal

pub give_back-answer-requires-clause-job : goal.give_back-answer-requires-clause-job
give_back-answer-requires-clause-job g c =
    let table = c.pass.inside.seat.table_id in
    let m = c.pass.inside.seat.me in
    let seat = c.enter-desk.new.seat.me in
    let desk : Desk = c.enter-desk.result in
    let e = c.enter-desk.ensures.entered in
    let own : c.pass.inside.number ≡ m.0.own = c.pass.invariant.own in
    filled_of table m seat desk c.pass.inside.number c.args.pass.now c.args.job c.pass.invariant.rests own e c.pass.view_is c.requires.job

pub write-pass-inside-requires-clause-turn : goal.write-pass-inside-requires-clause-turn
write-pass-inside-requires-clause-turn g c =
    in_turn_of c.pass.inside.seat.me c.enter-desk.new.seat.me c.enter-desk.result c.enter-desk.ensures.entered

pub write-pass-inside-requires-clause-answered : goal.write-pass-inside-requires-clause-answered
write-pass-inside-requires-clause-answered g c =
    let table = c.pass.inside.seat.table_id in
    let m = c.pass.inside.seat.me in
    let seat = c.enter-desk.new.seat.me in
    let desk : Desk = c.enter-desk.result in
    let e = c.enter-desk.ensures.entered in
    let own : c.pass.inside.number ≡ m.0.own = c.pass.invariant.own in
    let new : Desk = record desk { book = c.give_back-answer.new.self } in
    let x : Entry = record { pass = c.pass.inside.number; event = Finish; answer = c.told_of_given.result } in
    let does : Does x.pass x.event x.answer desk.book new.book = subst (λ (a : Answer). Does c.pass.inside.number Finish a desk.book new.book) (sym c.told_of_given.ensures) c.give_back-answer.ensures.does in
    let room : desk.taken + 0 ≤ 1048576 = (let h = e.history.short in let a = e.stands.taken in omega arith) in
    answered m seat desk new x (0) e own (may_finish table m seat desk c.pass.inside.number c.args.pass.now c.args.job c.pass.invariant.rests own e c.pass.view_is c.requires.job) does refl refl (places_are_few Finish c.told_of_given.result) room

pub invariant_of-pass : goal.invariant_of-pass
invariant_of-pass g c =
    let table = c.pass.inside.seat.table_id in
    let m = c.pass.inside.seat.me in
    let seat = c.enter-desk.new.seat.me in
    let desk : Desk = c.enter-desk.result in
    let e = c.enter-desk.ensures.entered in
    let own : c.pass.inside.number ≡ m.0.own = c.pass.invariant.own in
    let new : Desk = record desk { book = c.give_back-answer.new.self } in
    let x : Entry = record { pass = c.pass.inside.number; event = Finish; answer = c.told_of_given.result } in
    let does : Does x.pass x.event x.answer desk.book new.book = subst (λ (a : Answer). Does c.pass.inside.number Finish a desk.book new.book) (sym c.told_of_given.ensures) c.give_back-answer.ensures.does in
    let room : desk.taken + 0 ≤ 1048576 = (let h = e.history.short in let a = e.stands.taken in omega arith) in
    let is : IsAnswered seat.0 x new = answered m seat desk new x (0) e own (may_finish table m seat desk c.pass.inside.number c.args.pass.now c.args.job c.pass.invariant.rests own e c.pass.view_is c.requires.job) does refl refl (places_are_few Finish c.told_of_given.result) room in
    pass_made table c.write-pass-inside.new.seat.table_id m seat c.write-pass-inside.new.seat.me desk new x c.pass.inside.number c.pass.inside.left c.pass.inside.part c.write-pass-inside.result c.pass.invariant e is c.write-pass-inside.ensures.noted c.write-pass-inside.ensures.part

pub returns : goal.returns
returns g c =
    let table = c.pass.inside.seat.table_id in
    let m = c.pass.inside.seat.me in
    let seat = c.enter-desk.new.seat.me in
    let desk : Desk = c.enter-desk.result in
    let e = c.enter-desk.ensures.entered in
    let own : c.pass.inside.number ≡ m.0.own = c.pass.invariant.own in
    let new : Desk = record desk { book = c.give_back-answer.new.self } in
    let x : Entry = record { pass = c.pass.inside.number; event = Finish; answer = c.told_of_given.result } in
    let room : desk.taken + 0 ≤ 1048576 = (let h = e.history.short in let a = e.stands.taken in omega arith) in
    let after = c.write-pass-inside.new.seat in
    let known : HasMade (Finish) (c.told_of_given.result) (0) (pass_of table m.0) (pass_of after.table_id after.me.0) = made table after.table_id m seat after.me desk new x (0) (c.write-pass-inside.ensures.table ∙ c.enter-desk.ensures.table) c.pass.invariant.rests e c.write-pass-inside.ensures.noted own room (λ note has. ap (λ out. handed_to out m.0.own) c.give_back-answer.ensures.handed) in
    let said : HasMade (Finish) (said_of_given c.give_back-answer.result) (0) (pass_of table m.0) (pass_of after.table_id after.me.0) = subst (λ (a : Answer). HasMade (Finish) a (0) (pass_of table m.0) (pass_of after.table_id after.me.0)) c.told_of_given.ensures known in
    subst (λ (q : PassView). HasMade (Finish) (said_of_given c.give_back-answer.result) (0) q (pass_of after.table_id after.me.0)) c.pass.view_is said
