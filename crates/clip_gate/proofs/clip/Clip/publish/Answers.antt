use Rattle.std.proofs.Common.{◌≡◌, ◌<◌, ◌≤◌, ◌+◌, refl, sym, ap, ◌∙◌, subst, arith, length}
use Rattle.plan_model.specs.States.{State}
use Rattle.plan_model.specs.declared.events.Event.TheVariants.{Publish}
use Rattle.plan_model.specs.declared.events.Answer.{Answer}
use Rattle.plan_model.specs.declared.events.Entry.{Entry}
use Rattle.plan_histories.proofs.PlaceLaws.{places_are_few}
use Rattle.clip_book.specs.Books.{Does}
use Rattle.clip_book.specs.Answers.{said_of_published}
use Rattle.clip_book.specs.Tiles.{handed_to}
use Rattle.gate_rule.specs.Steps.{IsAnswered}
use Rattle.gate_rule.specs.declared.journal.Desk.{Desk}
use Rattle.gate_rule.proofs.Calls.{in_turn_of}
use Rattle.clip_gate.specs.Passes.{ClipView, PassView, pass_of}
use Rattle.clip_gate.specs.Calls.{HasMade, IsFull}
use Rattle.clip_gate.proofs.Promises.{answered, made, full, pass_waited, pass_made, does_of_any, level_there}
use Rattle.clip_gate.proofs.clip.Clip.publish.Goals as goal

pub invariant_of-pass : goal.invariant_of-pass
invariant_of-pass g c =
    let table = c.pass.inside.seat.table_id in
    let m = c.pass.inside.seat.me in
    let seat = c.enter-desk.new.seat.me in
    let desk : Desk = c.enter-desk.result in
    let e = c.enter-desk.ensures.entered in
    let own : c.pass.inside.number ≡ m.0.own = c.pass.invariant.own in
    pass_waited table c.leave.new.seat.table_id m seat c.leave.new.seat.me desk c.pass.inside.number c.pass.inside.left c.pass.inside.part c.pass.invariant e c.leave.ensures.left

pub publish-answer-requires : goal.publish-answer-requires
publish-answer-requires g c =
    let table = c.pass.inside.seat.table_id in
    let m = c.pass.inside.seat.me in
    let seat = c.enter-desk.new.seat.me in
    let desk : Desk = c.enter-desk.result in
    let e = c.enter-desk.ensures.entered in
    let own : c.pass.inside.number ≡ m.0.own = c.pass.invariant.own in
    level_there c.histories_go_on.ensures m seat desk c.args.level e (subst (λ (q : PassView). c.args.level < q.clip.land.levels) (sym c.pass.view_is) (subst (λ (v : ClipView). c.args.level < v.land.levels) (sym c.requires.clip) c.requires.level))

pub write-pass-inside-requires-clause-turn : goal.write-pass-inside-requires-clause-turn
write-pass-inside-requires-clause-turn g c =
    in_turn_of c.pass.inside.seat.me c.enter-desk.new.seat.me c.enter-desk.result c.enter-desk.ensures.entered

pub write-pass-inside-requires-clause-answered : goal.write-pass-inside-requires-clause-answered
write-pass-inside-requires-clause-answered g c =
    let table = c.pass.inside.seat.table_id in
    let m = c.pass.inside.seat.me in
    let seat = c.enter-desk.new.seat.me in
    let desk : Desk = c.enter-desk.result in
    let e = c.enter-desk.ensures.entered in
    let own : c.pass.inside.number ≡ m.0.own = c.pass.invariant.own in
    let new : Desk = record desk { book = c.publish-answer.new.self } in
    let x : Entry = record { pass = c.pass.inside.number; event = Publish c.args.level; answer = c.told_of_published.result } in
    let does : Does x.pass x.event x.answer desk.book new.book = does_of_any c.pass.inside.number (Publish c.args.level) c.told_of_published.result desk.book new.book (λ st. refl) (subst (λ (a : Answer). Does 0 (Publish c.args.level) a desk.book new.book) (sym c.told_of_published.ensures) c.publish-answer.ensures.does) c.publish-answer.ensures.handed in
    let room : desk.taken + 1 ≤ 1048576 = (let h = c.if-desk.false in omega arith) in
    answered m seat desk new x (1) e own (subst (λ n. c.args.level < n) (ap (λ (st : State). length st.levels) e.stands.state) (level_there c.histories_go_on.ensures m seat desk c.args.level e (subst (λ (q : PassView). c.args.level < q.clip.land.levels) (sym c.pass.view_is) (subst (λ (v : ClipView). c.args.level < v.land.levels) (sym c.requires.clip) c.requires.level)))) does refl refl (places_are_few (Publish c.args.level) c.told_of_published.result) room

pub invariant_of-pass-2 : goal.invariant_of-pass-2
invariant_of-pass-2 g c =
    let table = c.pass.inside.seat.table_id in
    let m = c.pass.inside.seat.me in
    let seat = c.enter-desk.new.seat.me in
    let desk : Desk = c.enter-desk.result in
    let e = c.enter-desk.ensures.entered in
    let own : c.pass.inside.number ≡ m.0.own = c.pass.invariant.own in
    let new : Desk = record desk { book = c.publish-answer.new.self } in
    let x : Entry = record { pass = c.pass.inside.number; event = Publish c.args.level; answer = c.told_of_published.result } in
    let does : Does x.pass x.event x.answer desk.book new.book = does_of_any c.pass.inside.number (Publish c.args.level) c.told_of_published.result desk.book new.book (λ st. refl) (subst (λ (a : Answer). Does 0 (Publish c.args.level) a desk.book new.book) (sym c.told_of_published.ensures) c.publish-answer.ensures.does) c.publish-answer.ensures.handed in
    let room : desk.taken + 1 ≤ 1048576 = (let h = c.if-desk.false in omega arith) in
    let is : IsAnswered seat.0 x new = answered m seat desk new x (1) e own (subst (λ n. c.args.level < n) (ap (λ (st : State). length st.levels) e.stands.state) (level_there c.histories_go_on.ensures m seat desk c.args.level e (subst (λ (q : PassView). c.args.level < q.clip.land.levels) (sym c.pass.view_is) (subst (λ (v : ClipView). c.args.level < v.land.levels) (sym c.requires.clip) c.requires.level)))) does refl refl (places_are_few (Publish c.args.level) c.told_of_published.result) room in
    pass_made table c.write-pass-inside.new.seat.table_id m seat c.write-pass-inside.new.seat.me desk new x c.pass.inside.number c.pass.inside.left c.pass.inside.part c.write-pass-inside.result c.pass.invariant e is c.write-pass-inside.ensures.noted c.write-pass-inside.ensures.part

pub returns-clause-made : goal.returns-clause-made
returns-clause-made g c =
    let table = c.pass.inside.seat.table_id in
    let m = c.pass.inside.seat.me in
    let seat = c.enter-desk.new.seat.me in
    let desk : Desk = c.enter-desk.result in
    let e = c.enter-desk.ensures.entered in
    let own : c.pass.inside.number ≡ m.0.own = c.pass.invariant.own in
    let new : Desk = record desk { book = c.publish-answer.new.self } in
    let x : Entry = record { pass = c.pass.inside.number; event = Publish c.args.level; answer = c.told_of_published.result } in
    let room : desk.taken + 1 ≤ 1048576 = (let h = c.if-desk.false in omega arith) in
    let after = c.write-pass-inside.new.seat in
    let known : HasMade (Publish c.args.level) (c.told_of_published.result) (1) (pass_of table m.0) (pass_of after.table_id after.me.0) = made table after.table_id m seat after.me desk new x (1) (c.write-pass-inside.ensures.table ∙ c.enter-desk.ensures.table) c.pass.invariant.rests e c.write-pass-inside.ensures.noted own room (λ note has. ap (λ out. handed_to out m.0.own) c.publish-answer.ensures.handed) in
    let said : HasMade (Publish c.args.level) (said_of_published c.publish-answer.result) (1) (pass_of table m.0) (pass_of after.table_id after.me.0) = subst (λ (a : Answer). HasMade (Publish c.args.level) a (1) (pass_of table m.0) (pass_of after.table_id after.me.0)) c.told_of_published.ensures known in
    subst (λ (q : PassView). HasMade (Publish c.args.level) (said_of_published c.publish-answer.result) (1) q (pass_of after.table_id after.me.0)) c.pass.view_is said

pub returns-then-desk-clause-full : goal.returns-then-desk-clause-full
returns-then-desk-clause-full g c =
    let table = c.pass.inside.seat.table_id in
    let desk : Desk = c.enter-desk.result in
    let after = c.leave.new.seat in
    let more : 1048576 < desk.taken + 1 = (let h = c.if-desk.true in omega arith) in
    subst (λ (q : PassView). IsFull 1 q (pass_of after.table_id after.me.0)) c.pass.view_is
    (full table after.table_id c.pass.inside.seat.me c.enter-desk.new.seat.me after.me desk 1 (c.leave.ensures.table ∙ c.enter-desk.ensures.table) c.pass.invariant.rests c.enter-desk.ensures.entered c.leave.ensures.left more)
