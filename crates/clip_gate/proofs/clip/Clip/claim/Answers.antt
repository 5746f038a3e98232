use Rattle.std.proofs.Common.{◌≡◌, ◌<◌, ◌≤◌, ◌+◌, refl, sym, ap, ◌∙◌, subst, arith}
use Rattle.plan_model.specs.States.{State, pass_at, job_of}
use Rattle.plan_model.specs.declared.events.Event.TheVariants.{Claim}
use Rattle.plan_model.specs.declared.events.Answer.{Answer}
use Rattle.plan_model.specs.declared.events.Entry.{Entry}
use Rattle.plan_histories.proofs.PlaceLaws.{places_are_few}
use Rattle.clip_book.specs.Books.{Does}
use Rattle.clip_book.specs.Answers.{said_of_claim}
use Rattle.clip_book.specs.Tiles.{handed_to}
use Rattle.gate_rule.specs.Rule.{ground_of, state_in}
use Rattle.gate_rule.specs.Steps.{IsAnswered}
use Rattle.gate_rule.specs.declared.journal.Desk.{Desk}
use Rattle.gate_rule.proofs.Calls.{in_turn_of}
use Rattle.clip_gate.specs.Passes.{PassView, pass_of}
use Rattle.clip_gate.specs.Calls.{HasMade, IsFull}
use Rattle.clip_gate.proofs.Promises.{answered, made, full, pass_waited, pass_made, claim_keeps, gives_job}
use Rattle.clip_gate.proofs.clip.Clip.claim.Goals as goal

pub invariant_of-pass : goal.invariant_of-pass
invariant_of-pass g c =
    let table = c.pass.inside.seat.table_id in
    let m = c.pass.inside.seat.me in
    let seat = c.enter-desk.new.seat.me in
    let desk : Desk = c.enter-desk.result in
    let e = c.enter-desk.ensures.entered in
    let own : c.pass.inside.number ≡ m.0.own = c.pass.invariant.own in
    pass_waited table c.leave.new.seat.table_id m seat c.leave.new.seat.me desk c.pass.inside.number c.pass.inside.left c.pass.inside.part c.pass.invariant e c.leave.ensures.left

pub write-pass-inside-requires-clause-turn : goal.write-pass-inside-requires-clause-turn
write-pass-inside-requires-clause-turn g c =
    in_turn_of c.pass.inside.seat.me c.enter-desk.new.seat.me c.enter-desk.result c.enter-desk.ensures.entered

pub write-pass-inside-requires-clause-answered : goal.write-pass-inside-requires-clause-answered
write-pass-inside-requires-clause-answered g c =
    let table = c.pass.inside.seat.table_id in
    let m = c.pass.inside.seat.me in
    let seat = c.enter-desk.new.seat.me in
    let desk : Desk = c.enter-desk.result in
    let e = c.enter-desk.ensures.entered in
    let own : c.pass.inside.number ≡ m.0.own = c.pass.invariant.own in
    let new : Desk = record desk { book = c.claim-answer.new.self } in
    let x : Entry = record { pass = c.pass.inside.number; event = Claim; answer = c.told_of_claim.result } in
    let does : Does x.pass x.event x.answer desk.book new.book = subst (λ (a : Answer). Does c.pass.inside.number Claim a desk.book new.book) (sym c.told_of_claim.ensures) c.claim-answer.ensures.does in
    let room : desk.taken + 2 ≤ 1048576 = (let h = c.if-desk.false in omega arith) in
    answered m seat desk new x (2) e own tt does refl refl (places_are_few Claim c.told_of_claim.result) room

pub invariant_of-pass-2 : goal.invariant_of-pass-2
invariant_of-pass-2 g c =
    let table = c.pass.inside.seat.table_id in
    let m = c.pass.inside.seat.me in
    let seat = c.enter-desk.new.seat.me in
    let desk : Desk = c.enter-desk.result in
    let e = c.enter-desk.ensures.entered in
    let own : c.pass.inside.number ≡ m.0.own = c.pass.invariant.own in
    let new : Desk = record desk { book = c.claim-answer.new.self } in
    let x : Entry = record { pass = c.pass.inside.number; event = Claim; answer = c.told_of_claim.result } in
    let does : Does x.pass x.event x.answer desk.book new.book = subst (λ (a : Answer). Does c.pass.inside.number Claim a desk.book new.book) (sym c.told_of_claim.ensures) c.claim-answer.ensures.does in
    let room : desk.taken + 2 ≤ 1048576 = (let h = c.if-desk.false in omega arith) in
    let is : IsAnswered seat.0 x new = answered m seat desk new x (2) e own tt does refl refl (places_are_few Claim c.told_of_claim.result) room in
    pass_made table c.write-pass-inside.new.seat.table_id m seat c.write-pass-inside.new.seat.me desk new x c.pass.inside.number c.pass.inside.left c.pass.inside.part c.write-pass-inside.result c.pass.invariant e is c.write-pass-inside.ensures.noted c.write-pass-inside.ensures.part

pub returns-clause-made : goal.returns-clause-made
returns-clause-made g c =
    let table = c.pass.inside.seat.table_id in
    let m = c.pass.inside.seat.me in
    let seat = c.enter-desk.new.seat.me in
    let desk : Desk = c.enter-desk.result in
    let e = c.enter-desk.ensures.entered in
    let own : c.pass.inside.number ≡ m.0.own = c.pass.invariant.own in
    let new : Desk = record desk { book = c.claim-answer.new.self } in
    let x : Entry = record { pass = c.pass.inside.number; event = Claim; answer = c.told_of_claim.result } in
    let room : desk.taken + 2 ≤ 1048576 = (let h = c.if-desk.false in omega arith) in
    let after = c.write-pass-inside.new.seat in
    let known : HasMade (Claim) (c.told_of_claim.result) (2) (pass_of table m.0) (pass_of after.table_id after.me.0) = made table after.table_id m seat after.me desk new x (2) (c.write-pass-inside.ensures.table ∙ c.enter-desk.ensures.table) c.pass.invariant.rests e c.write-pass-inside.ensures.noted own room (λ note has. subst (λ n. handed_to new.book.handed n ≡ handed_to desk.book.handed n) own (claim_keeps c.pass.inside.number desk.book new.book c.claim-answer.result note c.claim-answer.ensures.does c.claim-answer.ensures.handed (ap (λ (st : State). job_of (pass_at st c.pass.inside.number)) e.stands.state ∙ ap (λ n. job_of (pass_at (state_in (ground_of m.0) e.log) n)) own ∙ has))) in
    let said : HasMade (Claim) (said_of_claim c.claim-answer.result) (2) (pass_of table m.0) (pass_of after.table_id after.me.0) = subst (λ (a : Answer). HasMade (Claim) a (2) (pass_of table m.0) (pass_of after.table_id after.me.0)) c.told_of_claim.ensures known in
    subst (λ (q : PassView). HasMade (Claim) (said_of_claim c.claim-answer.result) (2) q (pass_of after.table_id after.me.0)) c.pass.view_is said

pub returns-clause-job : goal.returns-clause-job
returns-clause-job g c =
    let table = c.pass.inside.seat.table_id in
    let m = c.pass.inside.seat.me in
    let seat = c.enter-desk.new.seat.me in
    let desk : Desk = c.enter-desk.result in
    let e = c.enter-desk.ensures.entered in
    let own : c.pass.inside.number ≡ m.0.own = c.pass.invariant.own in
    let new : Desk = record desk { book = c.claim-answer.new.self } in
    let x : Entry = record { pass = c.pass.inside.number; event = Claim; answer = c.told_of_claim.result } in
    let does : Does x.pass x.event x.answer desk.book new.book = subst (λ (a : Answer). Does c.pass.inside.number Claim a desk.book new.book) (sym c.told_of_claim.ensures) c.claim-answer.ensures.does in
    let room : desk.taken + 2 ≤ 1048576 = (let h = c.if-desk.false in omega arith) in
    let is : IsAnswered seat.0 x new = answered m seat desk new x (2) e own tt does refl refl (places_are_few Claim c.told_of_claim.result) room in
    gives_job c.write-pass-inside.new.seat.table_id m seat c.write-pass-inside.new.seat.me desk new x c.claim-answer.result e is c.write-pass-inside.ensures.noted own c.claim-answer.ensures.job

pub returns-then-desk-clause-full : goal.returns-then-desk-clause-full
returns-then-desk-clause-full g c =
    let table = c.pass.inside.seat.table_id in
    let desk : Desk = c.enter-desk.result in
    let after = c.leave.new.seat in
    let more : 1048576 < desk.taken + 2 = (let h = c.if-desk.true in omega arith) in
    subst (λ (q : PassView). IsFull 2 q (pass_of after.table_id after.me.0)) c.pass.view_is
    (full table after.table_id c.pass.inside.seat.me c.enter-desk.new.seat.me after.me desk 2 (c.leave.ensures.table ∙ c.enter-desk.ensures.table) c.pass.invariant.rests c.enter-desk.ensures.entered c.leave.ensures.left more)
