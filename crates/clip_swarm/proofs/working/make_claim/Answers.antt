use Rattle.std.proofs.Common.{◌<◌, ap, subst, sym, arith, refl}
use Rattle.swarm_laws.specs.Shares.{claims_share}
use Rattle.swarm_laws.proofs.Blocks.{claim_less}
use Rattle.plan_model.specs.declared.events.Answer.TheVariants.{Ripe, HasWork}
use Rattle.plan_model.specs.declared.events.Event.TheVariants.{Claim}
use Rattle.clip_book.specs.Answers.{said_of_claim}
use Rattle.clip_book.specs.declared.answers.Claimed.{Claimed}
use Rattle.clip_gate.specs.Passes.{ClipView}
use Rattle.clip_gate.specs.Calls.{HasMade, GivesJob}
use Rattle.swarm_passes.proofs.Events.{job_goes, ripe_goes, ripe_full, full_goes}
use Rattle.swarm_passes.proofs.Loops.{after_made, plain_goes}
use Rattle.clip_swarm.proofs.working.make_claim.Goals as goal

pub publish-requires-clause-level : goal.publish-requires-clause-level
publish-requires-clause-level g c =
    subst (λ (v : ClipView). c.in-Ok-Ripe.level < v.land.levels) c.requires.clip
    (after_made c.histories_go_on.ensures c.in-Ok-Ripe.field-0 (Ripe c.in-Ok-Ripe.level) c.args.pass.now c.claim.new.pass (ap said_of_claim c.in-Ok-Ripe.field-0-is) c.number-number.ensures.sound.own c.requires.free c.in-Ok-Ripe.ensures.made).1

pub unreachable-requires : goal.unreachable-requires
unreachable-requires g c = after_made c.histories_go_on.ensures c.in-Ok-HasWork.field-0 HasWork c.args.pass.now c.claim.new.pass (ap said_of_claim c.in-Ok-HasWork.field-0-is) c.number-number.ensures.sound.own c.requires.free c.in-Ok-HasWork.ensures.made

pub returns-in-Ok-Job : goal.returns-in-Ok-Job
returns-in-Ok-Job g c =
    let made = subst (λ (a : Claimed). HasMade Claim (said_of_claim a) 2 c.args.pass.now c.claim.new.pass) c.in-Ok-Job.field-0-is c.in-Ok-Job.ensures.made in
    let job = subst (λ (a : Claimed). GivesJob c.claim.new.pass a) c.in-Ok-Job.field-0-is c.in-Ok-Job.ensures.job in
    record { goes = job_goes c.in-Ok-Job.job.note c.give_back.result c.args.pass.now c.claim.new.pass c.give_back.new.pass c.number-number.ensures.sound.own c.requires.free made job.note c.give_back.ensures }

pub returns-in-Ok : goal.returns-in-Ok
returns-in-Ok g c =
    let made = subst (λ (a : Claimed). HasMade Claim (said_of_claim a) 2 c.args.pass.now c.claim.new.pass) c.in-Ok-Ripe.field-0-is c.in-Ok-Ripe.ensures.made in
    let after = after_made c.histories_go_on.ensures c.in-Ok-Ripe.field-0 (Ripe c.in-Ok-Ripe.level) c.args.pass.now c.claim.new.pass (ap said_of_claim c.in-Ok-Ripe.field-0-is) c.number-number.ensures.sound.own c.requires.free c.in-Ok-Ripe.ensures.made in
    record { goes = ripe_goes c.in-Ok-Ripe.level c.in-Ok.field-0 c.args.pass.now c.claim.new.pass c.publish.new.pass c.number-number.ensures.sound.own c.requires.free made after.0 c.in-Ok.ensures.made }

pub returns-in-Err-publish : goal.returns-in-Err-publish
returns-in-Err-publish g c =
    let made = subst (λ (a : Claimed). HasMade Claim (said_of_claim a) 2 c.args.pass.now c.claim.new.pass) c.in-Ok-Ripe.field-0-is c.in-Ok-Ripe.ensures.made in
    let after = after_made c.histories_go_on.ensures c.in-Ok-Ripe.field-0 (Ripe c.in-Ok-Ripe.level) c.args.pass.now c.claim.new.pass (ap said_of_claim c.in-Ok-Ripe.field-0-is) c.number-number.ensures.sound.own c.requires.free c.in-Ok-Ripe.ensures.made in
    record { goes = ripe_full c.in-Ok-Ripe.level c.args.pass.now c.claim.new.pass c.publish.new.pass c.number-number.ensures.sound.own c.requires.free made after.0 c.in-Err-publish.ensures.full }

pub returns-in-Ok-Idle : goal.returns-in-Ok-Idle
returns-in-Ok-Idle g c = record { goes = plain_goes c.histories_go_on.ensures c.in-Ok-Idle.field-0 _ c.args.pass.now c.claim.new.pass c.in-Ok-Idle.field-0-is tt c.number-number.ensures.sound.own c.requires.free c.in-Ok-Idle.ensures.made }

pub returns-in-Ok-Busy : goal.returns-in-Ok-Busy
returns-in-Ok-Busy g c = record { goes = plain_goes c.histories_go_on.ensures c.in-Ok-Busy.field-0 _ c.args.pass.now c.claim.new.pass c.in-Ok-Busy.field-0-is tt c.number-number.ensures.sound.own c.requires.free c.in-Ok-Busy.ensures.made }

pub returns-in-Ok-Held : goal.returns-in-Ok-Held
returns-in-Ok-Held g c = record { goes = plain_goes c.histories_go_on.ensures c.in-Ok-Held.field-0 _ c.args.pass.now c.claim.new.pass c.in-Ok-Held.field-0-is tt c.number-number.ensures.sound.own c.requires.free c.in-Ok-Held.ensures.made }

pub returns-in-Err : goal.returns-in-Err
returns-in-Err g c = record { goes = full_goes (claims_share 1) 2 c.args.pass.now c.claim.new.pass c.number-number.ensures.sound.own c.requires.free (omega arith) claim_less c.in-Err.ensures.full }
