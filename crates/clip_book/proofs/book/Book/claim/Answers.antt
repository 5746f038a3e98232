use Rattle.std.proofs.Common.{rules, ◌≡◌, ◌<◌, length, Some, refl, sym, subst, ap, ◌∙◌, arith}
use Rattle.std.specs.Int.{w32}
use mir.Val.{SFits}
use Rattle.plan_model.specs.Limits.{IsSize}
use Rattle.plan_model.specs.Blocks.{tile_of}
use Rattle.plan_model.specs.States.{State}
use Rattle.plan_model.specs.Steps.{job_answer}
use Rattle.plan_model.specs.declared.events.Event.TheVariants.{Claim}
use Rattle.plan_holds.specs.Kept.{HasJob}
use Rattle.book_cells.specs.Laws.{IsClaimed, IsGiven}
use Rattle.terrain_store.specs.Shapes.{Land}
use Rattle.clip_book.specs.Answers.{told_job}
use Rattle.clip_book.specs.Jobs.{JobView, IsJob}
use Rattle.clip_book.specs.Reading.{IsInBlock}
use Rattle.clip_book.specs.Books.{BookView, Does, IsJobOf}
use Rattle.clip_book.proofs.Standing.{tile_read, after_event}
use Rattle.clip_book.proofs.Claiming.{refused, refused_stands, refused_hands, claimed, given_of, given_level, given_grid, given_block, given_patch, given_home, given_readable, claim_stands}
use Rattle.clip_book.proofs.book.Book.claim.Goals as goal

pub job_patch-patch-requires-clause-level : goal.job_patch-patch-requires-clause-level
job_patch-patch-requires-clause-level c =
    let given : IsGiven c.self.inside.plan.state c.args.pass c.in-Some.note = given_of c.claims_give_jobs.ensures c.args.pass c.claim-answer.result c.self.inside.plan c.claim-answer.new.self c.in-Some.note c.requires c.is_sound.ensures.passes c.claim-answer.ensures (sym c.told_job.ensures ∙ c.in-Some.is) in
    given_level c.args.pass c.self.inside.plan c.self.inside.shape c.self.inside.tiles c.in-Some.note c.self.invariant given

pub job_patch-patch-requires-clause-block : goal.job_patch-patch-requires-clause-block
job_patch-patch-requires-clause-block c =
    let given : IsGiven c.self.inside.plan.state c.args.pass c.in-Some.note = given_of c.claims_give_jobs.ensures c.args.pass c.claim-answer.result c.self.inside.plan c.claim-answer.new.self c.in-Some.note c.requires c.is_sound.ensures.passes c.claim-answer.ensures (sym c.told_job.ensures ∙ c.in-Some.is) in
    given_block c.args.pass c.self.inside.plan c.self.inside.shape c.self.inside.tiles c.in-Some.note c.self.invariant given c.pieces_have_cells.ensures c.pieces_lie_in_blocks.ensures

pub job_patch-patch-requires-clause-inside : goal.job_patch-patch-requires-clause-inside
job_patch-patch-requires-clause-inside c =
    let given : IsGiven c.self.inside.plan.state c.args.pass c.in-Some.note = given_of c.claims_give_jobs.ensures c.args.pass c.claim-answer.result c.self.inside.plan c.claim-answer.new.self c.in-Some.note c.requires c.is_sound.ensures.passes c.claim-answer.ensures (sym c.told_job.ensures ∙ c.in-Some.is) in
    given_patch c.args.pass c.self.inside.plan c.self.inside.shape c.self.inside.tiles c.in-Some.note c.self.invariant given c.needs_lie_in_patches.ensures

pub job_patch-patch-requires-clause-readable : goal.job_patch-patch-requires-clause-readable
job_patch-patch-requires-clause-readable c =
    let is : IsClaimed c.self.inside.plan.state c.args.pass c.in-Some.note = claimed c.args.pass c.claim-answer.result c.self.inside.plan c.claim-answer.new.self c.in-Some.note c.claim-answer.ensures (sym c.told_job.ensures ∙ c.in-Some.is) in
    let given : IsGiven c.self.inside.plan.state c.args.pass c.in-Some.note = given_of c.claims_give_jobs.ensures c.args.pass c.claim-answer.result c.self.inside.plan c.claim-answer.new.self c.in-Some.note c.requires c.is_sound.ensures.passes c.claim-answer.ensures (sym c.told_job.ensures ∙ c.in-Some.is) in
    given_readable c.args.pass c.self.inside.plan c.self.inside.shape c.self.inside.tiles c.in-Some.note c.self.invariant given c.needed_cells_have_heights.ensures is

pub tile_of-id-requires : goal.tile_of-id-requires
tile_of-id-requires c =
    subst IsSize (sym (c.k.ensures ∙ (after_event c.steps_go_on.ensures c.args.pass Claim c.claim-answer.result c.self.inside.plan c.claim-answer.new.self c.claim-answer.ensures).size)) c.self.invariant.kept.size

pub take_out-tile-requires-clause-level : goal.take_out-tile-requires-clause-level
take_out-tile-requires-clause-level c =
    let given : IsGiven c.self.inside.plan.state c.args.pass c.in-Some.note = given_of c.claims_give_jobs.ensures c.args.pass c.claim-answer.result c.self.inside.plan c.claim-answer.new.self c.in-Some.note c.requires c.is_sound.ensures.passes c.claim-answer.ensures (sym c.told_job.ensures ∙ c.in-Some.is) in
    given_grid c.args.pass c.self.inside.plan c.self.inside.shape c.self.inside.tiles c.in-Some.note c.self.invariant given

pub take_out-tile-requires-clause-home : goal.take_out-tile-requires-clause-home
take_out-tile-requires-clause-home c =
    let given : IsGiven c.self.inside.plan.state c.args.pass c.in-Some.note = given_of c.claims_give_jobs.ensures c.args.pass c.claim-answer.result c.self.inside.plan c.claim-answer.new.self c.in-Some.note c.requires c.is_sound.ensures.passes c.claim-answer.ensures (sym c.told_job.ensures ∙ c.in-Some.is) in
    let fx : SFits w32 c.in-Some.note.piece.bx = search rules in
    let fy : SFits w32 c.in-Some.note.piece.by = search rules in
    let id : c.tile_of-id.result ≡ tile_of c.self.inside.plan.state.k c.in-Some.note.piece.bx c.in-Some.note.piece.by = c.tile_of-id.ensures.value ∙ tile_read c.k.result c.self.inside.plan.state.k c.in-Some.note.piece.bx c.in-Some.note.piece.by (c.k.ensures ∙ (after_event c.steps_go_on.ensures c.args.pass Claim c.claim-answer.result c.self.inside.plan c.claim-answer.new.self c.claim-answer.ensures).size) fx fy in
    given_home c.args.pass c.self.inside.plan c.self.inside.shape c.self.inside.tiles c.in-Some.note c.self.invariant given c.tile_of-id.result id

pub new-requires : goal.new-requires
new-requires c =
    let given : IsGiven c.self.inside.plan.state c.args.pass c.in-Some.note = given_of c.claims_give_jobs.ensures c.args.pass c.claim-answer.result c.self.inside.plan c.claim-answer.new.self c.in-Some.note c.requires c.is_sound.ensures.passes c.claim-answer.ensures (sym c.told_job.ensures ∙ c.in-Some.is) in
    let block : IsInBlock c.in-Some.note.piece = given_block c.args.pass c.self.inside.plan c.self.inside.shape c.self.inside.tiles c.in-Some.note c.self.invariant given c.pieces_have_cells.ensures c.pieces_lie_in_blocks.ensures in
    subst (λ (l : Land). IsJob l c.in-Some.note c.job_patch-patch.result) (sym c.of.ensures) (record { level = given_level c.args.pass c.self.inside.plan c.self.inside.shape c.self.inside.tiles c.in-Some.note c.self.invariant given; some = block.some; block = block.held; coarser = c.job_patch-patch.ensures })

pub invariant_of-self : goal.invariant_of-self
invariant_of-self c =
    let small : c.args.pass < 16 = c.requires in
    let many : length c.self.inside.plan.state.passes ≡ 16 = c.is_sound.ensures.passes in
    let there : c.args.pass < length c.self.inside.plan.state.passes = omega arith in
    let is : IsClaimed c.self.inside.plan.state c.args.pass c.in-Some.note = claimed c.args.pass c.claim-answer.result c.self.inside.plan c.claim-answer.new.self c.in-Some.note c.claim-answer.ensures (sym c.told_job.ensures ∙ c.in-Some.is) in
    let fx : SFits w32 c.in-Some.note.piece.bx = search rules in
    let fy : SFits w32 c.in-Some.note.piece.by = search rules in
    let id : c.tile_of-id.result ≡ tile_of c.self.inside.plan.state.k c.in-Some.note.piece.bx c.in-Some.note.piece.by = c.tile_of-id.ensures.value ∙ tile_read c.k.result c.self.inside.plan.state.k c.in-Some.note.piece.bx c.in-Some.note.piece.by (c.k.ensures ∙ (after_event c.steps_go_on.ensures c.args.pass Claim c.claim-answer.result c.self.inside.plan c.claim-answer.new.self c.claim-answer.ensures).size) fx fy in
    claim_stands c.kept_by_each_step.ensures c.steps_go_on.ensures c.cells_go_out.ensures c.args.pass c.claim-answer.result c.self.inside.plan c.claim-answer.new.self c.self.inside.shape c.self.inside.tiles c.take_out-tile.new.self c.in-Some.note c.tile_of-id.result there c.claim-answer.ensures is id c.take_out-tile.ensures.moves c.take_out-tile.ensures.sizes c.self.invariant

pub refused_claim-requires : goal.refused_claim-requires
refused_claim-requires c =
    refused c.args.pass c.claim-answer.result c.self.inside.plan c.claim-answer.new.self c.claim-answer.ensures (sym c.told_job.ensures ∙ c.in-None.is)

pub invariant_of-self-in-None : goal.invariant_of-self-in-None
invariant_of-self-in-None c =
    refused_stands c.kept_by_each_step.ensures c.steps_go_on.ensures c.refusals_change_nothing.ensures c.args.pass c.claim-answer.result c.self.inside.plan c.claim-answer.new.self c.self.inside.shape c.self.inside.tiles c.claim-answer.ensures (sym c.told_job.ensures ∙ c.in-None.is) c.self.invariant

pub returns-in-Some-clause-does : goal.returns-in-Some-clause-does
returns-in-Some-clause-does c =
    let is : IsClaimed c.self.inside.plan.state c.args.pass c.in-Some.note = claimed c.args.pass c.claim-answer.result c.self.inside.plan c.claim-answer.new.self c.in-Some.note c.claim-answer.ensures (sym c.told_job.ensures ∙ c.in-Some.is) in
    subst (λ (v : BookView). Does c.args.pass Claim (job_answer c.new.result.note) v (record { plan = c.claim-answer.new.self; land = c.self.inside.shape; handed = c.take_out-tile.new.self.handed })) c.self.view_is (record { plan = record { state = c.claim-answer.ensures.state; answered = is ∙ ap (λ (j : JobView). job_answer j.note) (sym c.new.ensures); moves = c.claim-answer.ensures.moves }; land = refl; others = c.take_out-tile.ensures.moves.others.handed })

pub returns-in-Some-clause-job : goal.returns-in-Some-clause-job
returns-in-Some-clause-job c =
    let given : IsGiven c.self.inside.plan.state c.args.pass c.in-Some.note = given_of c.claims_give_jobs.ensures c.args.pass c.claim-answer.result c.self.inside.plan c.claim-answer.new.self c.in-Some.note c.requires c.is_sound.ensures.passes c.claim-answer.ensures (sym c.told_job.ensures ∙ c.in-Some.is) in
    subst (λ (j : JobView). IsJobOf (record { plan = c.claim-answer.new.self; land = c.self.inside.shape; handed = c.take_out-tile.new.self.handed }) c.args.pass j) (sym c.new.ensures) (record { land = c.of.ensures; note = subst (λ (st : State). HasJob st c.args.pass c.in-Some.note) (sym c.claim-answer.ensures.state) given.has; tile = c.take_out-tile.ensures.heights })

pub returns-in-None-clause-handed : goal.returns-in-None-clause-handed
returns-in-None-clause-handed c =
    refused_hands c.refused_claim.result _ _ (ap (λ (v : BookView). v.handed) c.self.view_is)
