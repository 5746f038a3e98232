use Rattle.std.proofs.Common.{◌≡◌, ◌||◌, List, filter, ap, ◌∙◌, rules}
use Rattle.plan_model.specs.Blocks.{same_block}
use Rattle.plan_model.specs.States.{State, level_at, with_level, with_pass}
use Rattle.plan_model.specs.Claims.{is_finished, pieces_at}
use Rattle.plan_model.specs.Steps.{finished_level}
use Rattle.plan_model.specs.declared.tiles.Piece.{Piece}
use Rattle.plan_model.specs.declared.events.Work.TheVariants.{Free}
use Rattle.plan_plain_steps.proofs.state.PlainState.keep_job.Goals as goal

pub returns-clause-state : goal.returns-clause-state
unfolding finished_level
returns-clause-state c =
    let finished : c.in_ok-finished.finished.items ≡ filter (λ (other : Piece). same_block other c.args.job.piece || is_finished (level_at c.args.self.now c.args.job.level).finished other) (pieces_at c.args.self.now c.args.job.level) = search rules in
    c.set_finished.ensures.value ∙ ap (λ (st : State). with_level st c.args.job.level (record (level_at st c.args.job.level) { finished = c.in_ok-finished.finished.items })) c.set_pass.ensures.value ∙ ap (λ (xs : List Piece). with_level (with_pass c.args.self.now c.args.p Free) c.args.job.level (record (level_at c.args.self.now c.args.job.level) { finished = xs })) finished
