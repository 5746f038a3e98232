use Rattle.std.proofs.Common.{◌∙◌, ap, is_some}
use Rattle.plan_model.specs.Claims.{strip_at, unfinished_pieces}
use Rattle.plan_model.specs.Rounds.{is_ripe}
use Rattle.book_plan.specs.Desks.{state_of}
use Rattle.book_plan.proofs.Ripe.{ripe_none, unripe_some}
use Rattle.book_plan.proofs.desk.PlanDesk.is_ripe.Goals as goal

pub returns-in-Some : goal.returns-in-Some
unfolding is_ripe
returns-in-Some c =
    unripe_some (strip_at (state_of c.args.self.now) c.args.level) (unfinished_pieces (state_of c.args.self.now) c.args.level) _ c.in-Some.ensures

pub returns-in-None : goal.returns-in-None
unfolding is_ripe
returns-in-None c =
    c.is_some.ensures ∙ ap is_some c.strip_at.ensures.value ∙ ripe_none (strip_at (state_of c.args.self.now) c.args.level) (unfinished_pieces (state_of c.args.self.now) c.args.level) c.in-None.ensures
