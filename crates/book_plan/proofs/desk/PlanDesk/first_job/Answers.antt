use Rattle.std.proofs.Common.{ap, sym, ◌∙◌}
use Rattle.plan_model.specs.Strips.{first_of}
use Rattle.plan_model.specs.Claims.{offers}
use Rattle.plan_model.specs.Steps.{claimed_job}
use Rattle.book_plan.specs.Desks.{state_of}
use Rattle.book_plan.proofs.Lists.{first_mapped}
use Rattle.book_plan.proofs.Claimable.{jobs_are}
use Rattle.book_plan.proofs.desk.PlanDesk.first_job.Goals as goal

pub returns : goal.returns
returns c =
    let st = state_of c.args.self.now in
    c.first_from_coarsest.ensures ∙ ap first_of (sym (jobs_are st)) ∙ first_mapped (claimed_job st) (offers st)
