use Rattle.plan_model.proofs.RefusalLaws.{refusals_change_nothing}
use Rattle.plan_model.proofs.refusals.refusals_change_nothing.Goals as goal

pub returns : goal.returns
returns c = refusals_change_nothing
