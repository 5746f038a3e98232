use Rattle.plan_model.proofs.CoverLaws.{strips_partition}
use Rattle.plan_model.proofs.cover.strips_cover_the_window.Goals as goal

pub returns : goal.returns
returns c = strips_partition
