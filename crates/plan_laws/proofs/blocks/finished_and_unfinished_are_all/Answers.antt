use Rattle.plan_laws.proofs.FinishedLaws.{finished_and_unfinished}
use Rattle.plan_laws.proofs.blocks.finished_and_unfinished_are_all.Goals as goal

pub returns : goal.returns
returns c = finished_and_unfinished
