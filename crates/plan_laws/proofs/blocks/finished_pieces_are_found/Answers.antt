use Rattle.plan_laws.proofs.FinishedLaws.{finished_are_found}
use Rattle.plan_laws.proofs.blocks.finished_pieces_are_found.Goals as goal

pub returns : goal.returns
returns c = finished_are_found
