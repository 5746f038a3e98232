use Rattle.plan_laws.proofs.CountLaws.{pieces_are_counted}
use Rattle.plan_laws.proofs.blocks.pieces_are_counted.Goals as goal

pub returns : goal.returns
returns c = pieces_are_counted
