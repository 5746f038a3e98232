use Rattle.plan_laws.proofs.PieceLaws.{pieces_are_meets}
use Rattle.plan_laws.proofs.blocks.pieces_are_meets.Goals as goal

pub returns : goal.returns
returns c = pieces_are_meets
