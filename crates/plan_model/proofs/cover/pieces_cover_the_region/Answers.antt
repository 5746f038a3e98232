use Rattle.plan_model.proofs.PieceLaws.{pieces_partition}
use Rattle.plan_model.proofs.cover.pieces_cover_the_region.Goals as goal

pub returns : goal.returns
returns c = pieces_partition
