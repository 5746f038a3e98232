use Rattle.plan_laws.proofs.AreaLaws.{regions_have_pieces}
use Rattle.plan_laws.proofs.areas.regions_have_pieces.Goals as goal

pub returns : goal.returns
returns c = regions_have_pieces
