use Rattle.plan_laws.proofs.HullLaws.{parts_are_filled_in}
use Rattle.plan_laws.proofs.growth.parts_are_filled_in.Goals as goal

pub returns : goal.returns
returns c = parts_are_filled_in
