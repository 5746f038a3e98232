use Rattle.plan_laws.proofs.StripLaws.{strips_unless_whole}
use Rattle.plan_laws.proofs.growth.strips_are_there_unless_whole.Goals as goal

pub returns : goal.returns
returns c = strips_unless_whole
