use Rattle.plan_laws.proofs.StripLaws.{strips_in_windows}
use Rattle.plan_laws.proofs.growth.strips_lie_in_windows.Goals as goal

pub returns : goal.returns
returns c = strips_in_windows
