use Rattle.plan_laws.proofs.NeedLaws.{needs_in_patches}
use Rattle.plan_laws.proofs.needs.needs_lie_in_patches.Goals as goal

pub returns : goal.returns
returns c = needs_in_patches
