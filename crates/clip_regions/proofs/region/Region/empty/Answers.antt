use Rattle.std.proofs.Common.{rules}
use Rattle.clip_regions.specs.Regions.{is_empty}
use Rattle.clip_regions.proofs.region.Region.empty.Goals as goal

pub returns-clause-cells : goal.returns-clause-cells
unfolding is_empty
returns-clause-cells c = search rules
