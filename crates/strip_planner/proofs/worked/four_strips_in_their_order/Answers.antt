use Rattle.std.proofs.Common.{pos, negsuc, refl}
use Rattle.clip_regions.specs.Regions.{is_empty, holds}
use Rattle.strip_planner.proofs.Held.{held}
use Rattle.strip_planner.proofs.worked.four_strips_in_their_order.Goals as goal

pub strips-all-requires : goal.strips-all-requires
unfolding is_empty holds
strips-all-requires g c = held (record { x0 = pos 0; y0 = pos 0; x1 = pos 2; y1 = pos 2 }) (record { x0 = negsuc 5; y0 = negsuc 3; x1 = pos 8; y1 = pos 10 }) refl
