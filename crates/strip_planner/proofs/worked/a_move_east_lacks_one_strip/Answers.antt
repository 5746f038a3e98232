use Rattle.std.proofs.Common.{pos, negsuc, refl}
use Rattle.clip_regions.specs.Regions.{is_empty, holds}
use Rattle.strip_planner.proofs.Held.{held}
use Rattle.strip_planner.proofs.worked.a_move_east_lacks_one_strip.Goals as goal

pub strips-requires : goal.strips-requires
unfolding is_empty holds
strips-requires g c = held (record { x0 = negsuc 3; y0 = negsuc 5; x1 = pos 8; y1 = pos 8 }) (record { x0 = negsuc 3; y0 = negsuc 5; x1 = pos 10; y1 = pos 8 }) refl

pub current_strip-requires : goal.current_strip-requires
unfolding is_empty holds
current_strip-requires g c = held (record { x0 = negsuc 3; y0 = negsuc 5; x1 = pos 8; y1 = pos 8 }) (record { x0 = negsuc 3; y0 = negsuc 5; x1 = pos 10; y1 = pos 8 }) refl
