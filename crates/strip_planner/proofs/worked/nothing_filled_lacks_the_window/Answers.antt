use Rattle.std.proofs.Common.{pos, negsuc, refl}
use Rattle.clip_regions.specs.Regions.{is_empty, holds}
use Rattle.strip_planner.proofs.Held.{held}
use Rattle.strip_planner.proofs.worked.nothing_filled_lacks_the_window.Goals as goal

pub current_strip-requires-2 : goal.current_strip-requires-2
unfolding is_empty holds
current_strip-requires-2 g c = held (record { x0 = negsuc 5; y0 = negsuc 5; x1 = pos 8; y1 = pos 8 }) (record { x0 = negsuc 5; y0 = negsuc 5; x1 = pos 8; y1 = pos 8 }) refl
