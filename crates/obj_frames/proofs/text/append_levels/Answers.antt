-- One more level's line at each turn.
use Rattle.std.proofs.Common.{arith}
use Rattle.clip_regions.specs.Regions.{empty_region}
use Rattle.obj_frames.proofs.Levels.{appended_level}
use Rattle.obj_frames.proofs.text.append_levels.Goals as goal

pub loop-level-preserved : goal.loop-level-preserved
loop-level-preserved c =
    appended_level c.loop-level.level c.args.actives.now empty_region c.at.result c.args.text.now.items c.loop-level.text.items c.append_level.new.text.items (omega arith) c.loop-level.invariant c.at.ensures.value (c.in_ok-append_level.ensures {u = tt})
