use Rattle.std.proofs.Common.{◌≡◌, ◌-◌, ℕ, map, flat_map, reverse, length, slice_index_or}
use Rattle.std.specs.List.{range_with_len}
use Rattle.clip_regions.specs.Regions.{empty_region}
use Rattle.plan_model.specs.Claims.{held_tiles}
use Rattle.plan_model.specs.Steps.{LevelTile}
use Rattle.plan_model.specs.declared.tiles.TileId.{TileId}
use Rattle.plan_plain_steps.proofs.frames.held_under.Given as goal

abbrev pub invariant-loop-level : goal.invariant-loop-level
invariant-loop-level l =
    l.out.items ≡ flat_map (λ (n : ℕ). map (λ (t : TileId). let tile : LevelTile = record { level = n; tile = t } in tile) (held_tiles l.fn.state n (slice_index_or l.fn.active n empty_region))) (reverse (range_with_len l.level (length l.fn.state.levels - l.level)))
