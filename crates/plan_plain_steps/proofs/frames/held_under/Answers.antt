-- One more level at each turn, the coarsest first.
use Rattle.std.proofs.Common.{◌≡◌, ℕ, ◌<◌, ◌≤◌, ◌-◌, ◌++◌, List, map, length, slice_index_or, ap, ◌∙◌, arith}
use Rattle.clip_regions.specs.declared.region.Region.{Region}
use Rattle.clip_regions.specs.Regions.{empty_region}
use Rattle.plan_model.specs.Claims.{held_tiles}
use Rattle.plan_model.specs.Steps.{LevelTile}
use Rattle.plan_model.specs.declared.tiles.TileId.{TileId}
use Rattle.plan_plain_steps.proofs.Ranges.{down_from}
use Rattle.plan_plain_steps.proofs.frames.held_under.Goals as goal

abbrev level_tiles : ℕ → List TileId → List LevelTile
level_tiles n tiles = map (λ (t : TileId). let tile : LevelTile = record { level = n; tile = t } in tile) tiles

pub loop-level-preserved : goal.loop-level-preserved
loop-level-preserved c =
    let some : 0 < c.loop-level.level = omega arith in
    let few : c.loop-level.level ≤ length c.args.state.now.levels = omega (arith, c.loop-level.auto.level, c.level_count-level.ensures.value) in
    let held : c.as_slice.result.now ≡ held_tiles c.args.state.now (c.loop-level.level - 1) (slice_index_or c.args.active.now (c.loop-level.level - 1) empty_region) = c.as_slice.ensures.value ∙ c.in_ok-held.ensures.value ∙ ap (λ (r : Region). held_tiles c.args.state.now (c.loop-level.level - 1) r) c.region_at.ensures.value in
    down_from (λ (n : ℕ). level_tiles n (held_tiles c.args.state.now n (slice_index_or c.args.active.now n empty_region))) c.loop-level.level (length c.args.state.now.levels) c.loop-level.out.items c.push_tiles.new.out.items some few c.loop-level.invariant (c.in_ok-push_tiles.ensures.value ∙ ap (λ (tiles : List TileId). c.loop-level.out.items ++ level_tiles (c.loop-level.level - 1) tiles) held)
