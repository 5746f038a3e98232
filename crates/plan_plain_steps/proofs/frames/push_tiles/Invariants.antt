use Rattle.std.proofs.Common.{◌≡◌, ◌++◌, map, take}
use Rattle.plan_model.specs.Steps.{LevelTile}
use Rattle.plan_model.specs.declared.tiles.TileId.{TileId}
use Rattle.plan_plain_steps.proofs.frames.push_tiles.Given as goal

abbrev pub invariant-loop-tile : goal.invariant-loop-tile
invariant-loop-tile l =
    l.out.items ≡ l.initial.out.items ++ map (λ (t : TileId). let tile : LevelTile = record { level = l.fn.level; tile = t } in tile) (take l.tile-index l.tiles)
