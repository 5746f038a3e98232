use Rattle.std.proofs.Common.{◌≡◌, ◌*◌, ◌≤◌, sum_by, take}
use Rattle.hgt_tiles.specs.TileView.{most_voids}
use Rattle.clipmap_prog.proofs.tile_files.all_voids.Given as goal

-- the voids of the tiles so far, each of which has no more than the greatest tile has samples
abbrev pub invariant-loop-tile : goal.invariant-loop-tile
invariant-loop-tile l = record {
  value : l.voids ≡ sum_by (λ tile. tile.voids) (take l.tile-index l.tiles);
  few : l.voids ≤ l.tile-index * most_voids;
}
