use Rattle.std.proofs.Common.{◌≡◌, ◌<◌, ℕ, pos, take, length, get_or}
use Rattle.terrain_model.specs.Mosaic.{mosaic_width}
use Rattle.mosaic.specs.Painting.{painted}
use Rattle.mosaic.proofs.painting.paint_row.Given as goal

abbrev pub invariant-loop-tile : goal.invariant-loop-tile
invariant-loop-tile l = record {
  width : length l.row ≡ mosaic_width l.extent;
  painted : (x : ℕ) → x < length l.row → get_or l.row x (pos 0) ≡ painted l.extent (take l.tile-index l.tiles) x l.y;
}
