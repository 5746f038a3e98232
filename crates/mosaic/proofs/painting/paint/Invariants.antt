use Rattle.std.proofs.Common.{◌≡◌, ◌*◌, length, flat_map}
use Rattle.std.specs.List.{range_with_len}
use Rattle.terrain_model.specs.Mosaic.{mosaic_width}
use Rattle.mosaic.specs.Painting.{painted_row}
use Rattle.mosaic.proofs.painting.paint.Given as goal

abbrev pub invariant-loop-y : goal.invariant-loop-y
invariant-loop-y l = record {
  heights : l.heights.items ≡ flat_map (painted_row l.extent l.tiles) (range_with_len 0 l.y);
  count : length l.heights.items ≡ l.y * mosaic_width l.extent;
  width : length l.row.items ≡ mosaic_width l.extent;
}
