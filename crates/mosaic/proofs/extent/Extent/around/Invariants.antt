use Rattle.std.proofs.Common.{◌≡◌, take, fold}
use Rattle.mosaic.specs.Extents.{extent_of_one, widened, IsExtent}
use Rattle.mosaic.proofs.extent.Extent.around.Given as goal

abbrev pub invariant-loop-tile : goal.invariant-loop-tile
invariant-loop-tile l = record {
  value : l.extent ≡ fold widened (extent_of_one l.first) (take l.tile-index l.rest);
  extent : IsExtent l.extent;
}
