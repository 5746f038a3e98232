use Rattle.std.proofs.Common.{◌≡◌, All, None, take}
use Rattle.mosaic.specs.Faults.{other_side, HasSide}
use Rattle.mosaic.proofs.joining.other_side.Given as goal

abbrev pub invariant-loop-tile : goal.invariant-loop-tile
invariant-loop-tile l = record {
  value : other_side l.side (take l.tile-index l.tiles) ≡ None;
  squares : All (HasSide l.side) (take l.tile-index l.tiles);
}
