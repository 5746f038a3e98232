use Rattle.std.proofs.Common.{◌≡◌, ◌*◌, ◌≤◌, vec_len, flat_map, count_by}
use Rattle.std.specs.List.{range_with_len}
use Rattle.terrain_model.specs.Voids.{is_void, without_voids}
use Rattle.terrain_model.specs.Tile.{tile_row}
use Rattle.hgt_tiles.proofs.tiles.read_samples.Given as goal

abbrev pub invariant-loop-v : goal.invariant-loop-v
invariant-loop-v l = record {
  heights : l.heights.items ≡ flat_map (λ v. without_voids (tile_row l.bytes l.side v)) (range_with_len 0 l.v);
  voids : l.voids ≡ count_by is_void (flat_map (tile_row l.bytes l.side) (range_with_len 0 l.v));
  row : vec_len l.row ≡ l.side;
  few_voids : l.voids ≤ l.v * l.side;
}
