use Rattle.std.proofs.Common.{◌≡◌, ℕ, ◌+◌, ◌<◌, length, get_or, pos}
use Rattle.std.specs.List.{list_any}
use Rattle.terrain_model.specs.Voids.{is_void}
use Rattle.terrain_model.specs.Tile.{raw_sample, samples_from}
use Rattle.hgt_tiles.proofs.tiles.read_row.Given as goal

abbrev pub invariant-loop-n : goal.invariant-loop-n
invariant-loop-n l = record {
  length : length l.row ≡ length l.initial.row;
  read : (k : ℕ) → k < l.n → get_or l.row k (pos 0) ≡ raw_sample l.bytes (l.first + k);
  voids : l.has_void ≡ list_any is_void (samples_from l.bytes l.first l.n);
}
