use Rattle.std.proofs.Common.{◌≡◌, ◌≤◌, ◌++◌, map, count_by}
use Rattle.std.specs.List.{range_with_len}
use Rattle.terrain_model.specs.Voids.{is_void, first_known, known_at}
use Rattle.terrain_model.specs.Tile.{samples_from}
use Rattle.hgt_tiles.proofs.TileLemmas.{latest}
use Rattle.hgt_tiles.proofs.tiles.append_filled.Given as goal

abbrev pub invariant-loop-n : goal.invariant-loop-n
invariant-loop-n l =
    let row = samples_from l.bytes l.first l.side in
    record {
      known : l.known ≡ latest row l.n (first_known row);
      heights : l.heights.items ≡ l.initial.heights.items ++ map (known_at row) (range_with_len 0 l.n);
      voids : l.voids ≡ count_by is_void (samples_from l.bytes l.first l.n);
      few_voids : l.voids ≤ l.n;
    }
