use Rattle.std.proofs.Common.{◌≡◌, not, find, None}
use Rattle.terrain_model.specs.Voids.{is_void}
use Rattle.terrain_model.specs.Tile.{samples_from}
use Rattle.hgt_tiles.proofs.tiles.first_known.Given as goal

abbrev pub invariant-loop-n : goal.invariant-loop-n
invariant-loop-n l = find (λ sample. not (is_void sample)) (samples_from l.bytes l.first l.n) ≡ None
