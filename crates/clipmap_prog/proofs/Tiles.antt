-- Bytes of a length that no tile has.
use Rattle.std.proofs.Common.{◌≡◌, ℕ, ◌≤◌, List, length, Some, None, Err, sym, ap, ◌∙◌, if◌then◌else◌}
use Rattle.std.specs.Option.{option_map}
use Rattle.std.proofs.lemmas.Bool.{le-ltb}
use Rattle.terrain_model.specs.Tile.{side_of_length}
use Rattle.terrain_model.specs.declared.Corner.{Corner}
use Rattle.hgt_tiles.specs.TileView.{tile_at, tile_of_bytes}
use Rattle.hgt_tiles.specs.declared.tiles.TileFault.TheVariants.{BadLength}
use Rattle.clipmap_prog.specs.declared.fault.FileFault.TheVariants.{TooLong}
use Rattle.clipmap_prog.specs.Faults.{Cause, File, Tile}
use Rattle.clipmap_prog.specs.Inputs.{hgt_limit, tile_of_length, tile_of_file}

pub bad_length : (name bytes : List ℕ) (corner : Corner) (count : ℕ) → length bytes ≤ 25934402 → count ≡ length bytes → side_of_length count ≡ None →
    tile_of_file (record { name = name; corner = corner }) (Some bytes) ≡ Err (Tile name (BadLength count))
unfolding tile_of_bytes
bad_length name bytes corner count small is none =
    ap (λ b. if b then Err (File name (TooLong (length bytes) hgt_limit)) else tile_of_length name (length bytes) (tile_of_bytes corner bytes)) (le-ltb hgt_limit (length bytes) small)
    ∙ ap (λ n. tile_of_length name (length bytes) (option_map (tile_at corner bytes) (side_of_length n))) (sym is)
    ∙ ap (λ side. tile_of_length name (length bytes) (option_map (tile_at corner bytes) side)) none
    ∙ ap (λ n. let cause : Cause = Tile name (BadLength n) in Err cause) (sym is)
