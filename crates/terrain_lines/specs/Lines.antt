-- The lines that tell of a terrain, of the tiles that it came from, and of a store.
use Rattle.std.specs.Prelude.{ℕ, List, ◌++◌, ◌==◌, codes, decimal, if◌then◌else◌}
use Rattle.std.specs.Fmt.{signed_decimal}
use Rattle.terrain_model.specs.Terrain.{Terrain}
use Rattle.store_model.specs.Format.{Head}
use Rattle.terrain_lines.specs.Extremes.{least_of, most_of, all_blocks}

-- the width and the height of a terrain, in samples
abbrev pub terrain_line : Terrain → List ℕ
terrain_line terrain =
    codes "terrain " ++ (decimal terrain.width ++ (codes " " ++ (decimal terrain.height ++ codes "\n")))

-- the least and the greatest height of a terrain, in metres
abbrev pub heights_line : Terrain → List ℕ
heights_line terrain =
    codes "heights " ++
    (signed_decimal (least_of terrain.table) ++ (codes " " ++ (signed_decimal (most_of terrain.table) ++ codes "\n")))

-- how many tiles there are, the samples of a side of each, and the voids of all
abbrev pub tiles_line : ℕ → ℕ → ℕ → List ℕ
tiles_line number side voids =
    codes "tiles " ++
    (decimal number ++ (codes " side " ++ (decimal side ++ (codes " voids " ++ (decimal voids ++ codes "\n")))))

-- how many levels, blocks and bytes a store has
abbrev pub sizes_words : ℕ → ℕ → ℕ → List ℕ
sizes_words levels blocks length =
    decimal levels ++ (codes " blocks " ++ (decimal blocks ++ (codes " bytes " ++ (decimal length ++ codes "\n"))))

-- the version and the step of a store, and then these; version 1 has no step
abbrev pub stored_line : Head → ℕ → ℕ → List ℕ
stored_line head blocks length =
    if head.version == 2
    then codes "store version 2 step " ++
    (decimal head.step ++ (codes " levels " ++ sizes_words head.levels blocks length))
    else codes "store version 1 levels " ++ sizes_words head.levels blocks length

-- the line of a store with this header and so many bytes
abbrev pub store_line : Head → ℕ → List ℕ
store_line head length = stored_line head (all_blocks head.width head.height head.levels) length

-- the line of a store that was packed: its bytes and its blocks
abbrev pub packed_line : ℕ → ℕ → List ℕ
packed_line length blocks =
    codes "packed " ++ (decimal length ++ (codes " bytes " ++ (decimal blocks ++ codes " blocks\n")))
