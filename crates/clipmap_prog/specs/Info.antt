-- The command `info`.
use Rattle.std.specs.Prelude.{ℕ, List, [], ◌∷◌}
use Rattle.outer_shelf.specs.Outside.{Files}
use Rattle.terrain_lines.specs.Lines.{heights_line, store_line, terrain_line, tiles_line}
use Rattle.clipmap_words.specs.Info.{InfoView}
use Rattle.run_actions.specs.Actions.{Action, Write}
use Rattle.clipmap_prog.specs.Inputs.{Tiles as tiles_of}
use Rattle.clipmap_prog.specs.Outcome.{Outcome, concluded}
use Rattle.clipmap_prog.specs.Sources.{SourceView, Tiles, Store, sources_reading, terrain_of}
use Rattle.clipmap_prog.specs.Stores.{Verdict}

-- the line that tells where a terrain comes from
abbrev pub source_line : SourceView → List ℕ
source_line (Tiles (tiles_of tiles)) = tiles_line tiles.number tiles.side tiles.voids
source_line (Store store) = store_line store.stored.head store.length

-- what an `info` writes: the size of the terrain, its heights, and where it comes from
abbrev pub info_actions : SourceView → List Action
info_actions source =
    Write (terrain_line (terrain_of source)) ∷ Write (heights_line (terrain_of source)) ∷ Write (source_line source) ∷
    []

-- what an `info` does
unfoldable pub info_outcome : Verdict → InfoView → Files → Outcome
info_outcome verdict info files = concluded info_actions (sources_reading verdict info.inputs files)
