-- The commands `pack` and `packq`.
use Rattle.std.specs.Prelude.{ℕ, List, [], ◌∷◌, length}
use Rattle.outer_shelf.specs.Outside.{Files}
use Rattle.terrain_model.specs.Terrain.{Terrain}
use Rattle.store_model.specs.Restored.{canonical_store}
use Rattle.terrain_lines.specs.Extremes.{all_blocks}
use Rattle.terrain_lines.specs.Lines.{packed_line}
use Rattle.clipmap_words.specs.Pack.{PackView}
use Rattle.clipmap_words.specs.PackBy.{PackByView}
use Rattle.run_actions.specs.Actions.{Action, Put, Write}
use Rattle.clipmap_prog.specs.Inputs.{InputsView, tiles_reading, terrain_of}
use Rattle.clipmap_prog.specs.Outcome.{Outcome, concluded}
use Rattle.clipmap_prog.specs.Sources.{SourceView, sources_reading, terrain_of as source_terrain}
use Rattle.clipmap_prog.specs.Stores.{Verdict}

-- bytes with so many blocks are put under a name, and the line that tells of them is written
abbrev pub put_store : List ℕ → ℕ → List ℕ → List Action
put_store name blocks bytes = Put name bytes ∷ Write (packed_line (length bytes) blocks) ∷ []

-- the canonical store of a terrain is put under a name, and its line is written
abbrev pub store_actions : List ℕ → ℕ → ℕ → ℕ → Terrain → List Action
store_actions name version levels step terrain =
    put_store name (all_blocks terrain.width terrain.height levels) (canonical_store version terrain levels step)

abbrev pub pack_actions : PackView → InputsView → List Action
pack_actions pack inputs = store_actions pack.out 1 pack.levels 1 (terrain_of inputs)

-- what a `pack` does: its inputs are tiles, whatever their names
unfoldable pub pack_outcome : PackView → Files → Outcome
pack_outcome pack files = concluded (pack_actions pack) (tiles_reading pack.inputs files)

abbrev pub pack_by_actions : PackByView → SourceView → List Action
pack_by_actions pack source = store_actions pack.out 2 pack.levels pack.step (source_terrain source)

-- what a `packq` does: its inputs are tiles, or a store of any version and any number of levels
unfoldable pub pack_by_outcome : Verdict → PackByView → Files → Outcome
pack_by_outcome verdict pack files = concluded (pack_by_actions pack) (sources_reading verdict pack.inputs files)
