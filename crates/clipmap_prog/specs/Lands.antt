-- The terrain that a run is over, with its levels: of tiles or of a store.
use Rattle.std.specs.Prelude.{ℕ, ◌==◌, List, length, if◌then◌else◌, Result, Ok, Err}
use Rattle.outer_shelf.specs.Outside.{Files}
use Rattle.terrain_store.specs.Shapes.{Land}
use Rattle.terrain_store.specs.Stores.{Stored as Kept}
use Rattle.clipmap_prog.specs.Faults.{Cause, LevelsDiffer}
use Rattle.clipmap_prog.specs.Inputs.{inputs_view}
use Rattle.clipmap_prog.specs.Reading.{Reading, unfetched, and_then}
use Rattle.clipmap_prog.specs.Sources.{SourceView, Tiles, Store, sources_reading, terrain_of}
use Rattle.clipmap_prog.specs.Stores.{StoreView, Verdict}
use Rattle.clipmap_prog.specs.declared.grounds.Ground.{Ground}
use Rattle.clipmap_prog.specs.declared.grounds.Ground.TheVariants as ground

-- inputs with so many levels: tiles may have any, and a store has its own
abbrev pub land_with : ℕ → SourceView → Result Land Cause
land_with levels (Tiles tiles) = Ok (record { terrain = terrain_of (Tiles tiles); levels = levels })
land_with levels (Store store) =
    if store.stored.head.levels == levels
    then Ok (record { terrain = terrain_of (Store store); levels = levels })
    else Err (LevelsDiffer store.stored.head.levels levels)

-- the inputs of a run with so many levels
unfoldable pub land_reading : Verdict → List (List ℕ) → ℕ → Files → Reading Land
land_reading verdict names levels files =
    and_then (sources_reading verdict names files) (λ source. unfetched (land_with levels source))

-- a store with its bytes, as contracts see it
abbrev pub kept_view : Kept → StoreView
kept_view store = record {
  stored = record { head = store.head; terrain = store.terrain };
  length = length store.bytes;
}

-- inputs as contracts see them
abbrev pub ground_view : Ground → SourceView
ground_view (ground.Tiles inputs) = Tiles (inputs_view inputs)
ground_view (ground.Store store) = Store (kept_view store)
