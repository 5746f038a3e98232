-- What INPUT words come to for a command that takes stores too.
use Rattle.std.specs.Prelude.{ℕ, List, Option, Some, None, Result, Ok, Err}
use Rattle.std.specs.FinMap as map
use Rattle.outer_shelf.specs.Outside.{Files}
use Rattle.terrain_model.specs.Terrain.{Terrain}
use Rattle.clipmap_prog.specs.Faults.{Cause}
use Rattle.clipmap_prog.specs.Inputs.{InputsView, Tiles as tiles_of, inputs_view, tiles_reading}
use Rattle.clipmap_prog.specs.Reading.{Reading, unfetched, fetched, and_then}
use Rattle.clipmap_prog.specs.Stores.{StoreView, Verdict, store_name, store_of_file, store_view}
use Rattle.clipmap_prog.specs.declared.sources.Source.{Source}
use Rattle.clipmap_prog.specs.declared.sources.Source.TheVariants as source

-- inputs that were read: tiles, or a store
pub data SourceView : Type 0 where
  Tiles : InputsView → SourceView
  Store : StoreView → SourceView

-- their terrain
abbrev pub terrain_of : SourceView → Terrain
terrain_of (Tiles (tiles_of tiles)) = tiles.terrain
terrain_of (Store store) = store.stored.terrain

-- a store as inputs
abbrev pub as_store : Result StoreView Cause → Result SourceView Cause
as_store (Ok store) = Ok (Store store)
as_store (Err cause) = Err cause

-- the store of a name, by one fetch, or tiles by their names
abbrev pub sources_by : Verdict → List (List ℕ) → Files → Option (List ℕ) → Reading SourceView
sources_by verdict names files (Some name) = fetched (as_store (store_of_file name verdict (map.get files name)))
sources_by verdict names files None = and_then (tiles_reading names files) (λ tiles. unfetched (Ok (Tiles tiles)))

-- the inputs: a store by the right verdict on its file, or tiles
abbrev pub sources_reading : Verdict → List (List ℕ) → Files → Reading SourceView
sources_reading verdict names files = sources_by verdict names files (store_name names)

-- inputs as contracts see them
abbrev pub source_view : Source → SourceView
source_view (source.Tiles inputs) = Tiles (inputs_view inputs)
source_view (source.Store file) = Store (store_view file)
