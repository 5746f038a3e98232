-- What INPUT words come to: tiles, read from the files of their names.
use Rattle.std.specs.Prelude.{ℕ, List, length, map as list_map, sum_by, nat_lt, if◌then◌else◌}
use Rattle.std.specs.Prelude.{Option, Some, None, Result, Ok, Err}
use Rattle.std.specs.FinMap as map
use Rattle.outer_shelf.specs.Outside.{Files}
use Rattle.terrain_model.specs.Terrain.{Terrain}
use Rattle.terrain_model.specs.Name.{corner_of_word}
use Rattle.terrain_model.specs.Mosaic.{first_side, tiles_terrain}
use Rattle.terrain_model.specs.declared.Corner.{Corner}
use Rattle.hgt_tiles.specs.TileView.{TileView, placed, tile_of_bytes}
use Rattle.hgt_tiles.specs.declared.tiles.TileFault.TheVariants.{BadLength}
use Rattle.mosaic.specs.Faults.{mosaic_fault}
use Rattle.mosaic.specs.declared.fault.MosaicFault.{MosaicFault}
use Rattle.clipmap_prog.specs.Faults.{Cause, BadName, File, Tile, Mosaic}
use Rattle.clipmap_prog.specs.declared.inputs.Inputs.{Inputs}
use Rattle.clipmap_prog.specs.declared.tile_files.Named.{Named}
use Rattle.clipmap_prog.specs.declared.fault.FileFault.TheVariants.{Absent, TooLong}
use Rattle.clipmap_prog.specs.Reading.{Reading, unfetched, fetched, and_then, each_of}

-- the most bytes that an HGT file may have
abbrev pub hgt_limit : ℕ
hgt_limit = 25934402

-- tiles that were read: their terrain, how many they are, the samples of a side of each, and the voids of all
pub record TilesView : Type 0 where
  pub terrain : Terrain
  pub number : ℕ
  pub side : ℕ
  pub voids : ℕ

-- inputs that were read
pub data InputsView : Type 0 where
  Tiles : TilesView → InputsView

-- the terrain of inputs
abbrev pub terrain_of : InputsView → Terrain
terrain_of (Tiles tiles) = tiles.terrain

-- a name of a tile with the corner that it gives
pub record NamedTile : Type 0 where
  pub name : List ℕ
  pub corner : Corner

-- the name of a tile, judged
abbrev named_by : List ℕ → Option Corner → Result NamedTile Cause
named_by word None = Err (BadName word)
named_by word (Some corner) = Ok (record { name = word; corner = corner })

abbrev pub name_reading : List ℕ → Reading NamedTile
name_reading word = unfetched (named_by word (corner_of_word word))

-- the tile of a file's bytes, if their length is that of a tile
abbrev pub tile_of_length : List ℕ → ℕ → Option TileView → Result TileView Cause
tile_of_length name length None = Err (Tile name (BadLength length))
tile_of_length name length (Some tile) = Ok tile

-- the tile of a file, if it is there and no longer than the limit
abbrev pub tile_of_file : NamedTile → Option (List ℕ) → Result TileView Cause
tile_of_file named None = Err (File named.name Absent)
tile_of_file named (Some bytes) =
    if nat_lt hgt_limit (length bytes) then Err (File named.name (TooLong (length bytes) hgt_limit))
    else tile_of_length named.name (length bytes) (tile_of_bytes named.corner bytes)

-- the tile of the file of a name, by one fetch
abbrev pub tile_reading : Files → NamedTile → Reading TileView
tile_reading files named = fetched (tile_of_file named (map.get files named.name))

-- the inputs that tiles make together: the terrain of the set, how many they are, their side, and all of their voids
abbrev pub inputs_of : List TileView → InputsView
inputs_of tiles = Tiles (record {
  terrain = tiles_terrain (list_map placed tiles);
  number = length tiles;
  side = first_side (list_map placed tiles);
  voids = sum_by (λ tile. tile.voids) tiles;
})

-- the same, where the set has no fault
abbrev joined_by : List TileView → Option MosaicFault → Result InputsView Cause
joined_by tiles None = Ok (inputs_of tiles)
joined_by tiles (Some fault) = Err (Mosaic fault)

-- tiles put together: a corner that two of them have, sides that differ and too many samples are faults of the set
abbrev pub joined : List TileView → Result InputsView Cause
joined tiles = joined_by tiles (mosaic_fault tiles)

-- named tiles: each file is fetched and read in its turn, and then the set is judged
abbrev pub named_reading : Files → List NamedTile → Reading InputsView
named_reading files named = and_then (each_of (tile_reading files) named) (λ tiles. unfetched (joined tiles))

-- tiles by their names: all names are judged before any file is fetched
abbrev pub tiles_reading : List (List ℕ) → Files → Reading InputsView
tiles_reading names files = and_then (each_of name_reading names) (named_reading files)

-- a name and its corner as contracts see them
abbrev pub named_view : Named → NamedTile
named_view named = record { name = named.name.now; corner = named.corner }

-- inputs as contracts see them
abbrev pub inputs_view : Inputs → InputsView
inputs_view inputs = Tiles (record {
  terrain = inputs.grid;
  number = inputs.number;
  side = inputs.side;
  voids = inputs.voids;
})
