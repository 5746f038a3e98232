-- Why a command is refused, and the line that says so.
use Rattle.std.specs.Prelude.{ℕ, List, [], ◌++◌, codes, decimal}
use Rattle.std.specs.Fmt.{signed_decimal}
use Rattle.hgt_tiles.specs.declared.tiles.TileFault.{TileFault}
use Rattle.hgt_tiles.specs.declared.tiles.TileFault.TheVariants as tile
use Rattle.mesh_check.specs.declared.verdict.Verdict.{Verdict}
use Rattle.clip_script.specs.declared.fault.ScriptFault.{ScriptFault}
use Rattle.clip_script.specs.declared.fault.ScriptFault.TheVariants as script
use Rattle.mosaic.specs.declared.fault.MosaicFault.{MosaicFault}
use Rattle.mosaic.specs.declared.fault.MosaicFault.TheVariants as mosaic
use Rattle.store_model.specs.declared.fault.StoreFault.{StoreFault}
use Rattle.terrain_lines.specs.Faults.{store_fault_line}
use Rattle.clipmap_prog.specs.Verdicts.{verdict_line}
use Rattle.clipmap_prog.specs.declared.fault.FileFault.{FileFault}
use Rattle.clipmap_prog.specs.declared.fault.FileFault.TheVariants as file
use Rattle.clipmap_prog.specs.declared.fault.Fault.{Fault}
use Rattle.clipmap_prog.specs.declared.fault.Fault.TheVariants as fault

-- why a command is refused: its words are no command, a word is no tile's name, a file or the tile in it is faulty, the
-- tiles make no terrain together, a file is no store, or it has another number of levels than was asked for, the mesh
-- of a file isn't watertight, a file is no script, or a swarm's script asks for more cells than it may
pub data Cause : Type 0 where
  Words : Cause
  BadName : List ℕ → Cause
  File : List ℕ → FileFault → Cause
  Tile : List ℕ → TileFault → Cause
  Mosaic : MosaicFault → Cause
  Store : StoreFault → Cause
  LevelsDiffer : ℕ → ℕ → Cause
  Mesh : Verdict → Cause
  Script : ScriptFault → Cause
  TooMuch : ℕ → ℕ → Cause

-- the line of a file of that name that can't be had
abbrev pub file_line : List ℕ → FileFault → List ℕ
file_line name file.Absent = codes "fault: Absent " ++ (name ++ codes "\n")
file_line name (file.TooLong length limit) =
    codes "fault: TooLong " ++ (name ++ (codes " " ++ (decimal length ++ (codes " " ++ (decimal limit ++ codes "\n")))))

-- the line of a file of that name that is no tile. Want of memory has none
abbrev pub tile_line : List ℕ → TileFault → List ℕ
tile_line name (tile.BadLength length) =
    codes "fault: BadLength " ++ (name ++ (codes " " ++ (decimal length ++ codes "\n")))
tile_line name tile.NoMemory = []

-- the line of tiles that make no terrain together. That there is no tile is no command's, and want of memory has none
abbrev pub mosaic_line : MosaicFault → List ℕ
mosaic_line mosaic.Empty = []
mosaic_line (mosaic.Twice corner) =
    codes "fault: Twice " ++ (signed_decimal corner.lat ++ (codes " " ++ (signed_decimal corner.lon ++ codes "\n")))
mosaic_line (mosaic.SidesDiffer first other) =
    codes "fault: SidesDiffer " ++ (decimal first ++ (codes " " ++ (decimal other ++ codes "\n")))
mosaic_line (mosaic.TooLarge samples) = codes "fault: TooLarge " ++ (decimal samples ++ codes "\n")
mosaic_line mosaic.NoMemory = []

-- the line of a file that is no script. Want of memory has none
abbrev pub script_line : ScriptFault → List ℕ
script_line (script.TooMany lines) = codes "fault: TooMany " ++ (decimal lines ++ codes "\n")
script_line (script.BadLine line) = codes "fault: BadLine " ++ (decimal line ++ codes "\n")
script_line script.NoMemory = []

-- the line of a fault
abbrev pub cause_line : Cause → List ℕ
cause_line Words = codes "fault: words\n"
cause_line (BadName word) = codes "fault: BadName " ++ (word ++ codes "\n")
cause_line (File name fault) = file_line name fault
cause_line (Tile name fault) = tile_line name fault
cause_line (Mosaic fault) = mosaic_line fault
cause_line (Store fault) = store_fault_line fault
cause_line (LevelsDiffer stored asked) =
    codes "fault: LevelsDiffer " ++ (decimal stored ++ (codes " " ++ (decimal asked ++ codes "\n")))
cause_line (Mesh verdict) = verdict_line verdict
cause_line (Script fault) = script_line fault
cause_line (TooMuch cells limit) =
    codes "fault: TooMuch " ++ (decimal cells ++ (codes " " ++ (decimal limit ++ codes "\n")))

-- the cause that a fault of the program's stands for
abbrev pub cause_of : Fault → Cause
cause_of fault.Words = Words
cause_of (fault.BadName word) = BadName word.now
cause_of (fault.File name which) = File name.now which
cause_of (fault.Tile name which) = Tile name.now which
cause_of (fault.Mosaic which) = Mosaic which
cause_of (fault.Store which) = Store which
cause_of (fault.LevelsDiffer stored asked) = LevelsDiffer stored asked
cause_of (fault.Mesh verdict) = Mesh verdict
cause_of (fault.Script which) = Script which
cause_of (fault.TooMuch cells limit) = TooMuch cells limit
