-- What is read for a patch.
use Rattle.std.specs.Prelude.{◌≡◌, ℕ, ◌+◌, ◌^◌, ℤ, pos, neg_ℤ, ◌≤ℤ◌, ◌-ℤ◌, ◌*ℤ◌, false, IsTrue}
use Rattle.clip_regions.specs.declared.region.Region.{Region}
use Rattle.clip_regions.specs.Regions.{is_empty, holds}
use Rattle.terrain_model.specs.Terrain.{Terrain, level_height}
use Rattle.plan_model.specs.Blocks.{block_cells, tile_of_cell}
use Rattle.plan_model.specs.declared.tiles.Piece.{Piece}
use Rattle.plan_laws.specs.Needs.{patch_of}
use Rattle.plan_holds.specs.Apart.{HasCell}
use Rattle.torus_grid.specs.Grids.{Grid, is_home, height_at}
use Rattle.four_point.specs.declared.patch.Patch.{Patch}
use Rattle.four_point.specs.Patches.{patch_height}
use Rattle.clip_book.specs.Tiles.{seen}

-- a piece has some cells, and they lie in its block
pub record IsInBlock (piece : Piece) : Type 0 where
  pub some : is_empty piece.cells ≡ false
  pub held : IsTrue (holds (block_cells piece.bx piece.by) piece.cells)

-- the patch of a piece's block has what is seen of a region of a torus
pub record IsSeenPatch (grid : Grid) (region : Region) (piece : Piece) (patch : Patch) : Type 0 where
  pub column : patch.i0 ≡ pos 4 *ℤ piece.bx -ℤ pos 1
  pub row : patch.j0 ≡ pos 4 *ℤ piece.by -ℤ pos 1
  pub heights : (i j : ℤ) → HasCell (patch_of piece.bx piece.by) i j → patch_height patch i j ≡ seen grid region i j

-- a cell of a level lies in a tile at home, and has the level height there
pub record IsReadable (terrain : Terrain) (grid : Grid) (level : ℕ) (i j : ℤ) : Type 0 where
  pub home : IsTrue (is_home grid (tile_of_cell grid.k i j))
  pub right : height_at grid i j ≡ level_height terrain level i j

-- a block's column or row whose cells are numbers of 32 bits
pub record IsBlockPlace (block : ℤ) : Type 0 where
  pub low : neg_ℤ (pos (2 ^ 28 + 1)) ≤ℤ block
  pub high : block ≤ℤ pos (2 ^ 28)
