-- World blocks of 8 x 8 cells, and the torus tile and the place in the torus at which a cell is kept.
use Rattle.std.specs.Prelude.{ℕ, ◌/◌, ℤ, pos, ◌+ℤ◌, ◌*ℤ◌, Bool, ◌&&◌, ◌==◌, int_le}
use Rattle.clip_regions.specs.declared.region.Region.{Region}
use Rattle.clip_regions.specs.FloorDivision.{floor_div, floor_rem}
use Rattle.plan_model.specs.Window.{torus_side}
use Rattle.plan_model.specs.declared.tiles.TileId.{TileId}
use Rattle.plan_model.specs.declared.tiles.Piece.{Piece}

-- two whole numbers are one
unfoldable pub same_number : ℤ → ℤ → Bool
same_number a b = int_le a b && int_le b a

-- the block of a cell, as its column and row among the blocks
unfoldable pub block_of : ℤ → ℤ → ℤ × ℤ
block_of i j = (floor_div i 8, floor_div j 8)

-- the cells of a block
unfoldable pub block_cells : ℤ → ℤ → Region
block_cells bx by = record {
  x0 = pos 8 *ℤ bx;
  y0 = pos 8 *ℤ by;
  x1 = pos 8 *ℤ bx +ℤ pos 7;
  y1 = pos 8 *ℤ by +ℤ pos 7;
}

-- how many tiles a torus has on each side
unfoldable pub tiles_per_side : ℕ → ℕ
tiles_per_side k = torus_side k / 8

-- the torus tile of a block
unfoldable pub tile_of : ℕ → ℤ → ℤ → TileId
tile_of k bx by = record { tx = floor_rem bx (tiles_per_side k); ty = floor_rem by (tiles_per_side k) }

-- the torus tile of a cell: that of its place in the torus
unfoldable pub tile_of_cell : ℕ → ℤ → ℤ → TileId
tile_of_cell k i j = record { tx = floor_rem i (torus_side k) / 8; ty = floor_rem j (torus_side k) / 8 }

-- the place of a cell in the torus
unfoldable pub wrapped_place : ℕ → ℤ → ℤ → ℕ × ℕ
wrapped_place k i j = (floor_rem i (torus_side k), floor_rem j (torus_side k))

-- two tiles are one
unfoldable pub same_tile : TileId → TileId → Bool
same_tile t u = (t.tx == u.tx) && (t.ty == u.ty)

-- two pieces lie in one block
unfoldable pub same_block : Piece → Piece → Bool
same_block p q = same_number p.bx q.bx && same_number p.by q.by
