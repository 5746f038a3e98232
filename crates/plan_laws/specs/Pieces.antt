-- What is true of the pieces of a region, as statements: each is the contract of a law of this crate.
use Rattle.std.specs.Prelude.{◌≡◌, ℕ, ◌*◌, ◌≤◌, true, false, IsTrue, ℤ, pos, ◌+ℤ◌, length, if◌then◌else◌}
use Rattle.std.specs.Int.{int_gap}
use Rattle.std.specs.List.{All, AllPairs, Contains}
use Rattle.clip_regions.specs.declared.region.Region.{Region}
use Rattle.clip_regions.specs.FloorDivision.{floor_div}
use Rattle.clip_regions.specs.Regions.{contains, is_empty, meet, holds}
use Rattle.plan_model.specs.Window.{window}
use Rattle.plan_model.specs.Blocks.{block_cells, tile_of, tile_of_cell, same_block}
use Rattle.plan_model.specs.Strips.{pieces}
use Rattle.plan_model.specs.declared.tiles.Piece.{Piece}

-- the cells of each piece are those that the region shares with the piece's block
abbrev pub PiecesAreMeets : Type 0
PiecesAreMeets = (r : Region) → All (λ piece. piece.cells ≡ meet r (block_cells piece.bx piece.by)) (pieces r)

-- each piece has a cell
abbrev pub PiecesHaveCells : Type 0
PiecesHaveCells = (r : Region) → All (λ piece. is_empty piece.cells ≡ false) (pieces r)

-- each piece lies in its block
abbrev pub PiecesInBlocks : Type 0
PiecesInBlocks = (r : Region) → All (λ piece. IsTrue (holds (block_cells piece.bx piece.by) piece.cells)) (pieces r)

-- each piece lies in the region
abbrev pub PiecesInRegion : Type 0
PiecesInRegion = (r : Region) → All (λ piece. IsTrue (holds r piece.cells)) (pieces r)

-- all cells of a piece have the torus tile of its block
abbrev pub HasOneTile : ℕ → Piece → Type 0
HasOneTile k piece =
    (i j : ℤ) → IsTrue (contains piece.cells i j) → tile_of_cell k i j ≡ tile_of k piece.bx piece.by

abbrev pub PiecesInTiles : Type 0
PiecesInTiles = (k : ℕ) (r : Region) → 3 ≤ k → All (HasOneTile k) (pieces r)

-- two pieces of one region have different blocks
abbrev pub DifferentBlocks : Type 0
DifferentBlocks = (r : Region) → AllPairs (λ p q. same_block p q ≡ false) (pieces r)

-- pieces of one region that have one block are one piece
abbrev pub OnePieceABlock : Type 0
OnePieceABlock =
    (r : Region) (p q : Piece) → Contains (pieces r) p → Contains (pieces r) q → same_block p q ≡ true → p ≡ q

-- how many blocks lie, on one axis, from that of the first to that of the last of some numbers
unfoldable pub blocks_between : ℤ → ℤ → ℕ
blocks_between first last = int_gap (floor_div first 8) (floor_div last 8 +ℤ pos 1)

-- how many pieces a region has: the columns of blocks that it meets times the rows
unfoldable pub piece_count : Region → ℕ
piece_count r = if is_empty r then 0 else blocks_between r.x0 r.x1 * blocks_between r.y0 r.y1

-- the pieces are as many as their count says
abbrev pub PiecesAreCounted : Type 0
PiecesAreCounted = (r : Region) → length (pieces r) ≡ piece_count r

-- a region in a window of at most 255 columns and rows has at most 33 times 33 pieces
abbrev pub WindowsHaveFewPieces : Type 0
WindowsHaveFewPieces =
    (k level : ℕ) (x y : ℤ) (r : Region) → k ≤ 8 → IsTrue (holds (window k level x y) r) → length (pieces r) ≤ 1089
