-- Blocks, tiles and wrapped places; pieces and strips; what a region meets.
use Rattle.std.proofs.Common.{◌≡◌, ℕ, ◌+◌, ◌/◌, ◌^◌, ◌<◌, ◌≤◌, Bool, true, false, ◌==◌, ℤ, pos, negsuc, ◌+ℤ◌, ◌*ℤ◌, ◌≤ℤ◌, ◌∷◌, map, Some, refl, ap, sym, ◌∙◌, inl, inr, ◌⊎◌, arith}
use Rattle.std.proofs.lemmas.Int.{ints}
use Rattle.std.proofs.lemmas.Bool.{and_parts, and_from, or_cases, eqb-true, eq-eqb}
use Rattle.std.proofs.Math.Pow.{pow_mono}
use Rattle.std.specs.List.{count_by, range_with_len}
use mathlib.Core.Path.{ap₂}
use Rattle.clip_regions.specs.declared.region.Region.{Region}
use Rattle.clip_regions.specs.FloorDivision.{floor_div, floor_rem}
use Rattle.clip_regions.specs.Regions.{contains, holds}
use Rattle.plan_model.specs.Window.{torus_side}
use Rattle.plan_model.specs.Blocks.{same_number, block_cells, tiles_per_side, tile_of, tile_of_cell, wrapped_place, same_tile, same_block}
use Rattle.plan_model.specs.Strips.{strips, current_strip, pieces, hull}
use Rattle.plan_model.specs.Tiles.{tiles, meets_tile}
use Rattle.plan_model.specs.Laws.{IsFilledIn, StripsPartition, PiecesPartition, GrowsToRectangle, OneTileABlock, DistinctPlaces}
use Rattle.plan_model.specs.declared.tiles.TileId.{TileId}
use Rattle.plan_model.specs.declared.tiles.Piece.{Piece}
use Rattle.plan_laws.specs.Pieces.{PiecesInBlocks, PiecesInRegion, OnePieceABlock}
use Rattle.plan_laws.specs.Finished.{FinishedAreFound}
use Rattle.plan_laws.specs.Tiles.{TilesMetByCells}
use Rattle.plan_holds.proofs.Members.{Among, among_all, contained, first_among, mapped, flat, ranged, counted, count_of}
use Rattle.plan_holds.proofs.Cells.{none_in_empty, held_in, holding}
use Rattle.plan_model.proofs.CoverLaws.{one_if, count_cons}
use Rattle.clip_regions.proofs.Cells.{Lies, lies}
use Rattle.clip_regions.proofs.Quotients.{rem_below}

-- the laws of windows, strips, pieces and tiles that these proofs stand on
pub record Known : Type 0 where
  pub fit : DistinctPlaces
  pub one_tile : OneTileABlock
  pub strips : StripsPartition
  pub pieces : PiecesPartition
  pub grows : GrowsToRectangle
  pub in_region : PiecesInRegion
  pub in_blocks : PiecesInBlocks
  pub one_block : OnePieceABlock
  pub found : FinishedAreFound
  pub tiles : TilesMetByCells

-- ---- tests of two numbers, tiles and blocks
pub one_number : (a b : ℤ) → same_number a b ≡ true → a ≡ b
unfolding same_number
one_number a b t = grind (arith, ints)

pub number_itself : (a b : ℤ) → a ≡ b → same_number a b ≡ true
unfolding same_number
number_itself a b e = grind (arith, ints)

abbrev tile_at : ℕ → ℕ → TileId
tile_at x y = record { tx = x; ty = y }

pub one_tile : (t u : TileId) → same_tile t u ≡ true → t ≡ u
unfolding same_tile
one_tile t u e =
    let parts : ((t.tx == u.tx) ≡ true) × ((t.ty == u.ty) ≡ true) = and_parts (t.tx == u.tx) (t.ty == u.ty) e in
    ap₂ tile_at (eqb-true t.tx u.tx parts.0) (eqb-true t.ty u.ty parts.1)

pub tile_itself : (t u : TileId) → t ≡ u → same_tile t u ≡ true
unfolding same_tile
tile_itself t u e =
    and_from (t.tx == u.tx) (t.ty == u.ty) (eq-eqb t.tx u.tx (ap (λ (s : TileId). s.tx) e)) (eq-eqb t.ty u.ty (ap (λ (s : TileId). s.ty) e))

pub one_block : (p q : Piece) → same_block p q ≡ true → (p.bx ≡ q.bx) × (p.by ≡ q.by)
unfolding same_block
one_block p q t =
    let parts : (same_number p.bx q.bx ≡ true) × (same_number p.by q.by ≡ true) = and_parts (same_number p.bx q.bx) (same_number p.by q.by) t in
    (one_number p.bx q.bx parts.0, one_number p.by q.by parts.1)

pub block_itself : (p q : Piece) → p.bx ≡ q.bx → p.by ≡ q.by → same_block p q ≡ true
unfolding same_block
block_itself p q e d =
    and_from (same_number p.bx q.bx) (same_number p.by q.by) (number_itself p.bx q.bx e) (number_itself p.by q.by d)

pub one_block_tile : (k : ℕ) (p q : Piece) → same_block p q ≡ true → tile_of k p.bx p.by ≡ tile_of k q.bx q.by
one_block_tile k p q t = let same : (p.bx ≡ q.bx) × (p.by ≡ q.by) = one_block p q t in ap₂ (tile_of k) same.0 same.1

-- ---- places and tiles
-- two cells with one place in the torus lie in one tile
pub one_place_tile : (k : ℕ) (i j i' j' : ℤ) → wrapped_place k i j ≡ wrapped_place k i' j' → tile_of_cell k i j ≡ tile_of_cell k i' j'
unfolding wrapped_place tile_of_cell
one_place_tile k i j i' j' e =
    ap₂ tile_at (ap (λ (p : ℕ × ℕ). p.0 / 8) e) (ap (λ (p : ℕ × ℕ). p.1 / 8) e)

below_eight : (a : ℤ) → floor_rem a 8 < 8
unfolding floor_rem
below_eight (pos n) = omega arith
below_eight (negsuc n) = omega arith

eights_and_rest : (a : ℤ) → a ≡ pos 8 *ℤ floor_div a 8 +ℤ pos (floor_rem a 8)
unfolding floor_div floor_rem
eights_and_rest (pos n) = omega (arith, ints)
eights_and_rest (negsuc n) = omega (arith, ints)

some_tiles : (k : ℕ) → 4 ≤ k → 0 < tiles_per_side k
unfolding tiles_per_side torus_side
some_tiles k h = let large : 2 ^ 4 ≤ 2 ^ k = pow_mono {i = 4} {j = k} h in omega arith

-- the tile of a block is a tile of the torus
pub tile_there : (k : ℕ) (bx by : ℤ) → 4 ≤ k → Among (tile_of k bx by) (tiles k)
unfolding tiles tile_of
tile_there k bx by h =
    let column : floor_rem bx (tiles_per_side k) < tiles_per_side k = rem_below bx (tiles_per_side k) (some_tiles k h) in
    let row : floor_rem by (tiles_per_side k) < tiles_per_side k = rem_below by (tiles_per_side k) (some_tiles k h) in
    flat (λ ty. map (λ tx. tile_at tx ty) (range_with_len 0 (tiles_per_side k))) (range_with_len 0 (tiles_per_side k)) (floor_rem by (tiles_per_side k)) (tile_at (floor_rem bx (tiles_per_side k)) (floor_rem by (tiles_per_side k))) (ranged 0 (tiles_per_side k) (floor_rem by (tiles_per_side k)) (omega arith) (omega arith)) (mapped (λ tx. tile_at tx (floor_rem by (tiles_per_side k))) (range_with_len 0 (tiles_per_side k)) (floor_rem bx (tiles_per_side k)) (ranged 0 (tiles_per_side k) (floor_rem bx (tiles_per_side k)) (omega arith) (omega arith)))

-- a number lies among the eight of a block where that is its block
eighth : (b z : ℤ) → (pos 8 *ℤ b) ≤ℤ z → z ≤ℤ (pos 8 *ℤ b +ℤ pos 7) → floor_div z 8 ≡ b
eighth b z low high =
    let below : floor_rem z 8 < 8 = below_eight z in
    let whole : z ≡ pos 8 *ℤ floor_div z 8 +ℤ pos (floor_rem z 8) = eights_and_rest z in
    omega (arith, ints)

pub block_of_cell : (bx by i j : ℤ) → contains (block_cells bx by) i j ≡ true → (floor_div i 8 ≡ bx) × (floor_div j 8 ≡ by)
unfolding block_cells
block_of_cell bx by i j t =
    let there : Lies (block_cells bx by) i j = lies (block_cells bx by) i j t in
    (eighth bx i there.west there.east, eighth by j there.north there.south)

-- a cell of a block lies in the block's tile
pub block_tile : OneTileABlock → (k : ℕ) (bx by i j : ℤ) → 3 ≤ k → contains (block_cells bx by) i j ≡ true → tile_of_cell k i j ≡ tile_of k bx by
block_tile law k bx by i j large t =
    let same : (floor_div i 8 ≡ bx) × (floor_div j 8 ≡ by) = block_of_cell bx by i j t in
    law k i j large ∙ ap₂ (tile_of k) same.0 same.1

-- ---- pieces
pub piece_in_block : Known → (r : Region) (p : Piece) → Among p (pieces r) → holds (block_cells p.bx p.by) p.cells ≡ true
piece_in_block known r p h =
    among_all (λ (q : Piece). holds (block_cells q.bx q.by) q.cells ≡ true) (pieces r) p (known.in_blocks r) h

-- each cell of a piece lies in the region and in the piece's block
pub piece_cell : Known → (r : Region) (p : Piece) (i j : ℤ) → Among p (pieces r) → contains p.cells i j ≡ true → (contains r i j ≡ true) × (contains (block_cells p.bx p.by) i j ≡ true)
piece_cell known r p i j h t =
    (held_in r p.cells i j (among_all (λ (q : Piece). holds r q.cells ≡ true) (pieces r) p (known.in_region r) h) t, held_in (block_cells p.bx p.by) p.cells i j (piece_in_block known r p h) t)

-- two pieces of a region with one block are one
pub one_piece : Known → (r : Region) (p q : Piece) → Among p (pieces r) → Among q (pieces r) → same_block p q ≡ true → p ≡ q
one_piece known r p q h k t = known.one_block r p q (contained (pieces r) p h) (contained (pieces r) q k) t

-- two pieces of a region with one cell have one block
pub shared_cell : Known → (r : Region) (p q : Piece) (i j : ℤ) → Among p (pieces r) → Among q (pieces r) → contains p.cells i j ≡ true → contains q.cells i j ≡ true → same_block p q ≡ true
shared_cell known r p q i j h k t u =
    let here : (floor_div i 8 ≡ p.bx) × (floor_div j 8 ≡ p.by) = block_of_cell p.bx p.by i j (piece_cell known r p i j h t).1 in
    let there : (floor_div i 8 ≡ q.bx) × (floor_div j 8 ≡ q.by) = block_of_cell q.bx q.by i j (piece_cell known r q i j k u).1 in
    block_itself p q (sym here.0 ∙ there.0) (sym here.1 ∙ there.1)

-- each cell of a region lies in a piece
pub piece_with : Known → (r : Region) (i j : ℤ) → contains r i j ≡ true → (p : Piece) × Among p (pieces r) × (contains p.cells i j ≡ true)
piece_with known r i j t =
    let one : count_by (λ (p : Piece). contains p.cells i j) (pieces r) ≡ 1 = known.pieces r i j ∙ ap one_if t in
    count_of (λ (p : Piece). contains p.cells i j) (pieces r) (omega (arith, one))

-- a region meets the tile of each of its cells
pub meets : TilesMetByCells → (k : ℕ) (r : Region) (t : TileId) (i j : ℤ) → 3 ≤ k → contains r i j ≡ true → tile_of_cell k i j ≡ t → meets_tile k r t ≡ true
meets law k r t i j large here e = (law k r t large).1 (i, j, here, e)

-- ---- strips
in_window : (b : Bool) → 1 ≤ one_if b → b ≡ true
in_window true h = refl
in_window false h = absurd (omega arith)

at_most_one : (b : Bool) → one_if b ≤ 1
at_most_one true = omega arith
at_most_one false = omega arith

-- a cell of the current strip lies in the window and not in the filled region
pub strip_cell : StripsPartition → (f w s : Region) (i j : ℤ) → IsFilledIn f w → current_strip f w ≡ Some s → contains s i j ≡ true → (contains w i j ≡ true) × (contains f i j ≡ true → ⊥)
unfolding current_strip
strip_cell law f w s i j inside e t =
    let some : 1 ≤ count_by (λ (r : Region). contains r i j) (strips f w) = counted (λ (r : Region). contains r i j) (strips f w) s (first_among (strips f w) s e) t in
    let sum : count_by (λ (r : Region). contains r i j) (f ∷ strips f w) ≡ one_if (contains f i j) + count_by (λ (r : Region). contains r i j) (strips f w) = count_cons (λ (r : Region). contains r i j) f (strips f w) in
    let all : count_by (λ (r : Region). contains r i j) (f ∷ strips f w) ≡ one_if (contains w i j) = law f w inside i j in
    (in_window (contains w i j) (omega (arith, some, sum, all)), λ (h : contains f i j ≡ true). let one : one_if (contains f i j) ≡ 1 = ap one_if h in let most : one_if (contains w i j) ≤ 1 = at_most_one (contains w i j) in absurd (omega (arith, some, sum, all, one, most)))

-- what a filled region and its current strip become lies in the window
pub hull_cell : Known → (f w s : Region) (i j : ℤ) → IsFilledIn f w → current_strip f w ≡ Some s → contains (hull f s) i j ≡ true → (contains f i j ≡ true) ⊎ (contains s i j ≡ true)
hull_cell known f w s i j inside e t =
    or_cases (contains f i j) (contains s i j) (sym (known.grows f w s inside e i j) ∙ t)

-- a filled region in its window, cell by cell
pub filled_cell : (f w : Region) (i j : ℤ) → IsFilledIn f w → contains f i j ≡ true → contains w i j ≡ true
filled_cell f w i j (inl e) t = absurd (none_in_empty f i j e t)
filled_cell f w i j (inr h) t = held_in w f i j h t

pub filled_in : (f w : Region) → ((i j : ℤ) → contains f i j ≡ true → contains w i j ≡ true) → IsFilledIn f w
filled_in f w each = inr (holding w f each)

pub hull_in : Known → (f w s : Region) → IsFilledIn f w → current_strip f w ≡ Some s → IsFilledIn (hull f s) w
hull_in known f w s inside e =
    filled_in (hull f s) w (λ i j t. elim (hull_cell known f w s i j inside e t) [
      | inl h ↦ filled_cell f w i j inside h
      | inr h ↦ (strip_cell known.strips f w s i j inside e h).0
    ])
