-- The laws of the torus tiles that a region meets.
use Rattle.std.proofs.Common.{◌≡◌, ℕ, ◌+◌, ◌≤◌, Bool, true, false, cond, ◌==◌, ℤ, List, [], ◌∷◌, refl, ap, sym, ◌∙◌, subst, inl, inr, arith, eq-eqb, zero-add}
use Rattle.std.proofs.lemmas.Bool.{cases_Bool, and_parts, and_from, or_left, or_right, eqb-true}
use Rattle.std.proofs.lemmas.List.Folds.{Any-from_list_any, list_any-from_Any}
use Rattle.std.proofs.lemmas.List.Sums.{sum_by-append}
use Rattle.std.specs.List.{Any, list_any, count_by}
use mathlib.Core.Path.{ap₂}
use Rattle.clip_regions.specs.declared.region.Region.{Region}
use Rattle.clip_regions.specs.Regions.{contains, is_empty, holds}
use Rattle.plan_model.specs.Blocks.{same_tile, tile_of, tile_of_cell}
use Rattle.plan_model.specs.Strips.{pieces}
use Rattle.plan_model.specs.Tiles.{meets_tile}
use Rattle.plan_model.specs.Laws.{PiecesPartition}
use Rattle.plan_model.specs.declared.tiles.Piece.{Piece}
use Rattle.plan_model.specs.declared.tiles.TileId.{TileId}
use Rattle.plan_laws.specs.Pieces.{PiecesHaveCells, PiecesInRegion, PiecesInTiles}
use Rattle.plan_laws.specs.Tiles.{HasCellOfTile, TilesMetByCells}
use Rattle.clip_regions.proofs.Cells.{has_cell, lying, corner_lies, within, held_cell}

-- ---- one tile
abbrev tile : ℕ → ℕ → TileId
tile tx ty = record { tx = tx; ty = ty }

pub same_from_tile : (t u : TileId) → same_tile t u ≡ true → t ≡ u
unfolding same_tile
same_from_tile t u e =
    let parts : ((t.tx == u.tx) ≡ true) × ((t.ty == u.ty) ≡ true) = and_parts (t.tx == u.tx) (t.ty == u.ty) e in
    ap₂ tile (eqb-true t.tx u.tx parts.0) (eqb-true t.ty u.ty parts.1)

pub tile_is_itself : (t : TileId) → same_tile t t ≡ true
unfolding same_tile
tile_is_itself t = and_from (t.tx == t.tx) (t.ty == t.ty) (eq-eqb t.tx t.tx refl) (eq-eqb t.ty t.ty refl)

-- ---- a tile that is met has a cell of the region
first_cell : (r : Region) (p : Piece) → is_empty p.cells ≡ false → holds r p.cells ≡ true → contains r p.cells.x0 p.cells.y0 ≡ true
first_cell r p some inside =
    lying r p.cells.x0 p.cells.y0 (held_cell r p.cells (within r p.cells inside some) p.cells.x0 p.cells.y0 (corner_lies p.cells (has_cell p.cells some)))

cell_of_met : PiecesHaveCells → PiecesInRegion → PiecesInTiles → (k : ℕ) (r : Region) (t : TileId) → 3 ≤ k → Any (λ (p : Piece). same_tile (tile_of k p.bx p.by) t ≡ true) (pieces r) → HasCellOfTile k r t
cell_of_met cells region tiles k r t h (n, p, in', at, same) =
    let some : is_empty p.cells ≡ false = subst (λ (q : Piece). is_empty q.cells ≡ false) at (cells r n p in') in
    let inside : holds r p.cells ≡ true = subst (λ (q : Piece). holds r q.cells ≡ true) at (region r n p in') in
    let tiled : (i j : ℤ) → contains p.cells i j ≡ true → tile_of_cell k i j ≡ tile_of k p.bx p.by = subst (λ (q : Piece). (i j : ℤ) → contains q.cells i j ≡ true → tile_of_cell k i j ≡ tile_of k q.bx q.by) at (tiles k r h n p in') in
    (p.cells.x0, p.cells.y0, first_cell r p some inside, tiled p.cells.x0 p.cells.y0 (lying p.cells p.cells.x0 p.cells.y0 (corner_lies p.cells (has_cell p.cells some))) ∙ same_from_tile (tile_of k p.bx p.by) t same)

-- ---- a cell of the region lies in a piece, whose tile is the cell's
count_cons : {X : Type 0} (p : X → Bool) (x : X) (xs : List X) → count_by p (x ∷ xs) ≡ cond (p x) 1 0 + count_by p xs
count_cons p x xs =
    sum_by-append (λ y. cond (p y) 1 0) (x ∷ []) xs ∙ ap (λ (n : ℕ). n + count_by p xs) (zero-add (cond (p x) 1 0))

counted : {X : Type 0} (p : X → Bool) (xs : List X) → count_by p xs ≡ 1 → list_any p xs ≡ true
counted p [] e = absurd (omega arith)
counted p (x ∷ xs) e =
    elim (cases_Bool (p x)) [
      | inl t ↦ or_left (p x) (list_any p xs) t
      | inr t ↦ or_right (p x) (list_any p xs) (counted p xs (sym (count_cons p x xs ∙ ap (λ (b : Bool). cond b 1 0 + count_by p xs) t ∙ zero-add (count_by p xs)) ∙ e))
    ]

piece_of_cell : PiecesPartition → (r : Region) (i j : ℤ) → contains r i j ≡ true → Any (λ (p : Piece). contains p.cells i j ≡ true) (pieces r)
piece_of_cell law r i j t =
    Any-from_list_any (λ (p : Piece). contains p.cells i j) (pieces r) (counted (λ (p : Piece). contains p.cells i j) (pieces r) (law r i j ∙ ap (λ (b : Bool). cond b 1 0) t))

met_of_cell : PiecesPartition → PiecesInTiles → (k : ℕ) (r : Region) (t : TileId) → 3 ≤ k → HasCellOfTile k r t → list_any (λ (p : Piece). same_tile (tile_of k p.bx p.by) t) (pieces r) ≡ true
met_of_cell law tiles k r t h (i, j, inside, same) =
    let piece : Any (λ (p : Piece). contains p.cells i j ≡ true) (pieces r) = piece_of_cell law r i j inside in
    list_any-from_Any (λ (p : Piece). same_tile (tile_of k p.bx p.by) t) (pieces r) (at_piece piece)
  where
    at_piece : Any (λ (p : Piece). contains p.cells i j ≡ true) (pieces r) → Any (λ (p : Piece). same_tile (tile_of k p.bx p.by) t ≡ true) (pieces r)
    at_piece (n, p, in', at, there) =
        let tiled : (i j : ℤ) → contains p.cells i j ≡ true → tile_of_cell k i j ≡ tile_of k p.bx p.by = subst (λ (q : Piece). (i j : ℤ) → contains q.cells i j ≡ true → tile_of_cell k i j ≡ tile_of k q.bx q.by) at (tiles k r h n p in') in
        (n, p, in', at, ap (λ (u : TileId). same_tile u t) (sym (tiled i j there) ∙ same) ∙ tile_is_itself t)

pub tiles_met_by_cells : PiecesPartition → PiecesHaveCells → PiecesInRegion → PiecesInTiles → TilesMetByCells
unfolding meets_tile
tiles_met_by_cells law cells region tiles k r t h =
    (λ (m : list_any (λ (p : Piece). same_tile (tile_of k p.bx p.by) t) (pieces r) ≡ true). cell_of_met cells region tiles k r t h (Any-from_list_any (λ (p : Piece). same_tile (tile_of k p.bx p.by) t) (pieces r) m), met_of_cell law tiles k r t h)
