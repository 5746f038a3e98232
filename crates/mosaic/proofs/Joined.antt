-- The grid that the painted tiles make.
use Rattle.std.proofs.Common.{◌≡◌, ℕ, ℤ, List, map, flat_map, ap, ◌∙◌, [], None}
use Rattle.std.specs.List.{range_with_len}
use Rattle.std.specs.List.Sorted.{IsPermutation}
use Rattle.terrain_model.specs.Terrain.{Terrain}
use Rattle.terrain_model.specs.Mosaic.{Bounds, bounds_of, mosaic_width, mosaic_height, mosaic_sample, mosaic_terrain, tiles_terrain}
use Rattle.hgt_tiles.specs.TileView.{TileView, placed}
use Rattle.mosaic.specs.Faults.{twin_after}
use Rattle.mosaic.specs.Painting.{IsInOrder, painted, painted_row}
use Rattle.mosaic.proofs.Owners.{painted_is_owned}

terrain_by : (w h : ℕ) (table : List ℤ) (grid : Terrain) → grid.width ≡ w → grid.height ≡ h → grid.table ≡ table → grid ≡ record { width = w; height = h; table = table }
terrain_by w h table grid e f g = λ t. record { width = e t; height = f t; table = g t }

rows_are : (bounds : Bounds) (tiles sorted : List TileView) → IsPermutation tiles sorted → IsInOrder sorted → twin_after [] tiles ≡ None → flat_map (painted_row bounds sorted) (range_with_len 0 (mosaic_height bounds)) ≡ (mosaic_terrain bounds (map placed tiles)).table
unfolding painted_row mosaic_terrain
rows_are bounds tiles sorted moved order none =
    let each : (x y : ℕ) → painted bounds sorted x y ≡ mosaic_sample bounds (map placed tiles) x y = λ x y. painted_is_owned bounds tiles sorted x y moved order none in
    λ t. flat_map (λ y. map (λ x. each x y t) (range_with_len 0 (mosaic_width bounds))) (range_with_len 0 (mosaic_height bounds))

pub joined_is : (extent : Bounds) (tiles sorted seen : List TileView) (heights : List ℤ) (grid : Terrain) → extent ≡ bounds_of (map placed tiles) → IsPermutation tiles sorted → IsInOrder sorted → twin_after [] tiles ≡ None → seen ≡ sorted → heights ≡ flat_map (painted_row extent seen) (range_with_len 0 (mosaic_height extent)) → grid.width ≡ mosaic_width extent → grid.height ≡ mosaic_height extent → grid.table ≡ heights → grid ≡ tiles_terrain (map placed tiles)
unfolding tiles_terrain mosaic_terrain
joined_is extent tiles sorted seen heights grid round moved order none same painted wide high whole =
    let table : grid.table ≡ (mosaic_terrain extent (map placed tiles)).table =
    whole ∙ painted ∙ ap (λ ts. flat_map (painted_row extent ts) (range_with_len 0 (mosaic_height extent))) same ∙ rows_are extent tiles sorted moved order none in
    terrain_by (mosaic_width extent) (mosaic_height extent) (mosaic_terrain extent (map placed tiles)).table grid wide high table
    ∙ ap (λ b. mosaic_terrain b (map placed tiles)) round
