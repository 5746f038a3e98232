-- Tiles put together.
use Rattle.std.proofs.Common.{◌≡◌, ◌≤◌, List, [], ◌∷◌, length, get_or, map, sym, ap, arith}
use Rattle.terrain_model.specs.Mosaic.{first_side}
use Rattle.hgt_tiles.specs.TileView.{TileView, placed}

-- the side of the first tile, where there is one
pub first_side_is : (tiles : List TileView) (first : TileView) → 1 ≤ length tiles → first ≡ get_or tiles 0 first → first_side (map placed tiles) ≡ first.terrain.width
unfolding placed
first_side_is [] first some is = absurd (omega (arith, some))
first_side_is (tile ∷ rest) first some is = ap (λ (t : TileView). t.terrain.width) (sym is)
