-- Which sets of tiles make no mosaic, and why: the first of the causes in their order.
use Rattle.std.specs.Prelude.{◌≡◌, ℕ, ◌*◌, ◌^◌, Bool, not, ◌&&◌, ◌==◌, List, [], ◌∷◌, ◌++◌, map, find, int_le, nat_lt, Option, Some, None, if◌then◌else◌}
use Rattle.std.specs.List.{list_any}
use Rattle.terrain_model.specs.Mosaic.{Bounds, bounds_of, mosaic_width, mosaic_height}
use Rattle.hgt_tiles.specs.TileView.{TileView, placed}
use Rattle.mosaic.specs.declared.fault.MosaicFault.{MosaicFault}
use Rattle.mosaic.specs.declared.fault.MosaicFault.TheVariants.{Empty, Twice, SidesDiffer, TooLarge}

-- two tiles have one corner
unfoldable pub same_corner : TileView → TileView → Bool
same_corner tile other =
    (int_le tile.corner.lat other.corner.lat && int_le other.corner.lat tile.corner.lat)
    && (int_le tile.corner.lon other.corner.lon && int_le other.corner.lon tile.corner.lon)

-- the first tile that has the corner of an earlier one, after some earlier ones
abbrev pub twin_after : List TileView → List TileView → Option TileView
twin_after earlier [] = None
twin_after earlier (tile ∷ rest) =
    if list_any (same_corner tile) earlier then Some tile else twin_after (earlier ++ tile ∷ []) rest

-- the first side that isn't this one
unfoldable pub other_side : ℕ → List TileView → Option ℕ
other_side first tiles = find (λ side. not (side == first)) (map (λ tile. tile.terrain.width) tiles)

-- the tile is a square of this side
pub record HasSide (side : ℕ) (tile : TileView) : Type 0 where
  pub columns : tile.terrain.width ≡ side
  pub rows : tile.terrain.height ≡ side

-- how many samples the rectangle round some tiles has
unfoldable pub sample_count : Bounds → ℕ
sample_count bounds = mosaic_width bounds * mosaic_height bounds

-- a twin is the fault, where there is one
abbrev pub twin_fault : Option TileView → Option MosaicFault → Option MosaicFault
twin_fault (Some tile) further = Some (Twice tile.corner)
twin_fault None further = further

-- another side is the fault, where there is one
abbrev pub side_fault : ℕ → Option ℕ → Option MosaicFault → Option MosaicFault
side_fault first (Some other) further = Some (SidesDiffer first other)
side_fault first None further = further

-- too many samples are the fault, where there are more than 2^26
abbrev pub size_fault : ℕ → Option MosaicFault
size_fault samples = if nat_lt (2 ^ 26) samples then Some (TooLarge samples) else None

-- the fault of a set of tiles, if it has one
abbrev pub mosaic_fault : List TileView → Option MosaicFault
mosaic_fault [] = Some Empty
mosaic_fault (first ∷ rest) =
    twin_fault (twin_after [] (first ∷ rest))
    (side_fault first.terrain.width (other_side first.terrain.width (first ∷ rest))
    (size_fault (sample_count (bounds_of (map placed (first ∷ rest))))))
