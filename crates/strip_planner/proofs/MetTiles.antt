-- The tiles that a region meets, by its columns and its rows.
use Rattle.std.proofs.Common.{◌≡◌, ℕ, Bool, true, false, ◌&&◌, ap, sym, ◌∙◌, refl}
use Rattle.std.specs.List.{list_any}
use Rattle.clip_regions.specs.declared.region.Region.{Region}
use Rattle.clip_regions.specs.FloorDivision.{floor_div}
use Rattle.clip_regions.specs.Regions.{is_empty}
use Rattle.plan_model.specs.Blocks.{tile_of, tiles_per_side, same_tile}
use Rattle.plan_model.specs.Strips.{block_columns, block_rows}
use Rattle.plan_model.specs.Tiles.{meets_tile}
use Rattle.plan_model.specs.declared.tiles.Piece.{Piece}
use Rattle.plan_model.specs.declared.tiles.TileId.{TileId}
use Rattle.plan_laws.specs.Pieces.{blocks_between}
use Rattle.plan_laws.specs.Tiles.{meets_column, meets_row}
use Rattle.strip_planner.specs.Met.{has_place}
use Rattle.strip_planner.proofs.Rows.{pieces_none}

pub none_met : (k : ℕ) (r : Region) (t : TileId) → is_empty r ≡ true → meets_tile k r t ≡ false
unfolding meets_tile
none_met k r t e = ap (list_any (λ (p : Piece). same_tile (tile_of k p.bx p.by) t)) (pieces_none r e)

pub column_is : (k : ℕ) (r : Region) (tx : ℕ) → has_place (tiles_per_side k) (floor_div r.x0 8) (blocks_between r.x0 r.x1) tx ≡ meets_column k r tx
unfolding has_place blocks_between meets_column block_columns
column_is k r tx = refl

pub row_is : (k : ℕ) (r : Region) (ty : ℕ) → has_place (tiles_per_side k) (floor_div r.y0 8) (blocks_between r.y0 r.y1) ty ≡ meets_row k r ty
unfolding has_place blocks_between meets_row block_rows
row_is k r ty = refl

pub met_by_both : (x y a b m : Bool) → x ≡ a → y ≡ b → m ≡ (a && b) → x ≡ true → y ≡ m
met_by_both x y a b m p q e t = q ∙ sym (e ∙ ap (λ (v : Bool). v && b) (sym p ∙ t))

pub met_by_none : (x a b m : Bool) → x ≡ a → m ≡ (a && b) → x ≡ false → x ≡ m
met_by_none x a b m p e f = f ∙ sym (e ∙ ap (λ (v : Bool). v && b) (sym p ∙ f))
