use Rattle.std.proofs.Common.{◌≡◌, ◌≤◌, true, ℕ, ◌-◌, ℤ, pos, ◌+ℤ◌, map, Some, ap, sym, ◌∙◌, subst, arith}
use Rattle.std.specs.List.{range_with_len}
use mathlib.Core.Path.{ap₂}
use Rattle.clip_regions.specs.FloorDivision.{floor_rem}
use Rattle.plan_model.specs.Blocks.{tile_of_cell}
use Rattle.plan_model.specs.declared.tiles.TileId.{TileId}
use Rattle.torus_grid.specs.Places.{tile_height}
use Rattle.torus_grid.specs.Grids.{Grid, tile_at, is_home}
use Rattle.torus_grid.proofs.RowHeights.{row_heights}
use Rattle.torus_grid.proofs.torus.Torus.row.Goals as goal
use Rattle.clip_regions.proofs.Numbers.{read_back}

pub tile-requires : goal.tile-requires
tile-requires c =
    let tile : c.tile_of_cell.result ≡ tile_of_cell c.args.self.now.k c.args.i c.args.j = c.tile_of_cell.ensures ∙ ap₂ (tile_of_cell c.self.inside.k) (read_back c.args.i c.ranges.i) (read_back c.args.j c.ranges.j) ∙ ap (λ (g : Grid). tile_of_cell g.k c.args.i c.args.j) c.self.view_is in
    subst (λ (t : TileId). is_home c.args.self.now t ≡ true) (sym tile) c.requires

pub returns : goal.returns
returns c =
    let tile : c.tile_of_cell.result ≡ tile_of_cell c.args.self.now.k c.args.i c.args.j = c.tile_of_cell.ensures ∙ ap₂ (tile_of_cell c.self.inside.k) (read_back c.args.i c.ranges.i) (read_back c.args.j c.ranges.j) ∙ ap (λ (g : Grid). tile_of_cell g.k c.args.i c.args.j) c.self.view_is in
    let there : tile_at c.args.self.now (tile_of_cell c.args.self.now.k c.args.i c.args.j) ≡ Some c.tile.result.now = ap (tile_at c.args.self.now) (sym tile) ∙ c.tile.ensures in
    let size : 3 ≤ c.args.self.now.k = subst (λ (g : Grid). 3 ≤ g.k) c.self.view_is (omega (arith, c.self.invariant.0)) in
    c.row.ensures ∙ ap₂ (λ (a b : ℤ). map (λ (n : ℕ). tile_height c.tile.result.now (a +ℤ pos n) b) (range_with_len 0 (8 - floor_rem a 8))) (read_back c.args.i c.ranges.i) (read_back c.args.j c.ranges.j) ∙ row_heights c.blocks_have_one_tile.ensures c.args.self.now c.tile.result.now c.args.i c.args.j size there
