use Rattle.std.proofs.Common.{◌≡◌, true, Some, ap, sym, ◌∙◌, subst}
use Rattle.std.proofs.lemmas.Int.{to_z-of_z}
use mathlib.Core.Path.{ap₂}
use mir.Syntax.{w16}
use Rattle.plan_model.specs.Blocks.{tile_of_cell}
use Rattle.plan_model.specs.declared.tiles.TileId.{TileId}
use Rattle.torus_grid.specs.Places.{tile_height}
use Rattle.torus_grid.specs.Grids.{Grid, tile_at, is_home}
use Rattle.torus_grid.proofs.RowHeights.{height_is}
use Rattle.torus_grid.proofs.torus.Torus.cell.Goals as goal
use Rattle.clip_regions.proofs.Numbers.{read_back}

pub tile-requires : goal.tile-requires
tile-requires c =
    let tile : c.tile_of_cell.result ≡ tile_of_cell c.args.self.now.k c.args.i c.args.j = c.tile_of_cell.ensures ∙ ap₂ (tile_of_cell c.self.inside.k) (read_back c.args.i c.ranges.i) (read_back c.args.j c.ranges.j) ∙ ap (λ (g : Grid). tile_of_cell g.k c.args.i c.args.j) c.self.view_is in
    subst (λ (t : TileId). is_home c.args.self.now t ≡ true) (sym tile) c.requires

pub returns : goal.returns
returns c =
    let tile : c.tile_of_cell.result ≡ tile_of_cell c.args.self.now.k c.args.i c.args.j = c.tile_of_cell.ensures ∙ ap₂ (tile_of_cell c.self.inside.k) (read_back c.args.i c.ranges.i) (read_back c.args.j c.ranges.j) ∙ ap (λ (g : Grid). tile_of_cell g.k c.args.i c.args.j) c.self.view_is in
    let there : tile_at c.args.self.now (tile_of_cell c.args.self.now.k c.args.i c.args.j) ≡ Some c.tile.result.now = ap (tile_at c.args.self.now) (sym tile) ∙ c.tile.ensures in
    to_z-of_z w16 c.cell.result (record { sfits = c.cell.type_inv }) ∙ c.cell.ensures ∙ ap₂ (tile_height c.tile.result.now) (read_back c.args.i c.ranges.i) (read_back c.args.j c.ranges.j) ∙ height_is c.args.self.now c.tile.result.now c.args.i c.args.j there
