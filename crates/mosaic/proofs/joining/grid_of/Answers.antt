-- The grid is the tile's terrain.
use Rattle.std.proofs.Common.{sym, ◌∙◌}
use Rattle.hgt_tiles.specs.TileView.{IsTile}
use Rattle.mosaic.proofs.Alone.{alone}
use Rattle.mosaic.proofs.joining.grid_of.Goals as goal

pub returns : goal.returns
returns c =
    let is : IsTile c.args.tile.terrain = c.side-side.ensures.tile in
    let wide = c.new.ensures.width ∙ c.side-side.ensures.value in
    let high = c.new.ensures.height ∙ c.side-side.ensures.value ∙ sym is.square in
    let table = c.new.ensures.table ∙ c.into_heights.ensures in
    (λ t. record { width = wide t; height = high t; table = table t }) ∙ sym (alone c.args.tile is)
