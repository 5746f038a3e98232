use Rattle.std.proofs.Common.{◌≡◌, ◌∙◌, pos, length, replicate, get_or, ap, subst, rules, arith}
use Rattle.std.proofs.lemmas.List.{get_or-replicate}
use Rattle.hgt_tiles.specs.TileView.{TileView}
use Rattle.mosaic.specs.Painting.{IsPainted}
use Rattle.mosaic.proofs.Parts.{painted_none, painted_more, row_painted}
use Rattle.mosaic.proofs.painting.paint_row.Goals as goal

pub loop-tile-init : goal.loop-tile-init
loop-tile-init c =
    let zeros : c.fill.new.self ≡ replicate (length c.args.row.now) (pos 0) = search rules in
    record {
      width = c.fill.ensures.len ∙ c.requires.width;
      painted = λ x inside. ap (λ xs. get_or xs x (pos 0)) zeros ∙ get_or-replicate (length c.args.row.now) x (pos 0) (pos 0) (omega (arith, inside, c.fill.ensures.len)) ∙ painted_none c.args.extent.now c.args.tiles.now x c.args.y;
    }

pub loop-tile-preserved : goal.loop-tile-preserved
loop-tile-preserved c =
    let tile = c.tile-item.result in
    let here : IsPainted c.args.extent.now c.args.y (get_or c.args.tiles.now c.loop-tile.tile-index tile) c.loop-tile.row c.paint_tile.new.row =
    subst (λ (t : TileView). IsPainted c.args.extent.now c.args.y t c.loop-tile.row c.paint_tile.new.row) c.tile-item.is c.paint_tile.ensures.row in
    record {
      width = c.paint_tile.ensures.length ∙ c.loop-tile.invariant.width;
      painted = λ x inside. painted_more c.args.extent.now c.args.tiles.now c.loop-tile.tile-index tile c.args.y c.loop-tile.row c.paint_tile.new.row c.loop-tile-test.true c.loop-tile.invariant.painted here x (omega (arith, inside, c.paint_tile.ensures.length));
    }

pub returns : goal.returns
returns c =
    row_painted c.args.extent.now c.args.tiles.now c.loop-tile.tile-index c.args.y c.loop-tile.row c.loop-tile.invariant.width c.loop-tile-test.false c.loop-tile.invariant.painted
