use Rattle.std.proofs.Common.{◌≡◌, ◌∙◌, ◌++◌, ◌+◌, ◌*◌, length, length-append, take, drop, ap, arith}
use Rattle.terrain_model.specs.Mosaic.{mosaic_width}
use Rattle.mosaic.specs.Painting.{painted_row}
use Rattle.mosaic.proofs.Parts.{row_more, buffer_is, row_length}
use Rattle.mosaic.proofs.painting.paint.Goals as goal

pub loop-y-preserved : goal.loop-y-preserved
loop-y-preserved c =
    let extent = c.args.extent.now in
    let tiles = c.args.tiles.now in
    let y = c.loop-y.y in
    let painted : c.paint_row.new.row ≡ painted_row extent tiles y = c.paint_row.ensures in
    let long : length c.paint_row.new.row ≡ c.loop-y.row.len = omega (arith, ap length painted, row_length extent tiles y, c.loop-y.invariant.width, c.loop-y.row.ok.0) in
    let rest = drop (length c.paint_row.new.row) c.loop-y.row.items in
    let buffer : take c.loop-y.row.len (c.paint_row.new.row ++ rest) ≡ c.paint_row.new.row = buffer_is c.loop-y.row.len c.paint_row.new.row rest long in
    record {
      heights = row_more extent tiles y c.loop-y.heights.items c.extend_from_slice.new.self.items c.as_slice.result.now c.loop-y.invariant.heights c.in_ok-extend_from_slice.ensures.items (c.as_slice.ensures.value ∙ buffer ∙ painted);
      count = (let e : (y + 1) * mosaic_width extent ≡ y * mosaic_width extent + mosaic_width extent = grind arith in let added : length (c.loop-y.heights.items ++ c.as_slice.result.now) ≡ length c.loop-y.heights.items + length c.as_slice.result.now = length-append c.loop-y.heights.items c.as_slice.result.now in omega (arith, e, added, ap length c.in_ok-extend_from_slice.ensures.items, ap length (c.as_slice.ensures.value ∙ buffer ∙ painted), row_length extent tiles y, c.loop-y.invariant.count));
      width = ap length (buffer ∙ painted) ∙ row_length extent tiles y;
    }
