use Rattle.mosaic.proofs.Parts.{left_inside}
use Rattle.mosaic.proofs.extent.Extent.holds_columns_of.Goals as goal

pub returns : goal.returns
returns c = left_inside c.args.self.now c.args.tile.now c.side-side.ensures.extent c.requires
