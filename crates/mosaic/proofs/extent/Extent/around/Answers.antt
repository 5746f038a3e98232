use Rattle.std.proofs.Common.{◌≡◌, ◌∙◌, ap, take_all, fold, arith}
use Rattle.mosaic.specs.Extents.{extent_of_one, widened}
use Rattle.mosaic.proofs.Extents.{around_is}
use Rattle.mosaic.proofs.extent.Extent.around.Goals as goal

pub returns-clause-value : goal.returns-clause-value
returns-clause-value c =
    let whole : c.loop-tile.extent ≡ fold widened (extent_of_one c.args.first.now) c.args.rest.now = c.loop-tile.invariant.value ∙ ap (fold widened (extent_of_one c.args.first.now)) (take_all c.loop-tile.tile-index c.args.rest.now (omega arith)) in
    whole ∙ around_is c.args.first.now c.args.rest.now
