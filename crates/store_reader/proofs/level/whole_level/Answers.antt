use Rattle.std.proofs.Common.{◌∙◌, ap}
use Rattle.store_model.specs.Sizes.{blocks_on}
use Rattle.store_reader.proofs.Bands.{whole_of}
use Rattle.store_reader.proofs.level.whole_level.Goals as goal

pub returns : goal.returns
returns c = whole_of c.args.reading c.blocks_on.result c.args.start (c.blocks_on.ensures.value ∙ ap blocks_on c.cells_on.ensures.value) c.requires.start
