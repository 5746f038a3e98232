use Rattle.std.proofs.Common.{◌∙◌, sym}
use Rattle.clipmap_prog.proofs.Mosaics.{first_side_is}
use Rattle.clipmap_prog.proofs.tile_files.first_side.Goals as goal

pub returns-in-len1-up : goal.returns-in-len1-up
returns-in-len1-up c = record {
  value = c.side.ensures.value ∙ sym (first_side_is c.args.tiles.now c.first-item.result c.in-len1-up.len_at_least c.first-item.is);
}
