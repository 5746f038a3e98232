use Rattle.std.proofs.Common.{◌∙◌}
use Rattle.decode_workers.proofs.Filling.{near_plain, near_words, zeros_are}
use Rattle.decode_workers.proofs.fill.write_heights.Goals as goal

pub write_inside-requires-clause-near : goal.write_inside-requires-clause-near
write_inside-requires-clause-near c = near_plain c.args.block.now c.args.job.now c.requires.block c.in-Plain.field-0 c.in-Plain.is

pub write_inside-requires-in-Words-clause-near : goal.write_inside-requires-in-Words-clause-near
write_inside-requires-in-Words-clause-near c = near_words c.args.block.now c.args.job.now c.requires.block c.in-Words.field-0 c.in-Words.is

pub returns-in-Outside-clause-heights : goal.returns-in-Outside-clause-heights
returns-in-Outside-clause-heights c =
    zeros_are c.pieces_of_blocks.ensures.heights c.args.block.now c.args.job.now c.requires.block c.patch-patch.ensures.kept c.cells.result c.write_zeros.new.out c.in-Outside.is c.cells.ensures (c.write_zeros.ensures.many ∙ c.requires.places) c.write_zeros.ensures.zeros
