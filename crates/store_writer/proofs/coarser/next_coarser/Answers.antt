use Rattle.std.proofs.Common.{◌∙◌}
use Rattle.store_writer.specs.Coarser.{coarser_height}
use Rattle.store_writer.proofs.Steps.{finer_restored}
use Rattle.store_writer.proofs.coarser.next_coarser.Goals as goal

pub returns : goal.returns
returns c = λ i j.
    c.in_ok-table.ensures i j
    ∙ finer_restored (coarser_height c.args.coarser.now) c.args.grid.now c.args.levels c.args.step c.args.level i j c.requires.below c.requires.coarser
