use Rattle.std.proofs.Common.{ap, ◌∙◌}
use mathlib.Core.Path.{ap₂}
use Rattle.clip_regions.specs.Regions.{meet}
use Rattle.plan_model.specs.Blocks.{block_cells}
use Rattle.plan_model.specs.Strips.{piece_in}
use Rattle.plan_plain_pieces.proofs.Shapes.{same_pieces}
use Rattle.plan_plain_pieces.proofs.strip_pieces.piece_in.Goals as goal
use Rattle.clip_regions.proofs.Numbers.{read_back}

pub returns : goal.returns
unfolding piece_in
returns c = record {
  value = same_pieces _ (piece_in c.args.region c.args.bx c.args.by) (read_back c.args.bx c.ranges.bx) (read_back c.args.by c.ranges.by) (c.meet.ensures.value ∙ ap (meet c.args.region) (c.block_cells-block.ensures.value ∙ ap₂ block_cells (read_back c.args.bx c.ranges.bx) (read_back c.args.by c.ranges.by)));
}
