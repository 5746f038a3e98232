-- The test is the definition, and the cells are those between the corners.
use Rattle.std.proofs.Common.{arith, rules}
use Rattle.clip_regions.specs.Regions.{is_empty}
use Rattle.clip_regions.proofs.Cells.{empty_cells}
use Rattle.clip_regions.proofs.region.Region.is_empty.Goals as goal

pub returns-then-self-clause-value : goal.returns-then-self-clause-value
unfolding is_empty
returns-then-self-clause-value c = grind arith

pub returns-else-self-clause-value : goal.returns-else-self-clause-value
unfolding is_empty
returns-else-self-clause-value c = search rules

pub returns-then-self-clause-cells : goal.returns-then-self-clause-cells
returns-then-self-clause-cells c = empty_cells _ _ (returns-then-self-clause-value c)

pub returns-else-self-clause-cells : goal.returns-else-self-clause-cells
returns-else-self-clause-cells c = empty_cells _ _ (returns-else-self-clause-value c)
