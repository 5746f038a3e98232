-- The region of no cell is spelled in one way.
use Rattle.std.proofs.Common.{◌∙◌, sym}
use Rattle.clip_regions.proofs.Cells.{spelled_empty, spelled_other}
use Rattle.clip_regions.proofs.region.Region.spelled.Goals as goal

pub returns-then-is_empty : goal.returns-then-is_empty
returns-then-is_empty c = record { value = c.empty.ensures.value ∙ sym (spelled_empty c.args.self (sym c.if-is_empty.ensures.value)) }

pub returns-else-is_empty : goal.returns-else-is_empty
returns-else-is_empty c = record { value = sym (spelled_other c.args.self (sym c.if-is_empty.ensures.value)) }
