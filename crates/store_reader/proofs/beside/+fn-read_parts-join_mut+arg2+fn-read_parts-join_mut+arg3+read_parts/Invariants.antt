use Rattle.std.proofs.Common.{◌-◌, ◌*◌}
use Rattle.store_reader.proofs.beside.+fn-read_parts-join_mut+arg2+fn-read_parts-join_mut+arg3+read_parts.Given as goal

abbrev pub decreases-join_mut+arg2 : goal.decreases-join_mut+arg2
decreases-join_mut+arg2 g l = 2 * l.depth - 1

abbrev pub decreases-join_mut+arg3 : goal.decreases-join_mut+arg3
decreases-join_mut+arg3 g l = 2 * l.depth - 1

abbrev pub decreases-read_parts : goal.decreases-read_parts
decreases-read_parts g l = 2 * l.depth
