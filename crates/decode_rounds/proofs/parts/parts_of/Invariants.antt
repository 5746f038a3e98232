use Rattle.std.proofs.Common.{◌≡◌, flat_map}
use Rattle.decode_rounds.specs.Parts.{tasks_in}
use Rattle.decode_rounds.proofs.parts.parts_of.Given as goal

abbrev pub invariant-loop-task : goal.invariant-loop-task
invariant-loop-task g l = flat_map tasks_in l.parts.items ≡ l.yielded
