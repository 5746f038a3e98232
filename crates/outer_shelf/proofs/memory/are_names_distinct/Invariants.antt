use Rattle.std.proofs.Common.{◌≡◌, length}
use Rattle.outer_shelf.specs.Memory.{names_differ}
use Rattle.outer_shelf.proofs.memory.are_names_distinct.Given as goal

abbrev pub invariant-loop-file : goal.invariant-loop-file
invariant-loop-file l = names_differ l.fn.files ≡ names_differ l.rest

abbrev pub decreases-loop-file : goal.decreases-loop-file
decreases-loop-file l = length l.rest
