use Rattle.std.proofs.Common.{◌≡◌, vec_len}
use Rattle.std.specs.FinMap as finite
use Rattle.outer_shelf.specs.Memory.{files_of}
use Rattle.outer_shelf.proofs.FileMap.{files_over}
use Rattle.outer_shelf.proofs.memory.map_of.Given as goal

abbrev pub invariant-loop-name : goal.invariant-loop-name
invariant-loop-name l = files_over l.initial.files.items finite.empty ≡ files_over l.files.items (files_of l.made.entries)

abbrev pub decreases-loop-name : goal.decreases-loop-name
decreases-loop-name l = vec_len l.files
