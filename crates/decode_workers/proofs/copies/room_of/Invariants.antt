use Rattle.std.proofs.Common.{map}
use Rattle.decode_workers.specs.Copies.{copy_in, HaveRoom}
use Rattle.decode_workers.proofs.copies.room_of.Given as goal

abbrev pub invariant-loop-level : goal.invariant-loop-level
invariant-loop-level l = HaveRoom l.actives l.level (map copy_in l.levels.items)
