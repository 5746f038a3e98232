use Rattle.store_reader.specs.Headers.{head_of}
use Rattle.store_reader.specs.Reading.{LevelsRead}
use Rattle.store_reader.proofs.levels.read_levels.Given as goal

abbrev pub invariant-loop-n : goal.invariant-loop-n
invariant-loop-n g l = LevelsRead (head_of l.header) l.n l.bytes l.reached.at l.reached.grid
