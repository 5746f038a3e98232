use Rattle.store_reader.specs.Headers.{head_of}
use Rattle.store_reader.specs.Tables.{behind_cells}
use Rattle.store_reader.specs.Reading.{BlocksRead, blocks_above, cells_above}
use Rattle.store_reader.proofs.level.read_band.Given as goal

abbrev pub invariant-loop-k : goal.invariant-loop-k
invariant-loop-k l =
    BlocksRead (head_of l.reading.header) l.reading.source l.reading.level (blocks_above l.reading l.band.from) l.k
    l.reading.bytes.now l.band.start l.at (behind_cells (cells_above l.reading l.band.from) l.table)
