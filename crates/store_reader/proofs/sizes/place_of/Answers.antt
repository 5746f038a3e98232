use Rattle.std.proofs.Common.{refl}
use Rattle.store_reader.proofs.PlaceLemmas.{count_at, place_is}
use Rattle.store_reader.proofs.sizes.place_of.Goals as goal

pub row_in-by-requires-clause-inside : goal.row_in-by-requires-clause-inside
row_in-by-requires-clause-inside c =
    count_at c.args.header.width c.args.header.height c.args.level c.args.k _ _ _ _ c.cells_on-columns.ensures.value c.cells_on-rows.ensures.value c.blocks_on-across.ensures.value c.blocks_on.ensures.value c.requires.block

pub returns-clause-place : goal.returns-clause-place
returns-clause-place c =
    let cells = c.cells_of.ensures in
    place_is c.args.header c.args.level c.args.k _ _ _ _ _ _ c.cells_on-columns.ensures.value c.cells_on-rows.ensures.value c.blocks_on-across.ensures.value refl c.row_in-by.ensures.value cells.west cells.north cells.east cells.south
