use Rattle.std.proofs.Common.{rules}
use Rattle.store_reader.proofs.CellNumbers.{on_ok}
use Rattle.store_reader.proofs.PlainLemmas.{plain_of}
use Rattle.store_reader.proofs.blocks.plain_block.Goals as goal

pub returns-clause-heights : goal.returns-clause-heights
returns-clause-heights c =
    let part = c.requires.place.part in
    on_ok _ _ c.piece_heights.result
    (λ h. plain_of c.args.content.now (λ i. (c.type_inv.content i).fits) c.args.place.cells c.piece_heights.new.out part.across part.down (search rules) h.0 h.1)
    c.piece_heights.ensures.heights
