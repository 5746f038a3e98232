use Rattle.std.proofs.Common.{◌≡◌, ◌+◌, ◌<◌, ◌≤◌, ℕ, length, sym, subst, arith}
use Rattle.std.proofs.lemmas.Result.{err_from_is_err_and}
use Rattle.store_reader.specs.Headers.{head_of}
use Rattle.store_reader.specs.Tables.{behind_cells}
use Rattle.store_reader.specs.Reading.{BlocksRead, blocks_above, cells_above, blocks_in}
use Rattle.store_reader.proofs.BlockLists.{no_blocks, blocks_more}
use Rattle.store_reader.proofs.Bands.{row_from, blocks_below, room_for, few_of_band}
use Rattle.store_reader.proofs.level.read_band.Goals as goal

pub loop-k-init : goal.loop-k-init
loop-k-init c =
    let r = c.args.reading in
    let none = no_blocks (head_of r.header) r.source r.level (blocks_above r c.args.band.from) r.bytes.now c.args.band.start (behind_cells (cells_above r c.args.band.from) c.args.table.now) c.requires.band.begun in
    subst (λ (k : ℕ). BlocksRead (head_of r.header) r.source r.level (blocks_above r c.args.band.from) k r.bytes.now c.args.band.start c.args.band.start (behind_cells (cells_above r c.args.band.from) c.args.table.now)) (sym c.blocks_above-first.ensures) none

pub read_block-requires-clause-block : goal.read_block-requires-clause-block
read_block-requires-clause-block c =
    let few = blocks_below c.args.reading c.args.band.to c.requires.band.down in
    let end : c.loop-k.k < blocks_above c.args.reading c.args.band.to = omega (arith, c.blocks_above-end.ensures) in
    omega arith

pub read_block-requires-clause-row : goal.read_block-requires-clause-row
read_block-requires-clause-row c =
    let from : blocks_above c.args.reading c.args.band.from ≤ c.loop-k.k = omega (arith, c.blocks_above-first.ensures) in
    row_from c.args.reading c.args.band.from c.loop-k.k from

pub read_block-requires-clause-few : goal.read_block-requires-clause-few
read_block-requires-clause-few c =
    let few = few_of_band c.args.reading c.args.band (length c.args.table.now) c.requires.reading c.requires.band in
    omega arith

pub read_block-requires-clause-table : goal.read_block-requires-clause-table
read_block-requires-clause-table c =
    let end : c.loop-k.k < blocks_above c.args.reading c.args.band.to = omega (arith, c.blocks_above-end.ensures) in
    let room = room_for c.args.reading c.args.band (length c.args.table.now) c.loop-k.k c.requires.band end in
    omega arith

pub returns-in_err-at-clause-fault : goal.returns-in_err-at-clause-fault
returns-in_err-at-clause-fault c =
    let p = err_from_is_err_and c.from_residual.result c.from_residual.ensures.1 in
    let few = blocks_below c.args.reading c.args.band.to c.requires.band.down in
    let end : c.loop-k.k < blocks_above c.args.reading c.args.band.to = omega (arith, c.blocks_above-end.ensures) in
    rw (p.1, p.2)
    (record {
      k = c.loop-k.k;
      from = omega (arith, c.blocks_above-first.ensures);
      below = omega arith;
      at = c.loop-k.at;
      table = behind_cells (cells_above c.args.reading c.args.band.from) c.loop-k.table;
      read = c.loop-k.invariant;
      follows = c.in_err-at.ensures.fault;
    })

pub loop-k-preserved : goal.loop-k-preserved
loop-k-preserved c =
    let r = c.args.reading in
    let few = blocks_below r c.args.band.to c.requires.band.down in
    let end : c.loop-k.k < blocks_above r c.args.band.to = omega (arith, c.blocks_above-end.ensures) in
    blocks_more (head_of r.header) r.source r.level (blocks_above r c.args.band.from) c.loop-k.k r.bytes.now c.args.band.start c.loop-k.at c.in_ok-at.at
    (behind_cells (cells_above r c.args.band.from) c.loop-k.table) (behind_cells (cells_above r c.args.band.from) c.read_block.new.table)
    (omega (arith, c.blocks_above-first.ensures)) (omega arith) c.loop-k.invariant c.in_ok-at.ensures.read
