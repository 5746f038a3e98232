use Rattle.store_reader.specs.Headers.{head_of}
use Rattle.store_reader.proofs.CellNumbers.{if_ok}
use Rattle.store_reader.proofs.Stores.{refused}
use Rattle.store_reader.proofs.levels.read_heights_beside.Goals as goal

pub returns-clause-refuses : goal.returns-clause-refuses
returns-clause-refuses g c = λ fault f.
    let law = c.one_first_fault.ensures in
    refused _ c.args.bytes.now fault c.read_store.result
    (λ stored p. law.store (head_of stored.header) stored.grid c.args.bytes.now fault p f)
    (λ other q. law.first c.args.bytes.now other fault q f)
    c.read_store.ensures.store c.read_store.ensures.fault

pub returns-clause-same : goal.returns-clause-same
returns-clause-same g c = λ head terrain store.
    if_ok _ _ c.read_store.result
    (λ stored p. c.one_terrain.ensures (head_of stored.header) head stored.grid terrain c.args.bytes.now p store)
    c.read_store.ensures.store
