use Rattle.std.proofs.Common.{inr}
use Rattle.std.proofs.lemmas.Result.{err_from_is_err_and}
use Rattle.store_reader.specs.Headers.{head_of}
use Rattle.store_reader.proofs.Stores.{excess_of, whole_store, header_fault}
use Rattle.store_reader.proofs.levels.read_store.Goals as goal

pub returns-then-at-bytes-clause-fault : goal.returns-then-at-bytes-clause-fault
returns-then-at-bytes-clause-fault g c =
    let reached = c.in_ok-reached.reached in
    inr (excess_of (head_of c.in_ok-header.header) c.args.bytes.now reached.at reached.grid c.in_ok-header.ensures.header.readable.sound c.if-at-bytes.true c.in_ok-reached.ensures.read)

pub returns-clause-store : goal.returns-clause-store
returns-clause-store g c =
    let reached = c.in_ok-reached.reached in
    whole_store c.stores_of_levels.ensures c.finest_level.ensures (head_of c.in_ok-header.header) c.args.bytes.now reached.at reached.grid c.in_ok-header.ensures.header.readable.sound c.if-at-bytes.false c.in_ok-reached.ensures.read

pub returns-in_err-header-clause-fault : goal.returns-in_err-header-clause-fault
returns-in_err-header-clause-fault g c =
    let p = err_from_is_err_and c.from_residual.result c.from_residual.ensures.1 in
    rw (p.1, p.2) (inr (header_fault c.args.bytes.now _ c.in_err-header.ensures.fault))
