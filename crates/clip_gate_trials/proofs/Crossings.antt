-- What the threads of the trials take with them may go to other threads.
use denote.Param.Send.{IsSync, sendable}
use Rattle.std.proofs.Crossing.{crosses}
use Rattle.terrain_store.specs.contracts.store.Store as store

pub store_sync : IsSync store.the_row
store_sync = search (sendable, crosses) depth 60 fits 100000
