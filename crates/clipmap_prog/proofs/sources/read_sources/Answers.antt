use Rattle.std.proofs.Common.{map, string_bytes}
use Rattle.std.proofs.lemmas.Result.{err_from_is_err_and}
use Rattle.clipmap_prog.specs.Sources.{source_view}
use Rattle.clipmap_prog.specs.Stores.{store_view}
use Rattle.clipmap_prog.proofs.Sourced.{store_found, store_stopped}
use Rattle.clipmap_prog.proofs.sources.read_sources.Goals as goal

pub returns-in_ok-fetch_store-in-Some-clause-found : goal.returns-in_ok-fetch_store-in-Some-clause-found
returns-in_ok-fetch_store-in-Some-clause-found g c = λ verdict right.
    store_found (map string_bytes c.args.inputs.now) c.in-Some.name.now c.in-Some.ensures.value verdict store_view (g.S.Shelf.told c.args.shelf.now).files c.in_ok-fetch_store-in-Some.field-0 right c.in_ok-fetch_store-in-Some.ensures.found

pub returns-in_err-fetch_store-in-Some-clause-found : goal.returns-in_err-fetch_store-in-Some-clause-found
returns-in_err-fetch_store-in-Some-clause-found g c = λ verdict right.
    let p = err_from_is_err_and c.from_residual.result c.from_residual.ensures.1 in
    rw (p.1, p.2) (store_stopped (map string_bytes c.args.inputs.now) c.in-Some.name.now c.in-Some.ensures.value verdict store_view source_view (g.S.Shelf.told c.args.shelf.now).files _ right c.in_err-fetch_store-in-Some.ensures.found)
