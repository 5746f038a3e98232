use Rattle.std.proofs.lemmas.Result.{err_from_is_err_and}
use Rattle.clipmap_prog.proofs.Fetching.{named_found, named_stopped, named_calls}
use Rattle.clipmap_prog.proofs.tile_files.read_named.Goals as goal

pub returns-clause-found : goal.returns-clause-found
returns-clause-found g c =
    named_found c.args.named.now (g.S.Shelf.told c.args.shelf.now).files c.in_ok-tiles.tiles.items c.join_tiles.result c.in_ok-tiles.ensures.found c.join_tiles.ensures.found

pub returns-clause-calls : goal.returns-clause-calls
returns-clause-calls g c =
    named_calls c.args.named.now (g.S.Shelf.told c.args.shelf.now).files (g.S.Shelf.told c.args.shelf.now).calls (g.S.Shelf.told c.fetch_tiles.new.shelf).calls c.in_ok-tiles.ensures.calls

pub returns-in_err-tiles-clause-found : goal.returns-in_err-tiles-clause-found
returns-in_err-tiles-clause-found g c =
    let p = err_from_is_err_and c.from_residual.result c.from_residual.ensures.1 in
    rw (p.1, p.2) (named_stopped c.args.named.now (g.S.Shelf.told c.args.shelf.now).files _ c.in_err-tiles.ensures.found)

pub returns-in_err-tiles-clause-calls : goal.returns-in_err-tiles-clause-calls
returns-in_err-tiles-clause-calls g c =
    named_calls c.args.named.now (g.S.Shelf.told c.args.shelf.now).files (g.S.Shelf.told c.args.shelf.now).calls (g.S.Shelf.told c.fetch_tiles.new.shelf).calls c.in_err-tiles.ensures.calls
