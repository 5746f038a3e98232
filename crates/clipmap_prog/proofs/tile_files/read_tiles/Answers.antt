use Rattle.std.proofs.Common.{◌≡◌, ◌∙◌, sym, ap, map, string_bytes, Ok}
use Rattle.std.proofs.lemmas.Result.{err_from_is_err_and}
use Rattle.clipmap_prog.specs.Inputs.{name_reading, named_view, tiles_reading}
use Rattle.clipmap_prog.specs.Reading.{each_of}
use Rattle.run_actions.specs.Runs.{CallsWithin}
use Rattle.clipmap_prog.proofs.Fetching.{always_some, no_calls, tiles_found, tiles_stopped, tiles_calls}
use Rattle.clipmap_prog.proofs.tile_files.read_tiles.Goals as goal

pub returns-clause-found : goal.returns-clause-found
returns-clause-found g c =
    let words = map string_bytes c.args.names.now in
    let good : (each_of name_reading words).found ≡ Ok (map named_view c.as_slice.result.now) = c.in_ok-named.ensures.found ∙ ap (λ ns. Ok (map named_view ns)) (sym c.as_slice.ensures.value) in
    tiles_found words (map named_view c.as_slice.result.now) (g.S.Shelf.told c.args.shelf.now).files good c.read_named.result c.read_named.ensures.found

pub returns-clause-calls : goal.returns-clause-calls
returns-clause-calls g c =
    let words = map string_bytes c.args.names.now in
    let good : (each_of name_reading words).found ≡ Ok (map named_view c.as_slice.result.now) = c.in_ok-named.ensures.found ∙ ap (λ ns. Ok (map named_view ns)) (sym c.as_slice.ensures.value) in
    tiles_calls words (map named_view c.as_slice.result.now) (g.S.Shelf.told c.args.shelf.now).files good
    (g.S.Shelf.told c.args.shelf.now).calls (g.S.Shelf.told c.read_named.new.shelf).calls c.read_named.ensures.calls

pub returns-in_err-named-clause-found : goal.returns-in_err-named-clause-found
returns-in_err-named-clause-found g c =
    let p = err_from_is_err_and c.from_residual.result c.from_residual.ensures.1 in
    rw (p.1, p.2) (tiles_stopped (map string_bytes c.args.names.now) (g.S.Shelf.told c.args.shelf.now).files _ c.in_err-named.ensures.found)

pub returns-in_err-named-clause-calls : goal.returns-in_err-named-clause-calls
returns-in_err-named-clause-calls g c =
    let s = g.S.Shelf.told c.args.shelf.now in
    always_some (λ files. CallsWithin (tiles_reading (map string_bytes c.args.names.now) files).fetches s.calls s.calls) s.files (λ files. no_calls (tiles_reading (map string_bytes c.args.names.now) files).fetches s.calls)
