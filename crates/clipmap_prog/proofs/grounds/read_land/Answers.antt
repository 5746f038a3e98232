use Rattle.std.proofs.Common.{map, string_bytes}
use Rattle.clipmap_prog.specs.Lands.{land_reading, land_with}
use Rattle.clipmap_prog.specs.Reading.{unfetched}
use Rattle.clipmap_prog.specs.Sources.{sources_reading}
use Rattle.clipmap_prog.proofs.Following.{first_calls}
use Rattle.clipmap_prog.proofs.grounds.read_land.Goals as goal

pub returns-in-Tiles-clause-calls : goal.returns-in-Tiles-clause-calls
unfolding land_reading
returns-in-Tiles-clause-calls g c = λ verdict.
    first_calls (sources_reading verdict (map string_bytes c.args.inputs.now)) (λ m source. unfetched (land_with c.args.levels source)) (g.S.Shelf.told c.args.shelf.now).files
    (g.S.Shelf.told c.args.shelf.now).calls (g.S.Shelf.told c.read_ground.new.shelf).calls (c.in_ok-tiles.ensures.calls verdict)

pub returns-in-Store-clause-calls : goal.returns-in-Store-clause-calls
unfolding land_reading
returns-in-Store-clause-calls g c = λ verdict.
    first_calls (sources_reading verdict (map string_bytes c.args.inputs.now)) (λ m source. unfetched (land_with c.args.levels source)) (g.S.Shelf.told c.args.shelf.now).files
    (g.S.Shelf.told c.args.shelf.now).calls (g.S.Shelf.told c.read_ground.new.shelf).calls (c.in_ok-tiles.ensures.calls verdict)

pub returns-in_err-tiles-clause-calls : goal.returns-in_err-tiles-clause-calls
unfolding land_reading
returns-in_err-tiles-clause-calls g c = λ verdict.
    first_calls (sources_reading verdict (map string_bytes c.args.inputs.now)) (λ m source. unfetched (land_with c.args.levels source)) (g.S.Shelf.told c.args.shelf.now).files
    (g.S.Shelf.told c.args.shelf.now).calls (g.S.Shelf.told c.read_ground.new.shelf).calls (c.in_err-tiles.ensures.calls verdict)
