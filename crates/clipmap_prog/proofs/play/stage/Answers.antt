use Rattle.std.proofs.Common.{◌≡◌, Ok, Err}
use Rattle.std.proofs.lemmas.Result.{err_from_is_err_and}
use Rattle.outer_shelf.specs.Outside.{Files}
use Rattle.run_actions.specs.Runs.{CallsWithin}
use Rattle.terrain_store.specs.Stores.{land_of}
use Rattle.clip_script.specs.Scripts.{Play, play_view as script_view}
use Rattle.clipmap_words.specs.Play.{PlayView, play_view}
use Rattle.clipmap_prog.specs.Lands.{land_reading}
use Rattle.clipmap_prog.specs.Play.{levels_of, read_play, stage_view}
use Rattle.clipmap_prog.specs.Reading.{Finds}
use Rattle.clipmap_prog.specs.Stores.{IsVerdictOn}
use Rattle.clipmap_prog.proofs.Staging.{there, back, script_stops, script_calls, stage_found, land_stops, stage_calls}
use Rattle.clipmap_prog.proofs.play.stage.Goals as goal

pub returns-clause-found : goal.returns-clause-found
returns-clause-found g c = λ verdict right.
    let play : PlayView = play_view c.args.play.now in
    let script : Play = script_view c.in_ok-script.script in
    let files = (g.S.Shelf.told c.args.shelf.now).files in
    let later = (g.S.Shelf.told c.fetch_script.new.shelf).files in
    let IsRight : Files → Type 0 = λ m. IsVerdictOn play.inputs m verdict in
    let IsFound : Files → Type 0 = λ m. (land_reading verdict play.inputs script.levels m).found ≡ Ok (land_of c.in_ok-store.store) in
    stage_found read_play levels_of verdict play.script play.inputs files script c.in_ok-script.ensures.found (land_of c.in_ok-store.store)
    (back files later IsFound c.in_ok-script.ensures.files_stay (c.in_ok-store.ensures.found verdict (there files later IsRight c.in_ok-script.ensures.files_stay right)))

pub returns-clause-calls : goal.returns-clause-calls
returns-clause-calls g c = λ verdict.
    let play : PlayView = play_view c.args.play.now in
    let script : Play = script_view c.in_ok-script.script in
    let before = g.S.Shelf.told c.args.shelf.now in
    let mid = g.S.Shelf.told c.fetch_script.new.shelf in
    let now = g.S.Shelf.told c.read_land.new.shelf in
    let Few : Files → Type 0 = λ m. CallsWithin (land_reading verdict play.inputs script.levels m).fetches mid.calls now.calls in
    stage_calls read_play levels_of verdict play.script play.inputs before.files script c.in_ok-script.ensures.found before.calls mid.calls now.calls c.in_ok-script.ensures.counted
    (back before.files mid.files Few c.in_ok-script.ensures.files_stay (c.in_ok-store.ensures.calls verdict))

pub returns-in_err-store-clause-found : goal.returns-in_err-store-clause-found
returns-in_err-store-clause-found g c = λ verdict right.
    let play : PlayView = play_view c.args.play.now in
    let script : Play = script_view c.in_ok-script.script in
    let files = (g.S.Shelf.told c.args.shelf.now).files in
    let later = (g.S.Shelf.told c.fetch_script.new.shelf).files in
    let IsRight : Files → Type 0 = λ m. IsVerdictOn play.inputs m verdict in
    let p = err_from_is_err_and c.from_residual-in_err-store.result c.from_residual-in_err-store.ensures.1 in
    let IsStopped : Files → Type 0 = λ m. Finds land_of (Err p.0) (land_reading verdict play.inputs script.levels m).found in
    rw p.1 (land_stops read_play levels_of verdict play.script play.inputs files script c.in_ok-script.ensures.found land_of stage_view p.0
    (back files later IsStopped c.in_ok-script.ensures.files_stay (rw p.2 (c.in_err-store.ensures.found verdict (there files later IsRight c.in_ok-script.ensures.files_stay right)))))

pub returns-in_err-store-clause-calls : goal.returns-in_err-store-clause-calls
returns-in_err-store-clause-calls g c = λ verdict.
    let play : PlayView = play_view c.args.play.now in
    let script : Play = script_view c.in_ok-script.script in
    let before = g.S.Shelf.told c.args.shelf.now in
    let mid = g.S.Shelf.told c.fetch_script.new.shelf in
    let now = g.S.Shelf.told c.read_land.new.shelf in
    let Few : Files → Type 0 = λ m. CallsWithin (land_reading verdict play.inputs script.levels m).fetches mid.calls now.calls in
    stage_calls read_play levels_of verdict play.script play.inputs before.files script c.in_ok-script.ensures.found before.calls mid.calls now.calls c.in_ok-script.ensures.counted
    (back before.files mid.files Few c.in_ok-script.ensures.files_stay (c.in_err-store.ensures.calls verdict))

pub returns-in_err-script-clause-found : goal.returns-in_err-script-clause-found
returns-in_err-script-clause-found g c = λ verdict right.
    let p = err_from_is_err_and c.from_residual.result c.from_residual.ensures.1 in
    rw (p.1, p.2) (script_stops read_play levels_of verdict (play_view c.args.play.now).script (play_view c.args.play.now).inputs (g.S.Shelf.told c.args.shelf.now).files script_view stage_view _ c.in_err-script.ensures.found)

pub returns-in_err-script-clause-calls : goal.returns-in_err-script-clause-calls
returns-in_err-script-clause-calls g c = λ verdict.
    script_calls read_play levels_of verdict (play_view c.args.play.now).script (play_view c.args.play.now).inputs (g.S.Shelf.told c.args.shelf.now).files (g.S.Shelf.told c.args.shelf.now).calls (g.S.Shelf.told c.fetch_script.new.shelf).calls c.in_err-script.ensures.counted
