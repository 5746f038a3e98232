use Rattle.std.proofs.Common.{◌≡◌, Result, arith, sym, subst, w32, to_z, of_z, FitsSigned}
use Rattle.std.proofs.lemmas.Int.{ints, to_z-of_z}
use Rattle.terrain_store.specs.Stores.{land_of}
use Rattle.clip_runs.specs.Statuses.{ended_by}
use Rattle.run_actions.specs.Runs.{Ran}
use Rattle.run_actions.specs.declared.halt.Halt.{Halt}
use Rattle.clipmap_words.specs.Frame.{frame_view}
use Rattle.clipmap_prog.specs.Frame.{drawn}
use Rattle.clipmap_prog.proofs.frame.draw.Goals as goal

pub returns-clause-ran : goal.returns-clause-ran
returns-clause-ran g c =
    let fits_x : FitsSigned w32 c.args.frame.now.x = omega (arith, ints, c.requires.in_range.x_low, c.requires.in_range.x_high) in
    let fits_y : FitsSigned w32 c.args.frame.now.y = omega (arith, ints, c.requires.in_range.y_low, c.requires.in_range.y_high) in
    let x : to_z w32 (of_z w32 c.args.frame.now.x) ≡ c.args.frame.now.x = to_z-of_z w32 c.args.frame.now.x fits_x in
    let y : to_z w32 (of_z w32 c.args.frame.now.y) ≡ c.args.frame.now.y = to_z-of_z w32 c.args.frame.now.y fits_y in
    let Of : Result (Unit {0}) Halt → Type 0 = λ run.
    Ran g.S.Shelf.leaves 0 (drawn (frame_view c.args.frame.now) (land_of c.args.store.now)) run
    (g.S.Shelf.told c.args.shelf.now) (g.S.Shelf.told c.run_course.new.shelf) (g.K.Sink.told c.args.out.now) (g.K.Sink.told c.run_course.new.out) in
    let ran : Of (ended_by c.run_course.result) = simp (x, y) at c.run_course.ensures.ran in
    subst Of (sym c.ended_by.ensures.value) ran
