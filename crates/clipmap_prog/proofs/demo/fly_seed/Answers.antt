use Rattle.std.proofs.Common.{Result, List, refl, sym, subst}
use Rattle.std.proofs.lemmas.Result.{err_from_is_err_and}
use Rattle.terrain_store.specs.Stores.{land_of}
use Rattle.clip_script.specs.Scripts.{Fly, fly_view as script_view}
use Rattle.clip_flights.specs.Flights.{demo_actions}
use Rattle.run_actions.specs.Actions.{Action}
use Rattle.run_actions.specs.Runs.{Ran}
use Rattle.run_actions.specs.declared.halt.Halt.{Halt}
use Rattle.run_actions.proofs.Ends.{ran_none, within_none}
use Rattle.clipmap_prog.proofs.Demos.{seed_is}
use Rattle.clipmap_prog.proofs.demo.fly_seed.Goals as goal

pub returns-clause-ran : goal.returns-clause-ran
returns-clause-ran g c =
    let script : Fly = script_view c.in_ok-staged.staged.script in
    let land = land_of c.in_ok-staged.staged.store in
    let before = g.S.Shelf.told c.args.shelf.now in
    let now = g.S.Shelf.told c.run_course.new.shelf in
    let actions : List Action = demo_actions land.terrain script.k script.levels script.lines c.args.seed in
    let done = subst (λ (r : Result (Unit {0}) Halt). Ran g.S.Shelf.leaves 0 actions r before now (g.K.Sink.told c.args.out.now) (g.K.Sink.told c.run_course.new.out)) (sym c.ended_by.ensures.value) c.run_course.ensures.ran in
    subst (λ (acts : List Action). Ran g.S.Shelf.leaves 0 acts c.ended_by.result before now (g.K.Sink.told c.args.out.now) (g.K.Sink.told c.run_course.new.out))
    (seed_is c.args.seed script land c.in_ok-staged.ensures.flight) done

pub returns-in_err-staged-clause-ran : goal.returns-in_err-staged-clause-ran
returns-in_err-staged-clause-ran g c =
    let p = err_from_is_err_and c.from_residual.result c.from_residual.ensures.1 in
    rw (p.1, p.2) (ran_none g.S.Shelf.leaves 0 _ _ (g.S.Shelf.told c.args.shelf.now) (g.S.Shelf.told c.args.shelf.now) (g.K.Sink.told c.args.out.now) refl (within_none (g.S.Shelf.told c.args.shelf.now).calls (g.S.Shelf.told c.args.shelf.now).calls refl))
