use Rattle.std.proofs.Common.{length, sym, subst}
use Rattle.std.proofs.lemmas.List.{drop_all}
use Rattle.std.proofs.lemmas.Result.{err_from_is_err_and}
use Rattle.clip_script.specs.Ranges.{IsStep}
use Rattle.clip_desk.proofs.Lists.{next_of}
use Rattle.clip_runs.proofs.Steps.{on_start, on_more, on_halt, on_end}
use Rattle.clip_runs.proofs.play.take_steps.Goals as goal

pub take_step-requires-clause-step : goal.take_step-requires-clause-step
take_step-requires-clause-step g c _ _ =
    subst (λ n. IsStep n c.step-item.result) (sym c.loop-step.invariant.levels)
    (subst (IsStep (length c.args.stage.now.desk.plan.state.levels)) (sym c.step-item.is) (c.requires.steps c.loop-step.step-index c.step-item.result c.loop-step-test.true))

pub loop-step-init : goal.loop-step-init
loop-step-init g c =
    on_start g.S.Shelf.leaves c.args.means.now.name.now c.args.steps.now c.args.stage.now (g.S.Shelf.told c.args.shelf.now) (g.K.Sink.told c.args.out.now) c.requires.moves c.requires.begun

pub loop-step-preserved : goal.loop-step-preserved
loop-step-preserved g c =
    on_more g.S.Shelf.leaves c.args.means.now.name.now c.args.steps.now c.args.stage.now c.loop-step.stage c.loop-step.step-index c.step-item.result
    (g.S.Shelf.told c.args.shelf.now) (g.S.Shelf.told c.loop-step.shelf) (g.S.Shelf.told c.take_step.new.shelf) (g.K.Sink.told c.args.out.now) (g.K.Sink.told c.loop-step.out) (g.K.Sink.told c.take_step.new.out)
    c.loop-step.invariant (next_of c.args.steps.now c.loop-step.step-index c.step-item.result c.loop-step-test.true c.step-item.is)
    c.take_step.new.stage c.in_ok-take_step.ensures.taken c.in_ok-take_step.ensures.ran c.in_ok-take_step.ensures.reason

pub returns-in_err-take_step-clause-ran : goal.returns-in_err-take_step-clause-ran
returns-in_err-take_step-clause-ran g c =
    let p = err_from_is_err_and c.from_residual.result c.from_residual.ensures.1 in
    rw (p.1, p.2) (on_halt g.S.Shelf.leaves c.args.means.now.name.now c.args.steps.now c.args.stage.now c.loop-step.stage c.loop-step.step-index c.step-item.result
    (g.S.Shelf.told c.args.shelf.now) (g.S.Shelf.told c.loop-step.shelf) (g.S.Shelf.told c.take_step.new.shelf) (g.K.Sink.told c.args.out.now) (g.K.Sink.told c.loop-step.out) (g.K.Sink.told c.take_step.new.out)
    c.loop-step.invariant (next_of c.args.steps.now c.loop-step.step-index c.step-item.result c.loop-step-test.true c.step-item.is)
    _ c.in_err-take_step.ensures.ran)

pub returns-clause-ran : goal.returns-clause-ran
returns-clause-ran g c =
    on_end g.S.Shelf.leaves c.args.means.now.name.now c.args.steps.now c.args.stage.now c.loop-step.stage c.loop-step.step-index
    (g.S.Shelf.told c.args.shelf.now) (g.S.Shelf.told c.loop-step.shelf) (g.K.Sink.told c.args.out.now) (g.K.Sink.told c.loop-step.out)
    c.loop-step.invariant (drop_all c.loop-step.step-index c.args.steps.now c.loop-step-test.false)
