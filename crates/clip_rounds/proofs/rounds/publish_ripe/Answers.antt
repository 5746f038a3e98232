use Rattle.std.proofs.Common.{◌≡◌, arith}
use Rattle.std.proofs.lemmas.Result.{err_from_is_err_and}
use Rattle.run_actions.specs.Runs.{leaves_nothing}
use Rattle.clip_rounds.proofs.RoundSteps.{publishing_end, publishing_halted, publishing_more, publishing_start}
use Rattle.clip_rounds.proofs.rounds.publish_ripe.Goals as goal

pub loop-level-init : goal.loop-level-init
loop-level-init g c = publishing_start {A = Unit {0}} leaves_nothing c.args.flight.now c.levels-levels.result (g.K.Sink.told c.args.out.now) c.levels-levels.ensures

pub publish_if_ripe-requires : goal.publish_if_ripe-requires
publish_if_ripe-requires g c =
    omega (arith, c.levels-levels.ensures, c.loop-level-test.true, c.loop-level.auto.level, c.loop-level.invariant.stays.levels)

pub loop-level-preserved : goal.loop-level-preserved
loop-level-preserved g c =
    publishing_more {A = Unit {0}} leaves_nothing c.args.flight.now c.loop-level.flight c.publish_if_ripe.new.flight c.loop-level.level (g.K.Sink.told c.args.out.now) (g.K.Sink.told c.loop-level.out) (g.K.Sink.told c.publish_if_ripe.new.out)
    c.loop-level-test.true c.loop-level.invariant tt c.publish_if_ripe.ensures.stays c.in_ok-publish_if_ripe.ensures.flew

pub returns-in_err-publish_if_ripe-clause-flew : goal.returns-in_err-publish_if_ripe-clause-flew
returns-in_err-publish_if_ripe-clause-flew g c =
    let p = err_from_is_err_and c.from_residual.result c.from_residual.ensures.1 in
    rw (p.1, p.2) (publishing_halted {A = Unit {0}} leaves_nothing c.args.flight.now c.loop-level.flight c.publish_if_ripe.new.flight c.loop-level.level (g.K.Sink.told c.args.out.now) (g.K.Sink.told c.loop-level.out) (g.K.Sink.told c.publish_if_ripe.new.out)
    c.loop-level-test.true c.loop-level.invariant _ c.in_err-publish_if_ripe.ensures.flew)

pub returns-clause-flew : goal.returns-clause-flew
returns-clause-flew g c =
    let at_end : c.loop-level.level ≡ 0 = omega (arith, c.loop-level-test.false) in
    publishing_end {A = Unit {0}} leaves_nothing c.args.flight.now c.loop-level.flight c.loop-level.level (g.K.Sink.told c.args.out.now) (g.K.Sink.told c.loop-level.out) tt at_end c.loop-level.invariant
