use Rattle.std.proofs.Common.{List, sym, subst}
use Rattle.std.specs.Prelude.{Vec}
use Rattle.std.specs.Global.{Global}
use Rattle.std.proofs.lemmas.Result.{err_from_is_err_and}
use Rattle.decode_rounds.specs.declared.tasks.Task.{Task}
use Rattle.run_actions.specs.Runs.{leaves_nothing}
use Rattle.clip_rounds.proofs.RoundSteps.{IsClaiming, claim_on, claiming_end, claiming_halted, claiming_last, claiming_more, claiming_start, claiming_want, last_claims}
use Rattle.clip_rounds.proofs.rounds.claim_jobs.Goals as goal

pub loop-pass-init : goal.loop-pass-init
loop-pass-init g c =
    subst (λ (tasks : List Task). IsClaiming (Vec Task Global) leaves_nothing c.args.flight.now c.args.flight.now c.args.workers 0 tasks (g.K.Sink.told c.args.out.now) (g.K.Sink.told c.args.out.now)) (sym c.new-tasks.ensures.items)
    (claiming_start {A = Vec Task Global} leaves_nothing c.args.flight.now c.args.workers (g.K.Sink.told c.args.out.now) c.requires.none)

pub loop-pass-preserved : goal.loop-pass-preserved
loop-pass-preserved g c =
    let job = rw c.in-Some.is at c.in_ok-claimed.ensures.job in
    let given = rw c.in-Some.is at c.in_ok-claimed.ensures.given in
    claiming_more {A = Vec Task Global} leaves_nothing c.args.flight.now c.loop-pass.flight c.claim.new.flight c.args.workers c.loop-pass.pass c.loop-pass.tasks.items
    (g.K.Sink.told c.args.out.now) (g.K.Sink.told c.loop-pass.out) (g.K.Sink.told c.claim.new.out) c.steps_go_on.ensures c.others_keep_parts.ensures c.requires.workers c.loop-pass-test.true c.loop-pass.invariant c.claim.ensures.does
    c.in_ok-claimed.claimed c.in-Some.job c.push.new.self.items (sym given) job c.in-Ok.ensures.items c.in_ok-claimed.ensures.flew

pub returns-in-Err-clause-flew : goal.returns-in-Err-clause-flew
returns-in-Err-clause-flew g c =
    let given = rw c.in-Some.is at c.in_ok-claimed.ensures.given in
    claiming_want {A = Vec Task Global} leaves_nothing c.args.flight.now c.loop-pass.flight c.claim.new.flight c.args.workers c.loop-pass.pass c.loop-pass.tasks.items
    (g.K.Sink.told c.args.out.now) (g.K.Sink.told c.loop-pass.out) (g.K.Sink.told c.claim.new.out) c.loop-pass-test.true c.loop-pass.invariant
    c.in_ok-claimed.claimed (sym given) c.in_ok-claimed.ensures.flew

pub returns-in-Err-clause-stays : goal.returns-in-Err-clause-stays
returns-in-Err-clause-stays g c =
    claim_on {A = Vec Task Global} leaves_nothing c.args.flight.now c.loop-pass.flight c.claim.new.flight c.args.workers c.loop-pass.pass c.loop-pass.tasks.items
    (g.K.Sink.told c.args.out.now) (g.K.Sink.told c.loop-pass.out) (g.K.Sink.told c.claim.new.out) c.steps_go_on.ensures c.others_keep_parts.ensures c.requires.workers c.loop-pass-test.true c.loop-pass.invariant c.claim.ensures.does

pub returns-in-None-clause-flew : goal.returns-in-None-clause-flew
returns-in-None-clause-flew g c =
    let given = rw c.in-None.is at c.in_ok-claimed.ensures.given in
    claiming_last {A = Vec Task Global} leaves_nothing c.args.flight.now c.loop-pass.flight c.claim.new.flight c.args.workers c.loop-pass.pass c.loop-pass.tasks.items
    (g.K.Sink.told c.args.out.now) (g.K.Sink.told c.loop-pass.out) (g.K.Sink.told c.claim.new.out) c.steps_go_on.ensures c.others_keep_parts.ensures c.requires.workers c.loop-pass-test.true c.loop-pass.invariant c.claim.ensures.does
    c.in_ok-claimed.claimed c.loop-pass.tasks (sym given) c.in_ok-claimed.ensures.flew

pub returns-in-None-clause-jobs : goal.returns-in-None-clause-jobs
returns-in-None-clause-jobs g c =
    let given = rw c.in-None.is at c.in_ok-claimed.ensures.given in
    last_claims {A = Vec Task Global} leaves_nothing c.args.flight.now c.loop-pass.flight c.claim.new.flight c.args.workers c.loop-pass.pass c.loop-pass.tasks.items
    (g.K.Sink.told c.args.out.now) (g.K.Sink.told c.loop-pass.out) (g.K.Sink.told c.claim.new.out) c.steps_go_on.ensures c.others_keep_parts.ensures c.requires.workers c.loop-pass-test.true c.loop-pass.invariant c.claim.ensures.does (sym given)

pub returns-in-None-clause-stays : goal.returns-in-None-clause-stays
returns-in-None-clause-stays g c =
    claim_on {A = Vec Task Global} leaves_nothing c.args.flight.now c.loop-pass.flight c.claim.new.flight c.args.workers c.loop-pass.pass c.loop-pass.tasks.items
    (g.K.Sink.told c.args.out.now) (g.K.Sink.told c.loop-pass.out) (g.K.Sink.told c.claim.new.out) c.steps_go_on.ensures c.others_keep_parts.ensures c.requires.workers c.loop-pass-test.true c.loop-pass.invariant c.claim.ensures.does

pub returns-in_err-claimed-clause-flew : goal.returns-in_err-claimed-clause-flew
returns-in_err-claimed-clause-flew g c =
    let p = err_from_is_err_and c.from_residual.result c.from_residual.ensures.1 in
    rw (p.1, p.2) (claiming_halted {A = Vec Task Global} leaves_nothing c.args.flight.now c.loop-pass.flight c.claim.new.flight c.args.workers c.loop-pass.pass c.loop-pass.tasks.items
    (g.K.Sink.told c.args.out.now) (g.K.Sink.told c.loop-pass.out) (g.K.Sink.told c.claim.new.out) c.steps_go_on.ensures c.others_keep_parts.ensures c.requires.workers c.loop-pass-test.true c.loop-pass.invariant c.claim.ensures.does
    _ c.in_err-claimed.ensures.flew)

pub returns-in_err-claimed-clause-stays : goal.returns-in_err-claimed-clause-stays
returns-in_err-claimed-clause-stays g c =
    claim_on {A = Vec Task Global} leaves_nothing c.args.flight.now c.loop-pass.flight c.claim.new.flight c.args.workers c.loop-pass.pass c.loop-pass.tasks.items
    (g.K.Sink.told c.args.out.now) (g.K.Sink.told c.loop-pass.out) (g.K.Sink.told c.claim.new.out) c.steps_go_on.ensures c.others_keep_parts.ensures c.requires.workers c.loop-pass-test.true c.loop-pass.invariant c.claim.ensures.does

pub returns-clause-flew : goal.returns-clause-flew
returns-clause-flew g c =
    claiming_end {A = Vec Task Global} leaves_nothing c.args.flight.now c.loop-pass.flight c.args.workers c.loop-pass.pass c.loop-pass.tasks.items (g.K.Sink.told c.args.out.now) (g.K.Sink.told c.loop-pass.out) c.loop-pass.tasks
    c.loop-pass-test.false c.loop-pass.invariant
