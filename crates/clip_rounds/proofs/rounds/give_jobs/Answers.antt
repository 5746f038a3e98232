use Rattle.std.proofs.Common.{◌≡◌, List, [], subst, sym, ◌∙◌}
use Rattle.std.proofs.lemmas.List.{nil_from_length}
use Rattle.std.specs.Vec.Iter.{into_iter_items}
use Rattle.std.proofs.lemmas.Result.{err_from_is_err_and}
use Rattle.decode_rounds.specs.declared.tasks.Done.{Done}
use Rattle.run_actions.specs.Runs.{leaves_nothing}
use Rattle.clip_rounds.proofs.RoundSteps.{IsGiving, giving_end, giving_frame, giving_halted, giving_more, giving_on, giving_start}
use Rattle.clip_rounds.proofs.rounds.give_jobs.Goals as goal

pub loop-done-init : goal.loop-done-init
loop-done-init g c =
    subst (λ (all : List Done). IsGiving (Unit {0}) leaves_nothing c.args.flight.now c.args.flight.now 0 all (g.K.Sink.told c.args.out.now) (g.K.Sink.told c.args.out.now)) (sym c.into_iter-done-iterator.ensures.into_iter_gives.0)
    (giving_start {A = Unit {0}} leaves_nothing c.args.flight.now c.args.jobs.items (g.K.Sink.told c.args.out.now) c.requires.many c.requires.jobs)

pub loop-done-preserved : goal.loop-done-preserved
loop-done-preserved g c =
    let on = subst (λ (all : List Done). IsGiving (Unit {0}) leaves_nothing c.args.flight.now c.loop-done.flight c.loop-done.pass all (g.K.Sink.told c.args.out.now) (g.K.Sink.told c.loop-done.out)) c.in-Some.ensures.steps.0 c.loop-done.invariant in
    giving_more {A = Unit {0}} leaves_nothing c.args.flight.now c.loop-done.flight c.give_one.new.flight c.loop-done.pass c.in-Some.done (into_iter_items c.next.new.self) (g.K.Sink.told c.args.out.now) (g.K.Sink.told c.loop-done.out) (g.K.Sink.told c.give_one.new.out)
    c.steps_go_on.ensures c.others_keep_parts.ensures on c.give_one.ensures.does c.give_one.ensures.had tt c.in_ok-give_one.ensures.flew

pub returns-in_err-give_one-clause-flew : goal.returns-in_err-give_one-clause-flew
returns-in_err-give_one-clause-flew g c =
    let on = subst (λ (all : List Done). IsGiving (Unit {0}) leaves_nothing c.args.flight.now c.loop-done.flight c.loop-done.pass all (g.K.Sink.told c.args.out.now) (g.K.Sink.told c.loop-done.out)) c.in-Some.ensures.steps.0 c.loop-done.invariant in
    let p = err_from_is_err_and c.from_residual.result c.from_residual.ensures.1 in
    rw (p.1, p.2) (giving_halted {A = Unit {0}} leaves_nothing c.args.flight.now c.loop-done.flight c.give_one.new.flight c.loop-done.pass c.in-Some.done (into_iter_items c.next.new.self) (g.K.Sink.told c.args.out.now) (g.K.Sink.told c.loop-done.out) (g.K.Sink.told c.give_one.new.out)
    c.steps_go_on.ensures c.others_keep_parts.ensures on c.give_one.ensures.does c.give_one.ensures.had _ c.in_err-give_one.ensures.flew)

pub returns-in_err-give_one-clause-stays : goal.returns-in_err-give_one-clause-stays
returns-in_err-give_one-clause-stays g c =
    let on = subst (λ (all : List Done). IsGiving (Unit {0}) leaves_nothing c.args.flight.now c.loop-done.flight c.loop-done.pass all (g.K.Sink.told c.args.out.now) (g.K.Sink.told c.loop-done.out)) c.in-Some.ensures.steps.0 c.loop-done.invariant in
    giving_on {A = Unit {0}} leaves_nothing c.args.flight.now c.loop-done.flight c.give_one.new.flight c.loop-done.pass c.in-Some.done (into_iter_items c.next.new.self) (g.K.Sink.told c.args.out.now) (g.K.Sink.told c.loop-done.out) (g.K.Sink.told c.give_one.new.out)
    c.steps_go_on.ensures c.others_keep_parts.ensures on c.give_one.ensures.does c.give_one.ensures.had

pub returns-in_err-give_one-clause-frame : goal.returns-in_err-give_one-clause-frame
returns-in_err-give_one-clause-frame g c =
    let on = subst (λ (all : List Done). IsGiving (Unit {0}) leaves_nothing c.args.flight.now c.loop-done.flight c.loop-done.pass all (g.K.Sink.told c.args.out.now) (g.K.Sink.told c.loop-done.out)) c.in-Some.ensures.steps.0 c.loop-done.invariant in
    giving_frame {A = Unit {0}} leaves_nothing c.args.flight.now c.loop-done.flight c.give_one.new.flight c.loop-done.pass c.in-Some.done (into_iter_items c.next.new.self) (g.K.Sink.told c.args.out.now) (g.K.Sink.told c.loop-done.out) (g.K.Sink.told c.give_one.new.out)
    c.steps_go_on.ensures c.others_keep_parts.ensures on c.give_one.ensures.does c.give_one.ensures.had

pub returns-clause-flew : goal.returns-clause-flew
returns-clause-flew g c =
    let gone : into_iter_items c.loop-done.done-iterator ≡ [] = nil_from_length (into_iter_items c.loop-done.done-iterator) (sym c.loop-done.done-iterator.rest.ok.0 ∙ c.in-None.ensures.steps.0) in
    giving_end {A = Unit {0}} leaves_nothing c.args.flight.now c.loop-done.flight c.loop-done.pass (g.K.Sink.told c.args.out.now) (g.K.Sink.told c.loop-done.out) tt
    (subst (λ (all : List Done). IsGiving (Unit {0}) leaves_nothing c.args.flight.now c.loop-done.flight c.loop-done.pass all (g.K.Sink.told c.args.out.now) (g.K.Sink.told c.loop-done.out)) gone c.loop-done.invariant)
