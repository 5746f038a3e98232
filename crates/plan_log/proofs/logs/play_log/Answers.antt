use Rattle.std.proofs.Common.{All, List, ap, subst, sym, ◌∙◌}
use Rattle.std.specs.List.{filter_map}
use Rattle.plan_plain.specs.Asked.{IsAsked}
use Rattle.plan_plain.specs.declared.runs.PlainAsked.{PlainAsked}
use Rattle.plan_log.specs.Logs.{event_of}
use Rattle.plan_log.proofs.Booked.{events_asked}
use Rattle.plan_log.proofs.logs.play_log.Goals as goal

pub log_of-requires-clause-events : goal.log_of-requires-clause-events
log_of-requires-clause-events c =
    let script = c.args.script.now in
    let P : List PlainAsked → Type 0 = λ events. All (IsAsked script.levels) events in
    let is = c.as_slice-3.ensures.value ∙ c.in_ok-events.ensures.value ∙ ap (filter_map event_of) c.as_slice-2.ensures.value in
    subst P (sym is) (events_asked script.levels script.steps.items c.requires.steps)
