use Rattle.std.proofs.Common.{◌≤◌, List, fold, length, ap, ◌∙◌}
use Rattle.std.proofs.lemmas.List.{take_all}
use Rattle.plan_model.specs.Histories.{Run, Asked, run, run_from, then_step}
use Rattle.plan_plain.specs.Asked.{asked_of}
use Rattle.plan_plain.specs.declared.runs.PlainAsked.{PlainAsked}
use Rattle.plan_plain.proofs.runs.run.Goals as goal

pub returns-clause-value : goal.returns-clause-value
unfolding run
returns-clause-value c =
    let at_end : length c.args.events.now ≤ c.loop-asked.asked-index = c.loop-asked-test.false in
    c.loop-asked.invariant.value ∙ ap (λ (xs : List PlainAsked). fold (λ (r : Run) (asked : Asked). then_step r asked.pass asked.event) (run_from c.args.state) (asked_of xs)) (take_all c.loop-asked.asked-index c.args.events.now at_end)
