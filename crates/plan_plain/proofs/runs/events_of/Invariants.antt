use Rattle.std.proofs.Common.{◌≡◌, map, take}
use Rattle.plan_model.specs.Histories.{asked_by}
use Rattle.plan_plain.specs.Asked.{asked_of}
use Rattle.plan_plain.proofs.runs.events_of.Given as goal

abbrev pub invariant-loop-entry : goal.invariant-loop-entry
invariant-loop-entry l = asked_of l.out.items ≡ map asked_by (take l.entry-index l.history)
