use Rattle.std.proofs.Common.{◌≡◌, take, flat_map}
use Rattle.plan_log.specs.Logs.{entry_line}
use Rattle.plan_log.proofs.logs.text_of.Given as goal

abbrev pub invariant-loop-entry : goal.invariant-loop-entry
invariant-loop-entry l = l.text.items ≡ flat_map entry_line (take l.entry-index l.history)
