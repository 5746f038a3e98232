use Rattle.std.proofs.Common.{◌≡◌, ◌++◌, take, flat_map}
use Rattle.swarm_plays.specs.Journals.{entry_line, size_line}
use Rattle.swarm_runs.proofs.journal.journal_text.Given as goal

abbrev pub invariant-loop-place : goal.invariant-loop-place
invariant-loop-place l = l.text.items ≡ size_line l.k l.levels ++ flat_map entry_line (take l.place l.journal)
