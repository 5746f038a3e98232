use Rattle.std.proofs.Common.{◌≡◌, replicate, None}
use Rattle.clip_desk.proofs.desk.no_jobs.Given as goal

abbrev pub invariant-made : goal.invariant-made
invariant-made l = l.jobs.items ≡ replicate l.counter None
