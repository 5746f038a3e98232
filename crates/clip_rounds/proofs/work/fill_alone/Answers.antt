use Rattle.clip_rounds.proofs.RoundSteps.{homeward}
use Rattle.decode_rounds.proofs.Homes.{are_tasks}
use Rattle.clip_rounds.proofs.work.fill_alone.Goals as goal

pub round-requires-clause-tasks : goal.round-requires-clause-tasks
round-requires-clause-tasks g c _ _ = are_tasks c.args.book.now 0 c.args.tasks.items c.requires.claims.jobs

pub returns-in-Ok-clause-jobs : goal.returns-in-Ok-clause-jobs
returns-in-Ok-clause-jobs g c = homeward c.args.book.now c.filled_jobs_go_back.ensures c.args.tasks.items c.in-Ok.jobs.items c.requires.claims c.in-Ok.ensures.results

pub returns-in-Ok-clause-mesh : goal.returns-in-Ok-clause-mesh
returns-in-Ok-clause-mesh g c = c.requires.none
