use Rattle.std.proofs.Common.{List, All, sym, subst, ◌∙◌}
use Rattle.std.proofs.lemmas.List.Elements.{All-push}
use Rattle.decode_rounds.specs.declared.tasks.Task.{Task}
use Rattle.decode_rounds.specs.declared.tasks.Task.TheVariants as T
use Rattle.decode_rounds.specs.Rounds.{IsTaskOf}
use Rattle.decode_rounds.proofs.tests.desk.more_jobs.Goals as goal

pub loop-pass-preserved : goal.loop-pass-preserved
loop-pass-preserved c =
    let book = c.args.book.now in
    let land = c.claim.ensures.does.land ∙ c.loop-pass.invariant.0 in (
      land,
      subst (λ (l : List Task). All (IsTaskOf book) l) (sym {A = List Task} c.in_ok-push-in-Job.ensures.items)
          (All-push (IsTaskOf book) c.loop-pass.tasks.items (T.Fill c.loop-pass.pass c.in-Job.job) c.loop-pass.invariant.1 (c.in-Job.ensures.job.land ∙ land)),
    )
