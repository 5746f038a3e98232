use Rattle.std.proofs.Common.{◌≡◌, ◌+◌, ◌≤◌, ℕ, List, [], ◌∷◌, ◌++◌, length, arith, sym, ap, subst, ◌∙◌}
use Rattle.std.proofs.lemmas.List.{length_push}
use Rattle.decode_rounds.specs.declared.tasks.Task.{Task}
use Rattle.decode_rounds.specs.declared.tasks.Task.TheVariants as T
use Rattle.clip_book.specs.Books.{IsJobOf}
use Rattle.decode_rounds.specs.Homes.{AreJobTasks}
use Rattle.decode_rounds.proofs.Homes.{tasks_stay, job_more}
use Rattle.decode_rounds.proofs.tests.desk.claimed.Goals as goal

pub returns-in_default : goal.returns-in_default
returns-in_default c =
    let tasks = c.loop-pass.tasks.items in
    let many : length tasks ≡ c.loop-pass.pass = c.loop-pass.invariant.1 in
    let low : 0 + length tasks ≤ c.loop-pass.pass = omega arith in
    record {
      land = c.claim.ensures.does.land ∙ c.loop-pass.invariant.0;
      jobs = tasks_stay c.loop-pass.pass _ _ c.loop-pass.book c.claim.new.self c.claim.ensures.does c.others_keep_parts.ensures 0 tasks low c.loop-pass.invariant.2;
    }

pub loop-pass-preserved : goal.loop-pass-preserved
loop-pass-preserved c =
    let book = c.claim.new.self in
    let tasks = c.loop-pass.tasks.items in
    let job = c.in-Job.job in
    let pass = c.loop-pass.pass in
    let many : length tasks ≡ pass = c.loop-pass.invariant.1 in
    let low : 0 + length tasks ≤ pass = omega arith in
    let same : 0 + length tasks ≡ pass = omega arith in
    let before = tasks_stay pass _ _ c.loop-pass.book book c.claim.ensures.does c.others_keep_parts.ensures 0 tasks low c.loop-pass.invariant.2 in
    let its = subst (λ (n : ℕ). IsJobOf book n job) (sym same) c.in-Job.ensures.job in
    let more = subst (λ (n : ℕ). AreJobTasks book 0 (tasks ++ T.Fill n job ∷ [])) same (job_more book 0 tasks job before its) in
    let items = c.in_ok-push-in-Job.ensures.items in (
      c.claim.ensures.does.land ∙ c.loop-pass.invariant.0,
      ap (λ (l : List Task). length l) items ∙ (length_push tasks (T.Fill pass job) ∙ ap (λ (n : ℕ). n + 1) many),
      subst (λ (l : List Task). AreJobTasks book 0 l) (sym {A = List Task} items) more,
    )
