use Rattle.std.proofs.Common.{◌≡◌, None, fold, take}
use Rattle.plan_model.specs.States.{job_of}
use Rattle.plan_model.specs.States.{Pass}
use Rattle.book_plan.specs.Found.{earlier, job_under}
use Rattle.book_plan.proofs.passes.first_under.Given as goal

abbrev pub invariant-loop-p : goal.invariant-loop-p
invariant-loop-p l =
    l.first ≡ fold (λ first (pass : Pass). earlier first (job_under l.fn.k l.fn.level l.fn.region (job_of pass))) None (take l.p l.fn.passes)
