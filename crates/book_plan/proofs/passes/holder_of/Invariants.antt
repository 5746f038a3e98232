use Rattle.std.proofs.Common.{◌≡◌, ℕ, filter, slice_index_or}
use Rattle.std.specs.List.{range_with_len}
use Rattle.plan_model.specs.Strips.{first_of}
use Rattle.plan_model.specs.States.{job_of}
use Rattle.plan_model.specs.Tiles.{job_holds}
use Rattle.plan_model.specs.declared.events.Work.TheVariants.{Free}
use Rattle.book_plan.proofs.passes.holder_of.Given as goal

abbrev pub invariant-loop-p : goal.invariant-loop-p
invariant-loop-p l =
    l.first ≡ first_of (filter (λ (p : ℕ). job_holds l.fn.k l.fn.level l.fn.t (job_of (slice_index_or l.fn.passes p Free))) (range_with_len 0 l.p))
