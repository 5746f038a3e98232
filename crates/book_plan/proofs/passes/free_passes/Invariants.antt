use Rattle.std.proofs.Common.{◌≡◌, replicate}
use Rattle.plan_model.specs.declared.events.Work.TheVariants.{Free}
use Rattle.book_plan.proofs.passes.free_passes.Given as goal

abbrev pub invariant-made : goal.invariant-made
invariant-made l = l.out.items ≡ replicate l.counter Free
