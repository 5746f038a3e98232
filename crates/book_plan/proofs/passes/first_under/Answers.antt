use Rattle.std.proofs.Common.{◌≡◌, ℕ, Option, None, fold, take, refl, ap, ◌∙◌, arith}
use Rattle.plan_model.specs.declared.tiles.TileId.{TileId}
use Rattle.plan_model.specs.States.{Pass, job_of}
use Rattle.book_plan.specs.Found.{earlier, job_under, first_under}
use Rattle.book_plan.proofs.Freed.{fold_to}
use Rattle.book_plan.proofs.passes.first_under.Goals as goal

pub returns : goal.returns
unfolding first_under
returns c =
    let at_end : c.loop-p.p ≡ c.args.used = omega arith in
    let more = λ (first : Option TileId) (pass : Pass). earlier first (job_under c.args.k c.args.level c.args.region (job_of pass)) in
    c.loop-p.invariant ∙ ap (λ (n : ℕ). fold more None (take n c.args.passes.now)) at_end ∙ fold_to more None c.args.passes.now c.args.used (λ first. refl) c.requires.free
