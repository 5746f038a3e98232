-- One more pass at each turn.
use Rattle.std.proofs.Common.{◌≡◌, ℕ, ◌<◌, filter, length, slice_index_or, ap, ◌∙◌, arith}
use Rattle.std.specs.List.{range_with_len}
use Rattle.std.proofs.lemmas.List.{get_or_default}
use Rattle.plan_model.specs.Strips.{first_of}
use Rattle.plan_model.specs.States.{Pass, job_of}
use Rattle.plan_model.specs.Tiles.{job_holds}
use Rattle.plan_model.specs.declared.events.Work.TheVariants.{Free}
use Rattle.book_plan.proofs.Firsts.{first_more}
use Rattle.book_plan.proofs.Freed.{first_to}
use Rattle.book_plan.proofs.passes.holder_of.Goals as goal

pub loop-p-preserved : goal.loop-p-preserved
loop-p-preserved c =
    let inside : c.loop-p.p < length c.args.passes.now = omega (arith, c.loop-p-test.true, c.requires.used) in
    c.or_found-first.ensures.value ∙ first_more (λ (p : ℕ). job_holds c.args.k c.args.level c.args.t (job_of (slice_index_or c.args.passes.now p Free))) c.loop-p.p c.loop-p.first c.job_holds-found.result (c.job_holds-found.ensures.value ∙ ap (job_holds c.args.k c.args.level c.args.t) (c.job_of.ensures.value ∙ ap job_of (c.index-passes-p.is ∙ get_or_default c.args.passes.now c.loop-p.p c.index-passes-p.result Free inside))) c.loop-p.invariant

pub returns : goal.returns
returns c =
    let at_end : c.loop-p.p ≡ c.args.used = omega arith in
    let test = λ (p : ℕ). job_holds c.args.k c.args.level c.args.t (job_of (slice_index_or c.args.passes.now p Free)) in
    record { value = c.loop-p.invariant ∙ ap (λ (n : ℕ). first_of (filter test (range_with_len 0 n))) at_end ∙ first_to test c.args.used (length c.args.passes.now) c.requires.used (λ p l. ap (λ (pass : Pass). job_holds c.args.k c.args.level c.args.t (job_of pass)) (c.requires.free p l)) }
