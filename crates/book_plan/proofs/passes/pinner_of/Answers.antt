use Rattle.std.proofs.Common.{◌≡◌, ℕ, None, fold, flat_map, take, refl, ap, ◌∙◌, arith}
use Rattle.plan_model.specs.States.{Pass, frame_of}
use Rattle.plan_model.specs.Tiles.{pins_of, lesser}
use Rattle.book_plan.proofs.Freed.{flat_to}
use Rattle.book_plan.proofs.passes.pinner_of.Goals as goal

pub returns : goal.returns
returns c =
    let at_end : c.loop-p.p ≡ c.args.used = omega arith in
    let pins = λ (pass : Pass). pins_of c.args.k c.args.level c.args.t (frame_of pass) in
    record { value = c.loop-p.invariant ∙ ap (λ (n : ℕ). fold lesser None (flat_map pins (take n c.args.passes.now))) at_end ∙ ap (fold lesser None) (flat_to pins c.args.passes.now c.args.used refl c.requires.free) }
