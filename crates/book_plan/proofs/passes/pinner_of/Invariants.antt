use Rattle.std.proofs.Common.{◌≡◌, None, fold, flat_map, take}
use Rattle.plan_model.specs.States.{Pass, frame_of}
use Rattle.plan_model.specs.Tiles.{pins_of, lesser}
use Rattle.book_plan.proofs.passes.pinner_of.Given as goal

abbrev pub invariant-loop-p : goal.invariant-loop-p
invariant-loop-p l =
    l.least ≡ fold lesser None (flat_map (λ (pass : Pass). pins_of l.fn.k l.fn.level l.fn.t (frame_of pass)) (take l.p l.fn.passes))
