use Rattle.std.proofs.Common.{◌≡◌, true, sym, ◌∙◌}
use Rattle.clip_regions.specs.Regions.{is_empty}
use Rattle.plan_model.specs.Window.{margin}
use Rattle.active_region.proofs.Drawn.{active_of_none}
use Rattle.active_region.proofs.drawing.active_of.Goals as goal

pub returns-then-is_empty : goal.returns-then-is_empty
returns-then-is_empty c =
    let none : is_empty c.args.filled ≡ true = sym c.if-is_empty.ensures.value in
    record { value = c.empty.ensures.value ∙ sym (active_of_none (margin c.args.k) c.args.filled c.args.coarser.now none) }
