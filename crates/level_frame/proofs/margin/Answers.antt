use Rattle.plan_model.specs.Window.{blend_width, margin}
use Rattle.level_frame.proofs.Centers.{margin_is}
use Rattle.level_frame.proofs.margin.Goals as goal

pub returns-clause-value : goal.returns-clause-value
unfolding margin
returns-clause-value c =
    margin_is c.blend_width.result c.max.result (blend_width c.args.k) (record { sfits = c.blend_width.type_inv }) (record { sfits = c.max.type_inv }) c.blend_width.ensures.value c.max.ensures.value
