-- The cells that are added are those of the definition.
use Rattle.std.proofs.Common.{◌++◌, List, ap, ◌∙◌}
use Rattle.mesh_plain_heights.specs.declared.places.Cell.{Cell}
use Rattle.mesh_plain.proofs.Listed.{level_more}
use Rattle.mesh_plain.proofs.rings.add_level.Goals as goal

pub returns : goal.returns
returns c =
    c.in_ok-add_outside.ensures
    ∙ ap (λ (more : List Cell). c.args.listed.now.items ++ more) (level_more c.args.level c.args.finer.now c.args.active.now c.hole.result c.as_slice.result.now c.hole.ensures.value (c.as_slice.ensures.value ∙ c.in_ok-cells.ensures.value))
