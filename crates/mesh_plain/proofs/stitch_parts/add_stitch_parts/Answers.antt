-- An empty region has no border.
use Rattle.std.proofs.Common.{List, ◌++◌, ap, sym, ◌∙◌, append-nil}
use Rattle.mesh_model.specs.Parts.{PartTriangles}
use Rattle.mesh_plain.proofs.Borders.{no_stitch_parts}
use Rattle.mesh_plain.proofs.stitch_parts.add_stitch_parts.Goals as goal

pub returns-then-is_empty : goal.returns-then-is_empty
returns-then-is_empty c =
    sym (append-nil c.args.parts.now.items)
    ∙ ap (λ (more : List PartTriangles). c.args.parts.now.items ++ more) (sym (no_stitch_parts c.args.vertices.now c.args.level c.args.active.now (sym c.is_empty.ensures.value ∙ c.if-is_empty.true)))
