-- An empty region has no border.
use Rattle.std.proofs.Common.{List, sym, ◌∙◌, subst}
use Rattle.mesh_model.specs.Parts.{PartTriangles}
use Rattle.ring_mesh.specs.Added.{Adds}
use Rattle.stitches.proofs.Added.{none_added, no_stitches}
use Rattle.stitches.proofs.borders.add_border.Goals as goal

pub returns-then-is_empty : goal.returns-then-is_empty
returns-then-is_empty c =
    let t = c.args.faces.now.triangles.items in
    let p = c.args.faces.now.parts.items in
    subst (λ (ps : List PartTriangles). Adds c.args.vertices.now ps t p t p)
    (sym (no_stitches c.args.level c.args.ring.now (sym c.is_empty.ensures.value ∙ c.if-is_empty.true))) (none_added c.args.vertices.now t p)
