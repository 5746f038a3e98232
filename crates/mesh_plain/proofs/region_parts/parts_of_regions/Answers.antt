-- The squares of each level, and then the stitches.
use Rattle.std.proofs.Common.{List, ◌++◌, ap, ◌∙◌}
use Rattle.clip_regions.specs.Regions.{empty_region}
use Rattle.mesh_model.specs.Parts.{PartTriangles, square_parts_from, all_stitch_parts, parts_of_regions}
use Rattle.mesh_plain.proofs.region_parts.parts_of_regions.Goals as goal

pub returns : goal.returns
unfolding parts_of_regions
returns c =
    let squares = c.in_ok-add_squares.ensures ∙ ap (λ (before : List PartTriangles). before ++ square_parts_from c.args.vertices.now 0 empty_region c.args.actives.now) c.new-parts.ensures.items in
    record { value = c.in_ok-add_stitches.ensures ∙ ap (λ (before : List PartTriangles). before ++ all_stitch_parts c.args.vertices.now c.args.actives.now) squares }
