-- The squares are those between the block's lines.
use Rattle.std.proofs.Common.{ap, sym, subst, ◌∙◌}
use Rattle.std.specs.List.{flat_map}
use Rattle.clip_regions.specs.declared.region.Region.{Region}
use Rattle.clip_regions.specs.Regions.{cells}
use Rattle.mesh_model.specs.Parts.{square_part, square_triangles}
use Rattle.mesh_plain_heights.specs.Placed.{ArePlaced}
use Rattle.mesh_plain.proofs.Blocks.{squares_placed}
use Rattle.mesh_plain.proofs.square_parts.block_part.Goals as goal

pub triangles_of-requires-clause-placed : goal.triangles_of-requires-clause-placed
triangles_of-requires-clause-placed c =
    subst (ArePlaced c.args.level) (sym c.squares_of-squares.ensures) (squares_placed c.args.level c.args.block.now c.requires.corners)

pub returns : goal.returns
unfolding square_part
returns c =
    let same = c.in_ok-triangles.ensures ∙ ap (λ (squares : Region). flat_map (λ cell. square_triangles c.args.vertices.now c.args.level cell.0 cell.1) (cells squares)) c.squares_of-squares.ensures in
    λ t. record { level = c.args.level; kind = c.args.kind; triangles = same t }
