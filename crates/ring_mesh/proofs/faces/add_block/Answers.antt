-- The squares of the block are those of the part.
use Rattle.std.proofs.Common.{◌+◌, ◌<◌, ◌^◌, length, sym, subst}
use Rattle.clip_regions.specs.declared.region.Region.{Region}
use Rattle.mesh_laws.specs.Rings.{ring_triangles, ring_part}
use Rattle.ring_mesh.specs.Squares.{HasSquares}
use Rattle.ring_mesh.specs.Added.{block_part}
use Rattle.ring_mesh.proofs.Added.{few_one}
use Rattle.ring_mesh.proofs.Blocks.{block_squares}
use Rattle.ring_mesh.proofs.faces.add_block.Goals as goal

pub add_squares_part-requires-clause-squares : goal.add_squares_part-requires-clause-squares
add_squares_part-requires-clause-squares c =
    subst (λ (squares : Region). HasSquares c.args.ring.now.active squares) (sym c.squares_of-squares.ensures) (block_squares c.args.ring.now.active c.args.block.now c.requires.block)

pub add_squares_part-requires-clause-few : goal.add_squares_part-requires-clause-few
unfolding ring_part
add_squares_part-requires-clause-few c =
    let few = few_one (block_part c.args.finer.now c.args.ring.now c.args.level c.args.kind c.args.block.now) (length c.args.faces.now.triangles.items) (2 ^ 31) c.requires.few in
    subst (λ (squares : Region). length c.args.faces.now.triangles.items + length (ring_triangles c.args.finer.now c.args.ring.now squares) < 2 ^ 31) (sym c.squares_of-squares.ensures) few
