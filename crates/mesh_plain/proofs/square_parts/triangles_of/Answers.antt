-- A region that has a cell lies as near as its corners, and an empty one has no square.
use Rattle.std.proofs.Common.{ℤ, List, ap, sym, ◌∙◌}
use Rattle.std.specs.List.{flat_map}
use Rattle.mesh_model.specs.Parts.{square_triangles}
use Rattle.mesh_plain.proofs.Blocks.{squares_within, no_cells}
use Rattle.mesh_plain.proofs.square_parts.triangles_of.Goals as goal

pub block_triangles-requires-clause-within : goal.block_triangles-requires-clause-within
block_triangles-requires-clause-within c =
    squares_within c.args.level c.args.squares.now c.requires.placed (sym c.is_empty.ensures.value ∙ c.if-is_empty.false)

pub returns-then-is_empty : goal.returns-then-is_empty
returns-then-is_empty c =
    c.new.ensures.items
    ∙ ap (λ (cells : List (ℤ × ℤ)). flat_map (λ cell. square_triangles c.args.vertices.now c.args.level cell.0 cell.1) cells) (sym (no_cells c.args.squares.now (sym c.is_empty.ensures.value ∙ c.if-is_empty.true)))
