-- The listed cells can be drawn, and their vertices are those of the definition.
use Rattle.std.proofs.Common.{List, map, sym, ap, subst, ◌∙◌}
use Rattle.std.specs.List.{All}
use Rattle.mesh_model.specs.Vertices.{LevelCell, vertex_at, mesh_vertices}
use Rattle.mesh_plain_heights.specs.declared.places.Cell.{Cell}
use Rattle.mesh_plain.specs.Rings.{level_cell}
use Rattle.mesh_plain_heights.specs.Drawn.{IsDrawnCell}
use Rattle.mesh_plain.proofs.Spread.{all_active, all_drawn}
use Rattle.mesh_plain.proofs.vertices.mesh_vertices.Goals as goal
use Rattle.mesh_model.proofs.Ranges.{map_of_map}

pub listed_vertices-requires-clause-actives : goal.listed_vertices-requires-clause-actives
listed_vertices-requires-clause-actives c = all_active 0 c.args.actives.now c.requires.drawn

pub vertices_at-requires-clause-cells : goal.vertices_at-requires-clause-cells
vertices_at-requires-clause-cells c =
    subst (λ (cells : List Cell). All (IsDrawnCell c.args.actives.now) cells) (sym c.as_slice.ensures.value)
    (all_drawn c.args.actives.now c.in_ok-cells.cells.items c.requires.drawn c.in_ok-cells.ensures.value)

pub returns : goal.returns
unfolding mesh_vertices
returns c =
    let vertex = vertex_at c.args.terrain.now c.args.k c.args.actives.now in
    record {
      value = c.in_ok-vertices.ensures
          ∙ ap (λ (cells : List Cell). map (λ cell. vertex (level_cell cell)) cells) c.as_slice.ensures.value
          ∙ sym (map_of_map vertex level_cell c.in_ok-cells.cells.items)
          ∙ ap (λ (cells : List LevelCell). map vertex cells) c.in_ok-cells.ensures.value;
    }
