-- One row more, and all rows are the cells of the region.
use Rattle.std.proofs.Common.{◌≡◌, ◌++◌, ap, sym, ◌∙◌, arith}
use Rattle.std.specs.List.{flat_map, range_with_len}
use Rattle.clip_regions.specs.Regions.{rows}
use Rattle.mesh_laws.specs.Rings.{ring_square, ring_triangles}
use Rattle.ring_mesh.specs.Squares.{square_row}
use Rattle.ring_mesh.proofs.Lists.{flat_map_more, flat_map_cells}
use Rattle.ring_mesh.proofs.squares.add_squares.Goals as goal

pub loop-v-preserved : goal.loop-v-preserved
loop-v-preserved c =
    flat_map_more (square_row c.args.finer.now c.args.ring.now c.args.squares.now) c.args.triangles.now.items c.loop-v.triangles.items c.add_row.new.triangles.items c.loop-v.v c.loop-v.invariant c.in_ok-add_row.ensures

pub returns : goal.returns
unfolding ring_triangles square_row
returns c =
    let squares = c.args.squares.now in
    let all : c.loop-v.v ≡ rows squares = omega (arith, c.rows-v-end.ensures.value) in
    c.loop-v.invariant
    ∙ ap (λ n. c.args.triangles.now.items ++ flat_map (square_row c.args.finer.now c.args.ring.now squares) (range_with_len 0 n)) all
    ∙ ap (λ list. c.args.triangles.now.items ++ list) (sym (flat_map_cells (λ cell. ring_square c.args.finer.now c.args.ring.now cell.0 cell.1) squares))
