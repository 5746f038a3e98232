-- One row more is the rows up to the next, and all rows are those of the region.
use Rattle.std.proofs.Common.{◌≡◌, ℕ, ◌++◌, List, ap, ◌∙◌, sym, arith}
use Rattle.std.specs.List.{range_with_len, flat_map}
use Rattle.clip_regions.specs.Regions.{columns, rows}
use Rattle.mesh_model.specs.Parts.{square_triangles}
use Rattle.mesh_plain.specs.Strips.{strip_square}
use Rattle.mesh_plain.proofs.Grids.{rows_more}
use Rattle.mesh_plain.proofs.triangles.block_triangles.Goals as goal
use Rattle.mesh_model.proofs.Ranges.{flat_map_grid}

pub loop-v-preserved : goal.loop-v-preserved
loop-v-preserved c =
    let row = λ (v : ℕ). flat_map (strip_square c.args.vertices.now c.args.level c.args.squares.now v) (range_with_len 0 (columns c.args.squares.now)) in
    c.in_ok-add_strip.ensures
    ∙ ap (λ (before : List (List ℕ)). before ++ row c.loop-v.v) c.loop-v.invariant
    ∙ sym (rows_more row c.loop-v.v)

pub returns : goal.returns
returns c =
    record {
      value =
          let row = λ (v : ℕ). flat_map (strip_square c.args.vertices.now c.args.level c.args.squares.now v) (range_with_len 0 (columns c.args.squares.now)) in
          let all : c.loop-v.v ≡ rows c.args.squares.now = omega (arith, c.rows-v-end.ensures.value) in
          c.loop-v.invariant
          ∙ ap (λ (n : ℕ). flat_map row (range_with_len 0 n)) all
          ∙ sym (flat_map_grid (λ cell. square_triangles c.args.vertices.now c.args.level cell.0 cell.1) c.args.squares.now.x0 c.args.squares.now.y0 (columns c.args.squares.now) (rows c.args.squares.now));
    }
