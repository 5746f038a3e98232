-- One row more is the rows up to the next, and all rows are the cells of the region.
use Rattle.std.proofs.Common.{◌≡◌, ℕ, ◌++◌, List, map, ap, ◌∙◌, sym, arith}
use Rattle.std.specs.List.{range_with_len, flat_map}
use Rattle.clip_regions.specs.Regions.{columns, rows}
use Rattle.mesh_plain_heights.specs.declared.places.Cell.{Cell}
use Rattle.mesh_plain.specs.Cells.{cell_in, named}
use Rattle.mesh_plain.proofs.Grids.{rows_more}
use Rattle.mesh_plain.proofs.cells.region_cells.Goals as goal
use Rattle.mesh_model.proofs.Ranges.{map_grid}

pub loop-v-preserved : goal.loop-v-preserved
loop-v-preserved c =
    let row = λ (v : ℕ). map (cell_in c.args.level c.args.region.now v) (range_with_len 0 (columns c.args.region.now)) in
    c.in_ok-add_row.ensures
    ∙ ap (λ (before : List Cell). before ++ row c.loop-v.v) c.loop-v.invariant
    ∙ sym (rows_more row c.loop-v.v)

pub returns : goal.returns
returns c =
    record {
      value =
          let row = λ (v : ℕ). map (cell_in c.args.level c.args.region.now v) (range_with_len 0 (columns c.args.region.now)) in
          let all : c.loop-v.v ≡ rows c.args.region.now = omega (arith, c.rows-v-end.ensures.value) in
          c.loop-v.invariant
          ∙ ap (λ (n : ℕ). flat_map row (range_with_len 0 n)) all
          ∙ sym (map_grid (named c.args.level) c.args.region.now.x0 c.args.region.now.y0 (columns c.args.region.now) (rows c.args.region.now));
    }
