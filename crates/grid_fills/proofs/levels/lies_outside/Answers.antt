use Rattle.std.proofs.Common.{◌≡◌, inl, inr, false, arith}
use Rattle.std.proofs.lemmas.Int.{ints}
use Rattle.clip_regions.specs.Regions.{contains}
use Rattle.store_model.specs.Sizes.{level_region}
use Rattle.store_writer.proofs.Outside.{out_of_columns, out_of_rows}
use Rattle.grid_fills.proofs.levels.lies_outside.Goals as goal
use Rattle.grid_fills.proofs.levels.lies_outside.Goals.{then-cells-lt0-via-then-cells-lt0, then-cells-lt0-via-else-cells-lt0+then-cells-lt0-2, then-cells-lt0-via-else-cells-lt0+else-cells-lt0-2+then-from, then-cells-lt0-via-else-cells-lt0+else-cells-lt0-2+else-from+then-from-2}

pub returns-then-cells-lt0 : goal.returns-then-cells-lt0
returns-then-cells-lt0 c = λ t i j west east north south.
    let terrain = c.args.grid.now in
    let level = c.args.level in
    let size = c.level_size-columns in
    let out : contains (level_region terrain.width terrain.height level) i j ≡ false =
    elim c.then-cells-lt0.branch [
      | then-cells-lt0-via-then-cells-lt0 w ↦ out_of_columns terrain level size.result.0 i j size.ensures.columns (inl (omega (arith, ints)))
      | then-cells-lt0-via-else-cells-lt0+then-cells-lt0-2 w ↦ out_of_rows terrain level size.result.1 i j size.ensures.rows (inl (omega (arith, ints)))
      | then-cells-lt0-via-else-cells-lt0+else-cells-lt0-2+then-from w ↦ out_of_columns terrain level size.result.0 i j size.ensures.columns (inr (omega (arith, ints)))
      | then-cells-lt0-via-else-cells-lt0+else-cells-lt0-2+else-from+then-from-2 w ↦ out_of_rows terrain level size.result.1 i j size.ensures.rows (inr (omega (arith, ints)))
    ] in
    c.level_outside.ensures terrain level i j c.width-width.ensures.terrain out
