use Rattle.std.proofs.Common.{◌≡◌, inl, inr, false, sym, arith}
use Rattle.std.proofs.lemmas.Int.{ints}
use Rattle.clip_regions.specs.Regions.{contains}
use Rattle.store_model.specs.Sizes.{level_region}
use Rattle.store_writer.proofs.Outside.{out_of_columns, out_of_rows, column_reach, row_reach}
use Rattle.grid_fills.proofs.levels.height_of.Goals as goal
use Rattle.grid_fills.proofs.levels.height_of.Goals.{then-i-lt0-via-then-i-lt0, then-i-lt0-via-else-i-lt0+then-j-lt0, then-i-lt0-via-else-i-lt0+else-j-lt0+then-i-columns, then-i-lt0-via-else-i-lt0+else-j-lt0+else-i-columns+then-j-rows}

pub returns-then-i-lt0 : goal.returns-then-i-lt0
returns-then-i-lt0 c =
    let terrain = c.args.grid.now in
    let level = c.args.level in
    let i = c.args.i in
    let j = c.args.j in
    let size = c.level_size-columns in
    let out : contains (level_region terrain.width terrain.height level) i j ≡ false =
    elim c.then-i-lt0.branch [
      | then-i-lt0-via-then-i-lt0 w ↦ out_of_columns terrain level size.result.0 i j size.ensures.columns (inl (omega (arith, ints)))
      | then-i-lt0-via-else-i-lt0+then-j-lt0 w ↦ out_of_rows terrain level size.result.1 i j size.ensures.rows (inl (omega (arith, ints)))
      | then-i-lt0-via-else-i-lt0+else-j-lt0+then-i-columns w ↦ out_of_columns terrain level size.result.0 i j size.ensures.columns (inr (omega (arith, ints)))
      | then-i-lt0-via-else-i-lt0+else-j-lt0+else-i-columns+then-j-rows w ↦ out_of_rows terrain level size.result.1 i j size.ensures.rows (inr (omega (arith, ints)))
    ] in
    sym (c.level_outside.ensures terrain level i j c.width-width.ensures.terrain out)

pub level_height-requires-clause-column : goal.level_height-requires-clause-column
level_height-requires-clause-column c =
    let size = c.level_size-columns in
    column_reach c.args.grid.now c.args.level size.result.0 c.args.i c.width-width.ensures.terrain size.ensures.columns c.ranges.i (omega (arith, ints)) (omega (arith, ints))

pub level_height-requires-clause-row : goal.level_height-requires-clause-row
level_height-requires-clause-row c =
    let size = c.level_size-columns in
    row_reach c.args.grid.now c.args.level size.result.1 c.args.j c.width-width.ensures.terrain size.ensures.rows c.ranges.j (omega (arith, ints)) (omega (arith, ints))
