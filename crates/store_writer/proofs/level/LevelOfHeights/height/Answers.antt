use Rattle.std.proofs.Common.{◌≡◌, inl, inr, false, sym, arith}
use Rattle.std.proofs.lemmas.Int.{ints}
use Rattle.clip_regions.specs.Regions.{contains}
use Rattle.store_model.specs.Sizes.{level_region}
use Rattle.store_writer.proofs.Outside.{out_of_columns, out_of_rows, column_reach, row_reach}
use Rattle.store_writer.proofs.level.LevelOfHeights.height.Goals as goal
use Rattle.store_writer.proofs.level.LevelOfHeights.height.Goals.{then-a-lt0-via-then-a-lt0, then-a-lt0-via-else-a-lt0+then-b-lt0, then-a-lt0-via-else-a-lt0+else-b-lt0+then-a-self, then-a-lt0-via-else-a-lt0+else-b-lt0+else-a-self+then-b-self}

pub returns-then-a-lt0 : goal.returns-then-a-lt0
returns-then-a-lt0 c =
    let l = c.args.self.now in
    let terrain = l.grid.now in
    let i = c.args.a in
    let j = c.args.b in
    let out : contains (level_region terrain.width terrain.height l.level) i j ≡ false =
    elim c.then-a-lt0.branch [
      | then-a-lt0-via-then-a-lt0 w ↦ out_of_columns terrain l.level l.columns i j l.columns_are (inl (omega (arith, ints)))
      | then-a-lt0-via-else-a-lt0+then-b-lt0 w ↦ out_of_rows terrain l.level l.rows i j l.rows_are (inl (omega (arith, ints)))
      | then-a-lt0-via-else-a-lt0+else-b-lt0+then-a-self w ↦ out_of_columns terrain l.level l.columns i j l.columns_are (inr (omega (arith, ints)))
      | then-a-lt0-via-else-a-lt0+else-b-lt0+else-a-self+then-b-self w ↦ out_of_rows terrain l.level l.rows i j l.rows_are (inr (omega (arith, ints)))
    ] in
    sym (c.level_outside.ensures terrain l.level i j c.width-width.ensures.terrain out)

pub level_height-requires-clause-column : goal.level_height-requires-clause-column
level_height-requires-clause-column c =
    let l = c.args.self.now in
    column_reach l.grid.now l.level l.columns c.args.a c.width-width.ensures.terrain l.columns_are c.ranges.a (omega (arith, ints)) (omega (arith, ints))

pub level_height-requires-clause-row : goal.level_height-requires-clause-row
level_height-requires-clause-row c =
    let l = c.args.self.now in
    row_reach l.grid.now l.level l.rows c.args.b c.width-width.ensures.terrain l.rows_are c.ranges.b (omega (arith, ints)) (omega (arith, ints))
