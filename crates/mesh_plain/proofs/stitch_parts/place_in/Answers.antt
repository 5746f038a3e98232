-- The cell lies in the region.
use Rattle.std.proofs.Common.{arith, sym, subst}
use Rattle.mesh_plain_heights.specs.declared.places.Cell.{Cell}
use Rattle.mesh_plain_heights.specs.Placed.{IsPlacedAt}
use Rattle.mesh_plain.proofs.Borders.{column_placed, row_placed, few_columns, few_rows}
use Rattle.mesh_plain.proofs.stitch_parts.place_in.Goals as goal

pub cell_at-requires-clause-column : goal.cell_at-requires-clause-column
cell_at-requires-clause-column c = omega (arith, few_columns c.args.level c.args.active.now c.requires.corners)

pub cell_at-requires-clause-row : goal.cell_at-requires-clause-row
cell_at-requires-clause-row c = omega (arith, few_rows c.args.level c.args.active.now c.requires.corners)

pub corner_place-requires-clause-i : goal.corner_place-requires-clause-i
corner_place-requires-clause-i c =
    subst (λ (cell : Cell). IsPlacedAt cell.level cell.i) (sym c.cell_at.ensures)
    (column_placed c.args.level c.args.active.now c.args.u c.requires.corners c.requires.column)

pub corner_place-requires-clause-j : goal.corner_place-requires-clause-j
corner_place-requires-clause-j c =
    subst (λ (cell : Cell). IsPlacedAt cell.level cell.j) (sym c.cell_at.ensures)
    (row_placed c.args.level c.args.active.now c.args.v c.requires.corners c.requires.row)
