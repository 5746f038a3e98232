-- The product of the two sides is the definition's number, and that is how many cells the list has.
use Rattle.std.proofs.Common.{◌∙◌, sym, arith, ℤ, pos, ◌+ℤ◌, ◌-ℤ◌}
use Rattle.std.proofs.lemmas.Int.{ints}
use mir.Syntax.{w32}
use mir.Val.{of_z, to_z}
use Rattle.clip_regions.proofs.Cells.{HasCell, has_cell}
use Rattle.clip_regions.proofs.Sizes.{area_of, no_area, area_none, length_cells}
use Rattle.clip_regions.proofs.region.Region.area.Goals as goal

pub returns-then-is_empty-clause-value : goal.returns-then-is_empty-clause-value
returns-then-is_empty-clause-value c = sym (no_area c.args.self (sym c.if-is_empty.ensures.value))

pub returns-then-is_empty-clause-cells : goal.returns-then-is_empty-clause-cells
returns-then-is_empty-clause-cells c = returns-then-is_empty-clause-value c ∙ length_cells c.args.self

pub returns-then-is_empty-clause-none : goal.returns-then-is_empty-clause-none
returns-then-is_empty-clause-none c = area_none c.args.self 0 (returns-then-is_empty-clause-value c)

pub overflow_cast-columns : goal.overflow_cast-columns
overflow_cast-columns c =
    let some : HasCell c.args.self = has_cell c.args.self (sym c.if-is_empty.ensures.value) in
    omega (arith, ints)

pub overflow_cast-rows : goal.overflow_cast-rows
overflow_cast-rows c =
    let some : HasCell c.args.self = has_cell c.args.self (sym c.if-is_empty.ensures.value) in
    omega (arith, ints)

pub returns-clause-value : goal.returns-clause-value
returns-clause-value c =
    let some : HasCell c.args.self = has_cell c.args.self (sym c.if-is_empty.ensures.value) in
    let across : ℤ = to_z w32 (of_z w32 (to_z w32 (of_z w32 (to_z w32 (of_z w32 c.args.self.x1) -ℤ to_z w32 (of_z w32 c.args.self.x0))) +ℤ pos 1)) in
    let along : ℤ = to_z w32 (of_z w32 (to_z w32 (of_z w32 (to_z w32 (of_z w32 c.args.self.y1) -ℤ to_z w32 (of_z w32 c.args.self.y0))) +ℤ pos 1)) in
    area_of c.args.self across along some (omega (arith, ints)) (omega (arith, ints))

pub returns-clause-cells : goal.returns-clause-cells
returns-clause-cells c = returns-clause-value c ∙ length_cells c.args.self

pub returns-clause-none : goal.returns-clause-none
returns-clause-none c = area_none c.args.self _ (returns-clause-value c)
