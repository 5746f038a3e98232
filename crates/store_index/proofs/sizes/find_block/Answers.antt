use Rattle.std.proofs.Common.{◌⊎◌, ℤ, pos, ◌<ℤ◌, ◌≤ℤ◌, sym, ◌∙◌, subst}
use Rattle.std.specs.Int.{w32}
use Rattle.std.proofs.lemmas.Int.{to_z-of_z}
use Rattle.store_reader.specs.Headers.{head_of}
use Rattle.store_index.proofs.Counts.{no_column, no_row, place_found}
use Rattle.store_index.proofs.sizes.find_block.Goals as goal

pub returns-in_default-clause-none : goal.returns-in_default-clause-none
returns-in_default-clause-none c =
    let bare = to_z-of_z w32 c.args.bx c.ranges.bx in
    no_column (head_of c.args.header) c.args.level _ _ c.args.bx c.args.by c.cells_on-columns.ensures.value c.blocks_on-across.ensures.value c.cells_on-columns.ensures.some
    (subst (λ (b : ℤ). (b <ℤ pos 0) ⊎ (pos c.blocks_on-across.result ≤ℤ b)) bare c.in_default.ensures.none)

pub returns-in_default-index_in-clause-none : goal.returns-in_default-index_in-clause-none
returns-in_default-index_in-clause-none c =
    let bare = to_z-of_z w32 c.args.by c.ranges.by in
    no_row (head_of c.args.header) c.args.level _ _ c.args.bx c.args.by c.cells_on-rows.ensures.value c.blocks_on-down.ensures.value c.cells_on-rows.ensures.some
    (subst (λ (b : ℤ). (b <ℤ pos 0) ⊎ (pos c.blocks_on-down.result ≤ℤ b)) bare c.in_default-index_in.ensures.none)

pub returns-clause-found : goal.returns-clause-found
returns-clause-found c =
    let cells = c.cells_of.ensures in
    let west = sym (to_z-of_z w32 c.args.bx c.ranges.bx) ∙ c.in-Some.ensures.value in
    let north = sym (to_z-of_z w32 c.args.by c.ranges.by) ∙ c.in-Some-index_in.ensures.value in
    place_found c.args.header c.args.level c.in-Some.x c.in-Some-index_in.y c.number_in-k.result c.blocks_before.result _ _ _ _ c.args.bx c.args.by c.cells_of.result c.if-level-header.false c.cells_on-columns.ensures.value c.cells_on-rows.ensures.value c.blocks_on-across.ensures.value c.blocks_on-down.ensures.value west north c.in-Some.ensures.below c.in-Some-index_in.ensures.below c.number_in-k.ensures.value c.blocks_before.ensures.value cells.west cells.north cells.east cells.south
