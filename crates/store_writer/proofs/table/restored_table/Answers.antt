use Rattle.std.proofs.Common.{◌≡◌, ◌∙◌, ◌++◌, ℕ, ℤ, List, ap, sym, arith}
use mathlib.Core.Path.{ap₂}
use Rattle.clip_regions.specs.declared.region.Region.{Region}
use Rattle.terrain_model.specs.Terrain.{level_height}
use Rattle.store_model.specs.Sizes.{cells_on, blocks_on, block_count, block_region}
use Rattle.store_writer.specs.Tables.{restored_in, block_heights}
use Rattle.store_writer.proofs.Tables.{blocks_before, blocks_none, blocks_more, first_cell, table_of_level}
use Rattle.store_writer.proofs.table.restored_table.Goals as goal

pub loop-k-init : goal.loop-k-init
loop-k-init g c =
    let t = c.args.grid.now in
    c.new-heights.ensures.items
    ∙ sym (blocks_none (λ k. restored_in (g.C.Heights.heights c.args.coarser.now) (level_height t c.args.level) c.args.step (block_region t.width t.height c.args.level k)) (blocks_on (cells_on t.width c.args.level)))

pub loop-k-preserved : goal.loop-k-preserved
loop-k-preserved g c =
    let t = c.args.grid.now in
    let l = c.args.level in
    let e = c.new-finer.ensures in
    let k = c.loop-k.k in
    let C = g.C.Heights.heights c.args.coarser.now in
    let across = blocks_on (cells_on t.width l) in
    let H = λ (k : ℕ). restored_in C (level_height t l) c.args.step (block_region t.width t.height l k) in
    let finer = ap₂ level_height e.grid e.level in
    let cells = c.cells_of_block.ensures in
    c.in_ok-append_restored.ensures
    ∙ ap₂ (λ (xs ys : List ℤ). xs ++ ys) c.loop-k.invariant
    (ap₂ (λ (f : ℤ → ℤ → ℤ) (r : Region). block_heights (restored_in C f c.args.step r) c.cells_of_block.result.x0 c.cells_of_block.result.y0) finer cells.region
    ∙ ap₂ (λ (x y : ℕ). block_heights (H k) x y) cells.first_column cells.first_row
    ∙ first_cell (H k) t.width l k)
    ∙ sym (blocks_more H across k)

pub returns : goal.returns
returns g c =
    let t = c.args.grid.now in
    let l = c.args.level in
    let C = g.C.Heights.heights c.args.coarser.now in
    let end = c.block_count-k-end.ensures.value in
    let whole : c.loop-k.k ≡ block_count t.width t.height l = omega arith in
    let H = λ (k : ℕ). restored_in C (level_height t l) c.args.step (block_region t.width t.height l k) in
    table_of_level C (level_height t l) c.args.step t.width t.height l c.blocks_across.result c.loop-k.heights.items c.blocks_across.ensures.value
    (c.loop-k.invariant ∙ ap (blocks_before H (blocks_on (cells_on t.width l))) whole)
