use Rattle.std.proofs.Common.{◌≡◌, inl, inr, false, true, pos, ◌/◌, sym, ◌∙◌, rules, arith}
use Rattle.std.specs.Int.{w16, w32}
use mir.Val.{SFits, to_z}
use mathlib.Core.Path.{ap₂}
use Rattle.std.proofs.lemmas.Int.{to_z-of_z}
use Rattle.four_point.specs.Patches.{patch_height}
use Rattle.clip_regions.specs.Regions.{contains}
use Rattle.store_model.specs.Blocks.{is_coded}
use Rattle.store_writer.specs.Cells.{region_of}
use Rattle.store_writer.proofs.Restored.{cells_lie, cells_out, restored_none, restored_even, restored_coded, value_same, of_block_at}
use Rattle.store_writer.proofs.table.restored_at.Goals as goal
use Rattle.store_writer.proofs.table.restored_at.Goals.{then-i-cells-via-then-i-cells, then-i-cells-via-else-i-cells+then-j-cells}

pub returns-then-i-cells : goal.returns-then-i-cells
returns-then-i-cells g c =
    let C = g.C.Heights.heights c.args.coarser.now in
    let F = g.F.Heights.heights c.args.finer.now in
    let are = c.requires.cells in
    let out : contains (region_of c.args.cells) (pos c.args.i) (pos c.args.j) ≡ false =
    elim c.then-i-cells.branch [
      | then-i-cells-via-then-i-cells w ↦ cells_out c.args.cells c.args.i c.args.j are.some_columns are.some_rows (inl w.if-i-cells.true)
      | then-i-cells-via-else-i-cells+then-j-cells w ↦ cells_out c.args.cells c.args.i c.args.j are.some_columns are.some_rows (inr w.if-j-cells.true)
    ] in
    sym (restored_none C F c.args.step (region_of c.args.cells) (pos c.args.i) (pos c.args.j) out)

pub returns-then-not-is_coded : goal.returns-then-not-is_coded
returns-then-not-is_coded g c =
    let C = g.C.Heights.heights c.args.coarser.now in
    let F = g.F.Heights.heights c.args.finer.now in
    let r = c.requires in
    let inside = cells_lie c.args.cells c.args.i c.args.j r.first_column r.first_row (omega arith) (omega arith) in
    let even : is_coded (pos c.args.i) (pos c.args.j) ≡ false = sym c.if-not-is_coded.ensures in
    let i_is : to_z w32 (c.args.i / 2) ≡ pos (c.args.i / 2) = search rules in
    let j_is : to_z w32 (c.args.j / 2) ≡ pos (c.args.j / 2) = search rules in
    let fits : SFits w16 c.height.result = record { sfits = c.height.type_inv } in
    to_z-of_z w16 c.height.result fits
    ∙ c.height.ensures
    ∙ ap₂ C i_is j_is
    ∙ sym (restored_even C F c.args.step (region_of c.args.cells) c.args.i c.args.j inside even)

pub returns : goal.returns
returns g c =
    let C = g.C.Heights.heights c.args.coarser.now in
    let F = g.F.Heights.heights c.args.finer.now in
    let r = c.requires in
    let i = c.args.i in
    let j = c.args.j in
    let patch = c.args.predicted.now.patch.now in
    let inside = cells_lie c.args.cells i j r.first_column r.first_row (omega arith) (omega arith) in
    let coded : is_coded (pos i) (pos j) ≡ true = sym c.if-not-is_coded.ensures in
    let fits : SFits w16 c.coded_height.result = record { sfits = c.coded_height.type_inv } in
    let same = r.predictions (pos i) (pos j) (of_block_at patch.i0 c.args.cells.x0 i r.cells.block_column r.patch.column r.first_column r.last_column) (of_block_at patch.j0 c.args.cells.y0 j r.cells.block_row r.patch.row r.first_row r.last_row) in
    to_z-of_z w16 c.coded_height.result fits
    ∙ c.coded_height.ensures
    ∙ value_same (patch_height patch) C F c.args.step (pos i) (pos j) same
    ∙ sym (restored_coded C F c.args.step (region_of c.args.cells) (pos i) (pos j) inside coded)
