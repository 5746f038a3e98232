use Rattle.std.proofs.Common.{◌≡◌, ◌++◌, ◌∙◌, ℤ, List, ap, sym, arith}
use Rattle.four_point.specs.Patches.{patch_height}
use mathlib.Core.Path.{ap₂}
use Rattle.store_writer.specs.Entries.{code_over, rows_codes}
use Rattle.store_writer.specs.Cells.{region_of}
use Rattle.store_writer.proofs.Rows.{rows_none, rows_more, rows_all}
use Rattle.store_writer.proofs.Blocks.{rows_of, codes_row_is}
use Rattle.store_writer.proofs.block.codes_of.Goals as goal

pub loop-b-init : goal.loop-b-init
loop-b-init g c =
    let code = code_over (patch_height c.args.predicted.now.patch.now) (g.F.Heights.heights c.args.finer.now) c.args.step in
    let e = c.none-codes.ensures in
    record { few = omega arith; list = e.list ∙ sym (rows_none code (region_of c.args.cells)) }

pub loop-b-preserved : goal.loop-b-preserved
loop-b-preserved g c =
    let code = code_over (patch_height c.args.predicted.now.patch.now) (g.F.Heights.heights c.args.finer.now) c.args.step in
    let i = c.loop-b.invariant in
    let e = c.push_row.ensures in
    let few_columns = c.requires.cells.few_columns in
    record {
      few = omega arith;
      list =
          e.list
          ∙ ap₂ (λ (xs ys : List ℤ). xs ++ ys) i.list (sym (codes_row_is code c.args.cells c.loop-b.b c.requires.cells.some_columns))
          ∙ sym (rows_more code (region_of c.args.cells) c.loop-b.b);
    }

pub returns : goal.returns
returns g c =
    let code = code_over (patch_height c.args.predicted.now.patch.now) (g.F.Heights.heights c.args.finer.now) c.args.step in
    let whole : c.loop-b.b ≡ c.args.cells.rows = omega arith in
    c.loop-b.invariant.list
    ∙ ap (rows_codes code (region_of c.args.cells)) (whole ∙ sym (rows_of c.args.cells c.requires.cells.some_rows))
    ∙ rows_all code (region_of c.args.cells)
