use Rattle.four_point.proofs.BlockLemmas.{rows_of_eight}
use Rattle.four_point.proofs.BlockCells.{cells_are}
use Rattle.four_point.proofs.block.predict_block.Goals as goal

pub invariant_of-result : goal.invariant_of-result
invariant_of-result c = record {
  values =
      cells_are c.args.patch.now c.line_of-a.result c.line_of-b.result c.line_of-c.result c.line_of-d.result c.line_of-e.result c.line_of-f.result c.line_of-g.result
      c.even_row.result c.middle_row.result c.even_row-2.result c.middle_row-2.result c.even_row-3.result c.middle_row-3.result c.even_row-4.result c.middle_row-4.result
      c.line_of-a.ensures.line c.line_of-b.ensures.line c.line_of-c.ensures.line c.line_of-d.ensures.line c.line_of-e.ensures.line c.line_of-f.ensures.line c.line_of-g.ensures.line
      c.even_row.ensures.value c.middle_row.ensures.value c.even_row-2.ensures.value c.middle_row-2.ensures.value c.even_row-3.ensures.value c.middle_row-3.ensures.value c.even_row-4.ensures.value c.middle_row-4.ensures.value;
  sizes = rows_of_eight c.even_row.result c.middle_row.result c.even_row-2.result c.middle_row-2.result c.even_row-3.result c.middle_row-3.result c.even_row-4.result c.middle_row-4.result
      c.even_row.ensures.size c.middle_row.ensures.size c.even_row-2.ensures.size c.middle_row-2.ensures.size c.even_row-3.ensures.size c.middle_row-3.ensures.size c.even_row-4.ensures.size c.middle_row-4.ensures.size;
}
