use Rattle.std.proofs.Common.{◌<◌, ◌∙◌, ℕ, length, sym, arith, length-set}
use Rattle.std.specs.Int.{w16, w32}
use Rattle.std.proofs.lemmas.Int.{to_z-of_z}
use mir.Val.{SFits, to_z, of_z}
use Rattle.block_heights.specs.Pieces.{row_value}
use Rattle.block_heights.proofs.Cells.{same16}
use Rattle.block_heights.proofs.ExactRows.{exact_of, exact_more}
use Rattle.block_heights.proofs.rows.exact_row.Goals as goal

pub loop-a-preserved : goal.loop-a-preserved
loop-a-preserved c =
    let row = c.args.row.now in
    let value = λ (k : ℕ). row_value row.predicted row.before row.codes row.step k in
    let a = c.loop-a.a in
    let r = c.raised-raised.result in
    let v = c.value_in.result in
    let v_fits : SFits w32 v = record { sfits = c.value_in.type_inv } in
    let eight = c.loop-a.invariant.whole in
    let inside : a < length c.loop-a.heights = omega arith in
    record {
      whole = length-set c.loop-a.heights a (to_z w16 (of_z w16 c.lowered.result)) ∙ eight;
      exact = exact_more a c.loop-a.all r c.loop-a.heights value (to_z w16 (of_z w16 c.lowered.result)) inside (λ (few : r < 65536). exact_of (value a) (to_z w16 (of_z w16 c.lowered.result)) r (sym c.value_in.ensures.value ∙ sym (to_z-of_z w32 v v_fits) ∙ c.raised-raised.ensures few) (same16 c.lowered.result c.lowered.type_inv ∙ c.lowered.ensures few) few) c.loop-a.invariant.exact;
    }
