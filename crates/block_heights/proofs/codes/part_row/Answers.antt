use Rattle.std.proofs.Common.{◌≡◌, ◌<◌, ◌+◌, ◌∙◌, ℕ, pos, length, take, get_or, sym, ap, subst, arith, length-set}
use Rattle.std.specs.Int.{w32}
use Rattle.std.proofs.lemmas.Int.{to_z-of_z}
use mir.Val.{to_z, of_z}
use Rattle.rice_residuals.specs.Code.{IsResidual}
use Rattle.block_heights.specs.Rows.{row_values, IsCodeRow, HasCodes}
use Rattle.block_heights.proofs.CodedRows.{count_more_coded, count_more_even, count_mono, row_more_coded, row_more_even, even_more, codes_more, residual_fits}
use Rattle.block_heights.proofs.codes.part_row.Goals as goal
use Rattle.block_heights.proofs.codes.part_row.Goals.{then-is_coded_in, else-is_coded_in}

pub bounds-values-used : goal.bounds-values-used
bounds-values-used c =
    let more = count_more_coded c.args.region c.args.b c.loop-a.a (sym c.is_coded_in.ensures ∙ c.if-is_coded_in.true) in
    let all = count_mono c.args.region c.args.b (c.loop-a.a + 1) c.args.width (omega arith) in
    let i = c.loop-a.invariant in
    omega arith

pub loop-a-preserved : goal.loop-a-preserved
loop-a-preserved c =
    let i = c.loop-a.invariant in
    let region = c.args.region in
    let b = c.args.b in
    let a = c.loop-a.a in
    let values = c.args.values.now in
    elim c.if-is_coded_in.branch [
      | then-is_coded_in w ↦
          let coded = sym c.is_coded_in.ensures ∙ w.if-is_coded_in.true in
          let more = count_more_coded region b a coded in
          let all = count_mono region b (a + 1) c.args.width (omega arith) in
          let enough : c.loop-a.used < length values = omega arith in
          let eight = i.whole in
          let inside : a < length c.loop-a.codes = omega arith in
          let fits : IsResidual (get_or values c.loop-a.used (pos 0)) = c.requires.in_range c.loop-a.used (pos 0) enough in
          let x = to_z w32 (of_z w32 (get_or values c.loop-a.used (pos 0))) in
          let same : x ≡ get_or values c.loop-a.used (pos 0) = to_z-of_z w32 (get_or values c.loop-a.used (pos 0)) (residual_fits _ fits) in
          let used_is : c.if-is_coded_in.used ≡ c.loop-a.used + 1 = w.used-is in
          record {
            whole = ap length w.codes-is ∙ length-set c.loop-a.codes a x ∙ i.whole;
            used = omega arith;
            codes =
                ap (row_values region b (a + 1)) w.codes-is
                ∙ row_more_coded region b a c.loop-a.used values c.loop-a.codes x coded inside enough same i.codes
                ∙ ap (λ (n : ℕ). take n values) (sym used_is);
            even = subst (IsCodeRow region b) (sym w.codes-is) (even_more region b a c.loop-a.codes x coded i.even);
            in_range = subst HasCodes (sym w.codes-is) (codes_more c.loop-a.codes a x (subst IsResidual (sym same) fits) i.in_range);
          }
      | else-is_coded_in w ↦
          let even = sym c.is_coded_in.ensures ∙ w.if-is_coded_in.false in
          let more = count_more_even region b a even in
          let used_is : c.if-is_coded_in.used ≡ c.loop-a.used = w.used-is in
          record {
            whole = ap length w.codes-is ∙ i.whole;
            used = omega arith;
            codes =
                ap (row_values region b (a + 1)) w.codes-is
                ∙ row_more_even region b a c.loop-a.used values c.loop-a.codes even i.codes
                ∙ ap (λ (n : ℕ). take n values) (sym used_is);
            even = subst (IsCodeRow region b) (sym w.codes-is) i.even;
            in_range = subst HasCodes (sym w.codes-is) i.in_range;
          }
    ]
