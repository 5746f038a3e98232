use Rattle.std.proofs.Common.{◌++◌, ◌∷◌, [], ◌∙◌, ℤ, List, pos, ap, sym, append-nil, append_assoc, arith}
use Rattle.std.specs.Int.{w32}
use Rattle.std.proofs.lemmas.Int.{to_z-of_z}
use mathlib.Core.Path.{ap₂}
use Rattle.rice_residuals.specs.declared.residuals.Residuals.{Residuals}
use Rattle.store_writer.proofs.Patches.{residual_fits}
use Rattle.four_point.specs.Patches.{patch_height}
use Rattle.rice_residuals.specs.List.{residual_list}
use Rattle.store_writer.specs.Entries.{code_over, row_codes}
use Rattle.store_writer.proofs.Rows.{row_none, row_more_coded, row_more_even}
use Rattle.store_writer.proofs.block.push_row.Goals as goal
use Rattle.store_writer.proofs.block.push_row.Goals.{then-is_coded, else-is_coded}

pub loop-a-init : goal.loop-a-init
loop-a-init g c =
    let code = code_over (patch_height c.args.predicted.now.patch.now) (g.F.Heights.heights c.args.finer.now) c.args.step in
    let old = residual_list c.args.codes.now in
    record {
      few = omega arith;
      list = sym (ap (λ (xs : List ℤ). old ++ xs) (row_none code (pos c.args.cells.x0) (pos c.args.j)) ∙ append-nil old);
    }

pub loop-a-preserved : goal.loop-a-preserved
loop-a-preserved g c =
    let code = code_over (patch_height c.args.predicted.now.patch.now) (g.F.Heights.heights c.args.finer.now) c.args.step in
    let old = residual_list c.args.codes.now in
    let x = pos c.args.cells.x0 in
    let j = pos c.args.j in
    let a = c.loop-a.a in
    let i = c.loop-a.invariant in
    elim c.if-is_coded.branch [
      | then-is_coded w ↦
          let coded = sym c.is_coded.ensures ∙ w.if-is_coded.true in
          let count = ap (λ (r : Residuals). r.count) w.codes-is in
          let more = w.push.ensures.count in
          record {
            few = omega arith;
            list =
                ap residual_list w.codes-is
                ∙ w.push.ensures.list
                ∙ ap₂ (λ (xs : List ℤ) (y : ℤ). xs ++ y ∷ []) i.list (to_z-of_z w32 w.code_at.result (residual_fits w.code_at.result w.code_at.ensures.size) ∙ w.code_at.ensures.value)
                ∙ append_assoc old (row_codes code x j a) _
                ∙ ap (λ (xs : List ℤ). old ++ xs) (sym (row_more_coded code x j a coded));
          }
      | else-is_coded w ↦
          let even = sym c.is_coded.ensures ∙ w.if-is_coded.false in
          let count = ap (λ (r : Residuals). r.count) w.codes-is in
          record {
            few = omega arith;
            list = ap residual_list w.codes-is ∙ i.list ∙ ap (λ (xs : List ℤ). old ++ xs) (sym (row_more_even code x j a even));
          }
    ]
