-- One window more.
use Rattle.std.proofs.Common.{◌<◌, replicate, refl, ap, ◌∙◌, w32, arith, rules}
use Rattle.std.proofs.lemmas.Int.{to_z-of_z}
use Rattle.std.proofs.Math.ListN.{set}
use Rattle.plan_model.specs.Window.{window}
use Rattle.grid_frames.proofs.Filled.{next_window, first_windows}
use Rattle.grid_frames.proofs.windows.twelve_windows.Goals as goal
use mir.Val.{SFits}

pub loop-level-init : goal.loop-level-init
loop-level-init c = first_windows c.args.k c.args.viewer.now.x c.args.viewer.now.y (replicate 12 c.empty-windows.result) c.empty-windows.result refl c.empty-windows.ensures.value

pub loop-level-preserved : goal.loop-level-preserved
loop-level-preserved c =
    let fits_x : SFits w32 c.args.viewer.now.x = search rules in
    let fits_y : SFits w32 c.args.viewer.now.y = search rules in
    let is = c.window.ensures.value ∙ (λ t. window c.args.k c.loop-level.level (to_z-of_z w32 c.args.viewer.now.x fits_x t) (to_z-of_z w32 c.args.viewer.now.y fits_y t)) in
    let few : c.loop-level.level < 12 = omega (arith, c.loop-level-test.true, c.requires.levels) in
    ap (λ i. set c.loop-level.windows i c.window.result) c.from.ensures
    ∙ next_window c.args.k c.loop-level.level c.args.viewer.now.x c.args.viewer.now.y c.loop-level.windows c.window.result few c.loop-level.invariant is
