-- The windows are those of the levels, and each can be filled.
use Rattle.std.proofs.Common.{sym, subst, ap, ◌∙◌, arith}
use Rattle.plan_model.specs.Actives.{actives}
use Rattle.active_region.specs.Active.{AreFilled}
use Rattle.grid_frames.specs.Whole.{whole_regions}
use Rattle.grid_frames.proofs.Filled.{windows_alone, windows_filled}
use Rattle.grid_frames.proofs.windows.whole_regions.Goals as goal

pub actives-requires-clause-filled : goal.actives-requires-clause-filled
actives-requires-clause-filled c =
    let viewer = c.args.viewer.now in
    let same = windows_alone c.args.k c.args.levels c.from.result viewer.x viewer.y c.twelve_windows-windows.result c.from.ensures c.twelve_windows-windows.ensures in
    subst (AreFilled c.args.k) (sym same) (windows_filled c.args.k c.args.levels viewer.x viewer.y (omega (arith, c.requires.k.low)) c.requires.x c.requires.y c.windows_have_even_corners.ensures)

pub returns : goal.returns
unfolding whole_regions
returns c =
    let viewer = c.args.viewer.now in
    let same = windows_alone c.args.k c.args.levels c.from.result viewer.x viewer.y c.twelve_windows-windows.result c.from.ensures c.twelve_windows-windows.ensures in
    record { value = c.actives.ensures.value ∙ ap (actives c.args.k 0) same }
