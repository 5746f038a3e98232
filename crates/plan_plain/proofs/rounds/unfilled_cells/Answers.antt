use Rattle.std.proofs.Common.{◌^◌, ◌≤◌, arith}
use Rattle.clip_regions.specs.Regions.{area}
use Rattle.plan_plain.proofs.Areas.{area_few}
use Rattle.plan_plain.proofs.rounds.unfilled_cells.Goals as goal

pub returns-clause-few : goal.returns-clause-few
returns-clause-few c =
    let few : area c.window_at-window.result ≤ 2 ^ 16 = area_few c.window_at-window.result c.window_at-window.ensures.short in
    omega (arith, few, c.saturating_sub.ensures, c.area.ensures.value)
