use Rattle.std.proofs.Common.{◌^◌, ◌≤◌, arith, subst, sym}
use Rattle.clip_regions.specs.Regions.{area}
use Rattle.plan_plain_pieces.specs.Placed.{IsShort}
use Rattle.plan_plain_steps.proofs.Placed.{window_short}
use Rattle.plan_plain.proofs.Areas.{area_few}
use Rattle.clip_flights.proofs.settling.unfilled_cells.Goals as goal

pub returns-clause-few : goal.returns-clause-few
returns-clause-few c =
    let st = c.args.book.now.plan.state in
    let short : IsShort c.window_of-window.result = subst IsShort (sym c.window_of-window.ensures.value) (window_short st.k c.args.level st.x st.y c.requires.rest.sound.size.high) in
    let few : area c.window_of-window.result ≤ 2 ^ 16 = area_few c.window_of-window.result short in
    omega (arith, few, c.saturating_sub.ensures, c.area.ensures.value)
