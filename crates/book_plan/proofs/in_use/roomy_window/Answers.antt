use Rattle.std.proofs.Common.{◌≡◌, sym, subst, rules}
use Rattle.plan_model.specs.Window.{window}
use Rattle.book_plan.specs.Moves.{IsRoomy}
use Rattle.book_plan.proofs.Rooms.{roomy}
use Rattle.book_plan.proofs.in_use.roomy_window.Goals as goal

pub returns-clause-roomy : goal.returns-clause-roomy
returns-clause-roomy c =
    let e : c.window.result ≡ window c.args.k c.args.level c.args.x c.args.y = search rules in
    subst IsRoomy (sym e) (roomy c.regions_in_windows_are_planned.ensures c.windows_have_few_pieces.ensures c.strips_lie_in_windows.ensures c.args.k c.args.level c.args.x c.args.y c.requires.k c.requires.x c.requires.y)
