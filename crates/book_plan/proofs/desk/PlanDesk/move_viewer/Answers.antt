use Rattle.std.proofs.Common.{◌≤◌, arith}
use Rattle.book_plan.specs.Desks.{shelf_at}
use Rattle.book_plan.proofs.Placed.{filled_placed, shelf_sound}
use Rattle.book_plan.proofs.desk.PlanDesk.move_viewer.Goals as goal

pub set_levels-requires-clause-placed : goal.set_levels-requires-clause-placed
set_levels-requires-clause-placed c =
    λ level h. filled_placed c.windows_are_near.ensures c.args.self.now level c.requires.standing h

pub set_levels-requires-clause-plans : goal.set_levels-requires-clause-plans
set_levels-requires-clause-plans c =
    λ level h.
    let plan : (shelf_at c.args.self.now level).plan ≤ 9223372036854775808 = (shelf_sound c.args.self.now level c.requires.standing h).plan in
    omega (arith, plan)
