use Rattle.std.proofs.Common.{◌≡◌, length, take, ap, sym, arith, length-take}
use Rattle.strip_planner.proofs.strip_list.Strips.count.Goals as goal

pub returns-clause-value : goal.returns-clause-value
returns-clause-value c =
    let seen : length c.args.self.now ≡ length (take c.self.inside.used c.self.inside.regions) = ap length (sym c.self.view_is) in
    let taken = length-take c.self.inside.used c.self.inside.regions in
    let size : length c.self.inside.regions ≡ 4 = c.self.invariant.1 in
    omega (arith, seen, taken, size)
