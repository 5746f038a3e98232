use Rattle.std.proofs.Common.{◌+◌, ◌-◌, List, ℤ, sym, ◌∙◌}
use mathlib.Core.Path.{ap₂}
use Rattle.torus_grid.specs.Patches.{beside}
use Rattle.torus_grid.proofs.Patches.{among_north, among_south}
use Rattle.torus_grid.proofs.tile.seven_of_four.Goals as goal

pub returns-then-y-lt8 : goal.returns-then-y-lt8
returns-then-y-lt8 c = λ a l.
    c.seven_of_two.ensures a l ∙ ap₂ (λ (w e : List ℤ). beside w e (c.args.x + a) c.args.y) c.nw.view_is c.ne.view_is ∙ sym (among_north c.args.nw.now c.args.ne.now c.args.sw.now c.args.se.now (c.args.x + a) c.args.y c.if-y-lt8.true)

pub returns-else-y-lt8 : goal.returns-else-y-lt8
returns-else-y-lt8 c = λ a l.
    c.seven_of_two-else-y-lt8.ensures a l ∙ ap₂ (λ (w e : List ℤ). beside w e (c.args.x + a) (c.args.y - 8)) c.sw.view_is c.se.view_is ∙ sym (among_south c.args.nw.now c.args.ne.now c.args.sw.now c.args.se.now (c.args.x + a) c.args.y c.if-y-lt8.false)
