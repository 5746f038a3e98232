use Rattle.std.proofs.Common.{◌≡◌, ◌*◌, ap, ◌∙◌, arith}
use Rattle.std.proofs.Math.Nat.{mul_comm}
use Rattle.terrain_model.specs.Terrain.{level_height}
use Rattle.grid_fills.proofs.Filling.{filled_whole, zeros_stand}
use Rattle.grid_fills.proofs.fills.heights_on.Goals as goal

pub returns-clause-heights : goal.returns-clause-heights
returns-clause-heights c =
    let s = c.args.cells in
    let last : c.loop-row.row ≡ s.down = omega arith in
    filled_whole (level_height c.args.grid.now c.args.level) s.cells s.across (s.across * s.down) _ c.loop-row.out c.loop-row.invariant (ap (λ n. n * s.across) last ∙ mul_comm s.down s.across) s.few s.columns

pub returns-then-lies_outside-clause-heights : goal.returns-then-lies_outside-clause-heights
returns-then-lies_outside-clause-heights c =
    let s = c.args.cells in
    zeros_stand (level_height c.args.grid.now c.args.level) s.cells s.across s.down (c.lies_outside.ensures c.if-lies_outside.true) s.columns s.east s.south s.some s.few
