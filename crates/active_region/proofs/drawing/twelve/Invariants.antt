use Rattle.std.proofs.Common.{◌≤◌}
use Rattle.plan_model.specs.Window.{margin}
use Rattle.active_region.proofs.Drawn.{IsMadeFrom}
use Rattle.active_region.proofs.drawing.twelve.Given as goal

abbrev pub invariant-loop-level : goal.invariant-loop-level
invariant-loop-level l = record { above : l.finest ≤ l.level; made : IsMadeFrom (margin l.k) l.level l.filled l.regions }
