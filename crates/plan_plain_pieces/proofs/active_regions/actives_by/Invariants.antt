use Rattle.std.proofs.Common.{◌≡◌, ◌-◌, drop, length}
use Rattle.plan_model.specs.Window.{margin}
use Rattle.plan_model.specs.Actives.{actives_by}
use Rattle.plan_plain_pieces.proofs.active_regions.actives_by.Given as goal

abbrev pub invariant-loop-i : goal.invariant-loop-i
invariant-loop-i l = l.out.items ≡ actives_by (margin l.k) (drop (length l.filled - l.i) l.filled)
