use Rattle.std.proofs.Common.{◌≡◌, replicate}
use Rattle.clip_regions.specs.Regions.{empty_region}
use Rattle.plan_plain_pieces.proofs.active_regions.empties.Given as goal

abbrev pub invariant-made : goal.invariant-made
invariant-made l = l.out.items ≡ replicate l.counter empty_region
