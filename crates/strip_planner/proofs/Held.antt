-- A filled region that its window holds.
use Rattle.std.proofs.Common.{◌≡◌, true, inr}
use Rattle.clip_regions.specs.declared.region.Region.{Region}
use Rattle.clip_regions.specs.Regions.{holds}
use Rattle.plan_model.specs.Laws.{IsFilledIn}

pub held : (filled window : Region) → holds window filled ≡ true → IsFilledIn filled window
held filled window e = inr e
