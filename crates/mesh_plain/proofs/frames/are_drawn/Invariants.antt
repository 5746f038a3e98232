use Rattle.std.proofs.Common.{◌≡◌, ℕ, List, drop}
use Rattle.clip_regions.specs.declared.region.Region.{Region}
use Rattle.mesh_plain.specs.Frames.{AreDrawn}
use Rattle.mesh_plain.proofs.frames.are_drawn.Given as goal

pub record HasTested (level index : ℕ) (whole left : List Region) : Type 0 where
  pub counted : level ≡ index
  pub drawn : AreDrawn level left → AreDrawn 0 whole
  pub still : AreDrawn 0 whole → AreDrawn level left

abbrev pub invariant-loop-active : goal.invariant-loop-active
invariant-loop-active l = HasTested l.level l.active-index l.actives (drop l.active-index l.actives)
