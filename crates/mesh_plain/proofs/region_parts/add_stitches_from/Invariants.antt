use Rattle.std.proofs.Common.{◌≡◌, ◌++◌, ◌+◌, ℕ, List, drop}
use Rattle.clip_regions.specs.declared.region.Region.{Region}
use Rattle.mesh_model.specs.Parts.{PartTriangles, stitch_parts_from}
use Rattle.mesh_plain.specs.Frames.{IsDrawn, AreDrawn}
use Rattle.mesh_plain.proofs.region_parts.add_stitches_from.Given as goal

pub record HasMade (level index : ℕ) (active : Region) (left : List Region) (whole so_far rest : List PartTriangles) : Type 0 where
  pub counted : level ≡ index
  pub current : IsDrawn level active
  pub drawn : AreDrawn (level + 1) left
  pub made : so_far ++ rest ≡ whole

abbrev pub invariant-loop-next : goal.invariant-loop-next
invariant-loop-next l =
    HasMade l.level l.next-index l.active (drop l.next-index l.coarser) (l.fn.parts.items ++ stitch_parts_from l.vertices 0 l.finest l.coarser) l.parts.items (stitch_parts_from l.vertices l.level l.active (drop l.next-index l.coarser))
