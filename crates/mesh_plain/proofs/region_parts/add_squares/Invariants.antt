use Rattle.std.proofs.Common.{◌≡◌, ◌++◌, ℕ, List, drop, false}
use Rattle.clip_regions.specs.declared.region.Region.{Region}
use Rattle.clip_regions.specs.Regions.{is_empty, empty_region}
use Rattle.mesh_model.specs.Vertices.{hole}
use Rattle.mesh_model.specs.Parts.{PartTriangles, square_parts_from}
use Rattle.mesh_plain.specs.Blocks.{HasPlacedCorners}
use Rattle.mesh_plain.specs.Frames.{AreDrawn}
use Rattle.mesh_plain.specs.Rings.{IsActive}
use Rattle.mesh_plain.proofs.region_parts.add_squares.Given as goal

pub record HasMade (level index : ℕ) (finer : Region) (left : List Region) (whole so_far rest : List PartTriangles) : Type 0 where
  pub counted : level ≡ index
  pub active : IsActive finer
  pub gap : is_empty (hole finer) ≡ false → HasPlacedCorners level (hole finer)
  pub drawn : AreDrawn level left
  pub made : so_far ++ rest ≡ whole

abbrev pub invariant-loop-active : goal.invariant-loop-active
invariant-loop-active l =
    HasMade l.level l.active-index l.finer (drop l.active-index l.actives) (l.fn.parts.items ++ square_parts_from l.vertices 0 empty_region l.actives) l.parts.items (square_parts_from l.vertices l.level l.finer (drop l.active-index l.actives))
