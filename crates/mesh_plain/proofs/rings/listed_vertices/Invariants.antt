use Rattle.std.proofs.Common.{◌≡◌, ◌++◌, ℕ, List, drop, map}
use Rattle.clip_regions.specs.declared.region.Region.{Region}
use Rattle.mesh_model.specs.Vertices.{LevelCell, listed_from, listed_vertices}
use Rattle.mesh_plain.specs.Rings.{IsActive, level_cell}
use Rattle.mesh_plain.proofs.rings.listed_vertices.Given as goal

pub record HasListed (level index : ℕ) (finer : Region) (whole so_far rest : List LevelCell) : Type 0 where
  pub counted : level ≡ index
  pub active : IsActive finer
  pub listed : so_far ++ rest ≡ whole

abbrev pub invariant-loop-active : goal.invariant-loop-active
invariant-loop-active l =
    HasListed l.level l.active-index l.finer (listed_vertices l.actives) (map level_cell l.listed.items) (listed_from l.level l.finer (drop l.active-index l.actives))
