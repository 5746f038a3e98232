-- No triangle of a mesh goes from a vertex to the same one: a spot is no step away from itself.
use Rattle.std.proofs.Common.{◌≡◌, ℕ, ◌<◌, List, ◌∷◌, All, length, arith}
use Rattle.clip_regions.specs.declared.region.Region.{Region}
use Rattle.plan_model.specs.Laws.{AllEvenOrEmpty, AreNested}
use Rattle.active_region.specs.Active.{IsWideOrEmpty}
use Rattle.terrain_model.specs.Terrain.{Terrain}
use Rattle.mesh_model.specs.Vertices.{mesh_vertices}
use Rattle.mesh_model.specs.Mesh.{mesh}
use Rattle.mesh_model.specs.Laws.{VerticesApart, OwnPlaces}
use Rattle.mesh_model.specs.Watertight.{edge_count}
use Rattle.mesh_laws.specs.Laws.{PartSquares}
use Rattle.watertight_laws.specs.Laws.{spot_of}
use Rattle.watertight_laws.proofs.Levels.{count_most, mesh_tally}
use Rattle.watertight_laws.proofs.Whole.{none_self}

pub none_to_itself : PartSquares → VerticesApart → OwnPlaces → (terrain : Terrain) (k e : ℕ) (active : Region) (coarser : List Region) →
    AllEvenOrEmpty (active ∷ coarser) → All IsWideOrEmpty (active ∷ coarser) → AreNested e (active ∷ coarser) →
    (a : ℕ) → a < length (mesh_vertices terrain k (active ∷ coarser)) → edge_count (mesh terrain k (active ∷ coarser)).triangles a a ≡ 0
none_to_itself parts apart own terrain k e active coarser evens wides nested a low =
    let most = count_most (mesh terrain k (active ∷ coarser)).triangles a a in
    let sums = mesh_tally parts apart own terrain k e (active ∷ coarser) a a evens wides nested low low in
    let none = none_self active coarser (spot_of (mesh_vertices terrain k (active ∷ coarser)) a) in
    omega (arith, most, sums, none)
