-- Laws over the definitions alone.
use Rattle.std.specs.Prelude.{◌≡◌, ℕ, ◌^◌, ◌<◌, ◌⊎◌, ℤ, List, length, All, Ok}
use Rattle.clip_regions.specs.declared.region.Region.{Region}
use Rattle.clip_regions.specs.Regions.{empty_region, IsWithin, HasEvenCorners}
use Rattle.plan_model.specs.Limits.{IsViewed, IsLevelCount, IsSize}
use Rattle.active_region.specs.Active.{IsWide, AreActive}
use Rattle.terrain_model.specs.Terrain.{Terrain, IsTerrain}
use Rattle.mesh_laws.specs.Conditions.{IsAtMost}
use Rattle.mesh_model.specs.declared.shapes.Vertex.{Vertex}
use Rattle.mesh_model.specs.Mesh.{MeshLists, mesh}
use Rattle.mesh_model.specs.Text.{frame_text}
use Rattle.mesh_model.specs.Watertight.{covered}
use Rattle.mesh_lists.specs.Lists.{IsNear, IsFace, lists_of_text}

-- the region has even corners, none of them farther from zero than 2^24, and sides of 2 or more
pub record IsDrawn (r : Region) : Type 0 where
  pub even : HasEvenCorners r
  pub near : IsWithin (2 ^ 24) r
  pub wide : IsWide r

-- a level has such a region or none
abbrev pub IsDrawnOrEmpty : Region → Type 0
IsDrawnOrEmpty r = (r ≡ empty_region) ⊎ IsDrawn r

-- a vertex stands no farther from zero than 2^24, and no farther from height 0 than 2^20 thirty-seconds of a metre
pub record IsPrinted (vertex : Vertex) : Type 0 where
  pub near : IsNear vertex
  pub height : IsAtMost (2 ^ 20) vertex.height

-- the numbers of a frame's text are in their ranges
pub record ArePrinted (actives : List Region) (lists : MeshLists) : Type 0 where
  pub levels : IsLevelCount (length actives)
  pub regions : All IsDrawnOrEmpty actives
  pub covered : IsWithin (2 ^ 24) (covered actives)
  pub few : length lists.vertices < 2 ^ 64
  pub vertices : All IsPrinted lists.vertices
  pub faces : All (IsFace (length lists.vertices)) lists.triangles

-- the lists of such a text are those that it was printed from
abbrev pub TextsSayLists : Type 0
TextsSayLists =
    (number : ℕ) (x y : ℤ) (actives : List Region) (lists : MeshLists) →
    number < 2 ^ 64 → IsAtMost (2 ^ 24) x → IsAtMost (2 ^ 24) y → ArePrinted actives lists →
    lists_of_text (frame_text number x y actives lists)
    ≡ Ok (record { vertices = lists.vertices; triangles = lists.triangles; border = covered actives })

-- the numbers of a frame's mesh are in the ranges of its text
abbrev pub MeshesArePrinted : Type 0
MeshesArePrinted =
    (terrain : Terrain) (k : ℕ) (actives : List Region) → IsTerrain terrain → IsSize k → AreActive actives →
    ArePrinted actives (mesh terrain k actives)

-- the lists of the text of a frame are those of its mesh
abbrev pub FramesSayMesh : Type 0
FramesSayMesh =
    (terrain : Terrain) (k number : ℕ) (x y : ℤ) (actives : List Region) →
    IsTerrain terrain → IsSize k → AreActive actives → number < 2 ^ 64 → IsViewed x → IsViewed y →
    lists_of_text (frame_text number x y actives (mesh terrain k actives))
    ≡ Ok (record {
      vertices = (mesh terrain k actives).vertices;
      triangles = (mesh terrain k actives).triangles;
      border = covered actives;
    })
