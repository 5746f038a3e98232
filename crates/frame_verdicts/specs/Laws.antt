-- Laws over the definitions alone.
use Rattle.std.specs.Prelude.{◌≡◌, ℕ, ◌^◌, ◌<◌, ℤ, List, length}
use Rattle.clip_regions.specs.declared.region.Region.{Region}
use Rattle.plan_model.specs.Limits.{IsSize, IsLevelCount, IsViewed}
use Rattle.plan_model.specs.Laws.{AllEvenOrEmpty}
use Rattle.plan_model.specs.Actives.{actives}
use Rattle.active_region.specs.Active.{AreFilled, AreDrawn}
use Rattle.terrain_model.specs.Terrain.{Terrain, IsTerrain}
use Rattle.mesh_model.specs.Mesh.{mesh}
use Rattle.mesh_model.specs.Text.{frame_text}
use Rattle.mesh_model.specs.Watertight.{covered}
use Rattle.mesh_lists.specs.Lists.{Lists}
use Rattle.mesh_check.specs.Verdict.{verdict_of_lists, verdict}
use Rattle.mesh_check.specs.declared.verdict.Verdict.TheVariants.{Watertight}

-- the lists of the mesh of some active regions: its vertices, its triangles, and what the regions cover
abbrev pub lists_of_mesh : Terrain → ℕ → List Region → Lists
lists_of_mesh terrain k actives =
    record {
      vertices = (mesh terrain k actives).vertices;
      triangles = (mesh terrain k actives).triangles;
      border = covered actives;
    }

-- the verdict on these lists is Watertight with the number of triangles
abbrev pub IsJudgedWatertight : Terrain → ℕ → List Region → Type 0
IsJudgedWatertight terrain k actives =
    verdict_of_lists (lists_of_mesh terrain k actives) ≡ Watertight (length (mesh terrain k actives).triangles)

-- for the active regions of a plan
abbrev pub PlansAreJudgedWatertight : Type 0
PlansAreJudgedWatertight =
    (terrain : Terrain) (k finest : ℕ) (filled : List Region) → IsSize k → AllEvenOrEmpty filled →
    IsJudgedWatertight terrain k (actives k finest filled)

-- for those of a frame
abbrev pub FramesAreJudgedWatertight : Type 0
FramesAreJudgedWatertight =
    (terrain : Terrain) (k : ℕ) (actives : List Region) → IsSize k → AreDrawn k actives →
    IsJudgedWatertight terrain k actives

-- the verdict on the text of a frame with this number and viewer is Watertight with the number of triangles
abbrev pub IsTextJudgedWatertight : Terrain → ℕ → ℕ → ℤ → ℤ → List Region → Type 0
IsTextJudgedWatertight terrain k number x y actives =
    verdict (frame_text number x y actives (mesh terrain k actives))
    ≡ Watertight (length (mesh terrain k actives).triangles)

-- for the active regions of a plan
abbrev pub PlanTextsAreJudgedWatertight : Type 0
PlanTextsAreJudgedWatertight =
    (terrain : Terrain) (k number : ℕ) (x y : ℤ) (finest : ℕ) (filled : List Region) →
    IsTerrain terrain → IsSize k → number < 2 ^ 64 → IsViewed x → IsViewed y →
    IsLevelCount (length filled) → AreFilled k filled →
    IsTextJudgedWatertight terrain k number x y (actives k finest filled)

-- for those of a frame
abbrev pub FrameTextsAreJudgedWatertight : Type 0
FrameTextsAreJudgedWatertight =
    (terrain : Terrain) (k number : ℕ) (x y : ℤ) (actives : List Region) →
    IsTerrain terrain → IsSize k → number < 2 ^ 64 → IsViewed x → IsViewed y → AreDrawn k actives →
    IsTextJudgedWatertight terrain k number x y actives
