-- The frames of a run.
use Rattle.std.specs.Prelude.{ℕ, List, map, length}
use Rattle.std.specs.List.Sorted.{IsPermutation, IsNonDecreasingBy}
use Rattle.terrain_model.specs.Terrain.{Terrain}
use Rattle.plan_model.specs.States.{OpenFrame}
use Rattle.plan_model.specs.declared.events.Entry.{Entry}
use Rattle.mesh_model.specs.Mesh.{MeshLists, mesh}
use Rattle.mesh_model.specs.Text.{frame_text}
use Rattle.swarm_laws.specs.Closings.{Closing, closings_in}

-- a frame of a run: its number, its text, and how many vertices and triangles the text has
pub record FrameView : Type 0 where
  pub number : ℕ
  pub bytes : List ℕ
  pub vertices : ℕ
  pub triangles : ℕ

-- the frame that a mesh of these lists makes
abbrev pub printed : OpenFrame → MeshLists → FrameView
printed frame lists = record {
  number = frame.number;
  bytes = frame_text frame.number frame.x frame.y frame.actives lists;
  vertices = length lists.vertices;
  triangles = length lists.triangles;
}

-- what is printed of a frame that was closed, over a terrain and for K
abbrev pub shown : Terrain → ℕ → Closing → FrameView
shown terrain k closing = printed closing.frame (mesh terrain k closing.frame.actives)

-- by rising number, exactly the frames that a history closes, each with its text and the counts of the text
pub record AreFramesOf (terrain : Terrain) (k levels : ℕ) (log : List Entry) (frames : List FrameView) : Type 0 where
  pub rising : IsNonDecreasingBy (λ frame. frame.number) frames
  pub exact : IsPermutation (map (shown terrain k) (closings_in k levels log)) frames
