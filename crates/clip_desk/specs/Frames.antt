-- What is put for a frame that ends: its name, and its text over the terrain and its own active regions.
use Rattle.std.specs.Prelude.{ℕ, List, ◌++◌, codes, decimal}
use Rattle.terrain_model.specs.Terrain.{Terrain}
use Rattle.plan_model.specs.States.{OpenFrame}
use Rattle.mesh_model.specs.declared.shapes.HalfSpace.{HalfSpace}
use Rattle.mesh_model.specs.Mesh.{MeshLists, mesh}
use Rattle.mesh_model.specs.Text.{frame_text}
use Rattle.mesh_model.specs.Seen.{seen_text}

-- `OUT-f.obj`
unfoldable pub frame_name : List ℕ → ℕ → List ℕ
frame_name name number = name ++ (codes "-" ++ (decimal number ++ codes ".obj"))

-- the mesh of a frame for K, whatever moves came since it was begun
abbrev pub mesh_of : Terrain → ℕ → OpenFrame → MeshLists
mesh_of terrain k frame = mesh terrain k frame.actives

-- the text of a frame whose mesh has these lists
abbrev pub whole_text_of : OpenFrame → MeshLists → List ℕ
whole_text_of frame lists = frame_text frame.number frame.x frame.y frame.actives lists

-- the text of the parts of it that a view keeps
abbrev pub seen_text_of : OpenFrame → List HalfSpace → MeshLists → List ℕ
seen_text_of frame view lists = seen_text frame.number frame.x frame.y frame.actives lists view
