-- What is printed of a frame.
use Rattle.std.specs.Prelude.{ℕ, List}
use Rattle.plan_model.specs.States.{OpenFrame}
use Rattle.mesh_model.specs.Mesh.{MeshLists}
use Rattle.mesh_model.specs.Text.{frame_text}

-- the text of a frame with a mesh of these lists
abbrev pub text_of : OpenFrame → MeshLists → List ℕ
text_of frame lists = frame_text frame.number frame.x frame.y frame.actives lists
