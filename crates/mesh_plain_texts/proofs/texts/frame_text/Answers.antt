-- The head, the vertices and the triangles, one after another.
use Rattle.std.proofs.Common.{rules, append_assoc}
use Rattle.mesh_model.specs.Text.{frame_text}
use Rattle.mesh_plain_texts.proofs.texts.frame_text.Goals as goal

pub returns : goal.returns
unfolding frame_text
returns c = search (rules, append_assoc)
