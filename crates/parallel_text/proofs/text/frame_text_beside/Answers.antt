-- The head, and then the lines, are the frame's text.
use Rattle.std.proofs.Common.{rules, append_assoc}
use Rattle.mesh_model.specs.Text.{frame_text}
use Rattle.parallel_text.specs.Lines.{lines_text}
use Rattle.parallel_text.proofs.text.frame_text_beside.Goals as goal

pub returns : goal.returns
unfolding frame_text lines_text
returns g c = search (rules, append_assoc)
